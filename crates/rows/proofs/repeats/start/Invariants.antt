-- R16: the sets passed have all rows before theirs.
use Rattle.std.proofs.Common.{◌≡◌, ℕ, ◌<◌, get_or}
use Rattle.rows.specs.repeats.Earlier.{rows_before}
use Rattle.rows.proofs.repeats.start.Given as goal

abbrev pub invariant-loop-g : goal.invariant-loop-g
invariant-loop-g l = (k : ℕ) → k < l.g → get_or l.same k 0 ≡ rows_before k
