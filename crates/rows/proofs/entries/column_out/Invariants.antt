-- R15: no number passed is out of range.
use Rattle.std.proofs.Common.{◌≡◌, ℕ, ◌<◌, false}
use Rattle.rows.proofs.entries.Columns.{out_at}
use Rattle.rows.proofs.entries.column_out.Given as goal

abbrev pub invariant-loop-g : goal.invariant-loop-g
invariant-loop-g l = (k : ℕ) → k < l.g → out_at l.rows.bytes.now l.j k ≡ false
