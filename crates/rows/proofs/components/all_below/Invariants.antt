-- R15: `fits` tells whether all bytes passed are below the limit.
use Rattle.std.proofs.Common.{◌≡◌, ◌↔◌, ℕ, ◌<◌, true, get_or}
use Rattle.rows.proofs.components.all_below.Given as goal

abbrev pub invariant-loop-byte : goal.invariant-loop-byte
invariant-loop-byte l = (l.fits ≡ true) ↔ ((k : ℕ) → k < l.byte-index → get_or l.bytes k 0 < l.limit)
