-- R15: no column passed has a number out of range.
use Rattle.std.proofs.Common.{◌≡◌, ℕ, ◌<◌, false}
use Rattle.products.specs.ProductBytes.{product_of}
use Rattle.products.specs.ProductVerdict.{column_wrong}
use Rattle.rows.proofs.entries.numbers_out.Given as goal

abbrev pub invariant-loop-j : goal.invariant-loop-j
invariant-loop-j l = (k : ℕ) → k < l.j → column_wrong (product_of l.rows.bytes.now) k ≡ false
