-- B7: the parts passed have the alphabets of their components, and all parts have where these begin.
use Rattle.std.proofs.Common.{◌≡◌, ℕ, ◌<◌}
use Rattle.products.specs.ProductBytes.{product_of}
use Rattle.products.specs.ProductSheet.{alphabet}
use Rattle.rows.specs.Reading.{alphabet_at, BeginsLeft}
use Rattle.rows.proofs.entries.fill_alphabets.Given as goal

abbrev pub invariant-loop-j : goal.invariant-loop-j
invariant-loop-j l = record {
  begins : BeginsLeft l.rows.bytes.now l.parts;
  alphabets : (k : ℕ) → k < l.j → alphabet_at l.parts k ≡ alphabet (product_of l.rows.bytes.now) k;
}
