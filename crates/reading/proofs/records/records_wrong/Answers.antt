-- `records::records_wrong`, which serves R5: the library tests the numbers of the records one after another.
-- Assumes nothing.
use borrow.Author.Tests.{tests}
use Rattle.std.proofs.Common.{rules, ◌≡◌, ◌/◌, refl, arith, ℕ, ◌<◌, length, get_or}
use Rattle.std.specs.Prelude.{Bool, true, false}
use Rattle.std.specs.Bool.{MatchBool}
use Rattle.std.specs.List.{range_with_len, HoldsAt, AllWithin}
use Rattle.std.proofs.lemmas.Iterator.{YieldsList-from_range, cases_from_any}
use Rattle.std.proofs.lemmas.List.FromFn.{length-range_with_len, get_or-range_with_len}
use Rattle.sets.specs.Lists.{any_of, below}
use Rattle.sets.proofs.Lists.{found_below, none_found}
use Rattle.sheet.specs.Refusals.{record_wrong}
use Rattle.reading.proofs.records.records_wrong.Goals as goal

any_told : (p : ℕ → Bool) (n : ℕ) (r : Bool)
    → MatchBool r
    ((k : ℕ) × (k < length (range_with_len 0 n)) × HoldsAt (λ i. p i ≡ true) (range_with_len 0 n) k)
    (AllWithin (λ i. p i ≡ false) (range_with_len 0 n) 0 (length (range_with_len 0 n)))
    → r ≡ any_of p (below n)
any_told p n true h =
    let low : h.0 < n = omega (arith, length-range_with_len 0 n) in
    let at : get_or (range_with_len 0 n) h.0 0 ≡ h.0 = omega (arith, get_or-range_with_len 0 n h.0 0 low) in
    found_below p n h.0 low (rw at at (h.2 0))
any_told p n false h =
    none_found p n n (omega arith)
    (λ k l. let at : get_or (range_with_len 0 n) k 0 ≡ k = omega (arith, get_or-range_with_len 0 n k 0 l) in
    rw at at (h k 0 (omega arith) (omega (arith, length-range_with_len 0 n))))

pub returns : goal.returns
returns c =
    let p = record_wrong c.args.records.now c.args.m in
    let n = length c.args.records.now / 16 in
    any_told p n c.any.result
    (cases_from_any _ _ _ (λ i. p i ≡ true) (λ i. p i ≡ false) c.any.ensures.ran (YieldsList-from_range 0 n n refl (omega arith))
    (λ x q k. search (rules, tests)) (λ x q k. search (rules, tests)))
