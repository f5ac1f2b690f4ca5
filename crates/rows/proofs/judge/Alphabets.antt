-- R16 and R17 by the alphabets: a row is idle throughout when no alphabet has it, and a component idles in every row when its alphabet
-- is empty.
-- Assumes nothing.
use mathlib.Core.Path.{◌≡◌, sym, ap, ap₂, ◌∙◌}
use mathlib.Core.Logic.{◌⊎◌, inl, inr}
use mathlib.Core.Bool.{Bool, true, false, not, ◌||◌}
use mathlib.Core.List.{List}
use Prim.Native.Nat.{ℕ, ◌+◌, ◌<◌}
use native.Mathlib.Omega.{arith}
use lib.Bits.{bit_and, bit_or}
use lib.Dec.{eqb}
use lib.ListN.{length}
use Rattle.sets.specs.Lists.{any_of, below}
use Rattle.sets.specs.Bits.{member}
use Rattle.sets.proofs.AllBelow.{below_exact}
use Rattle.sets.proofs.Bools.{true_or_false, not_both, not_true, iff_bool, eqb_true, eqb_false}
use Rattle.sets.proofs.Lists.{any_of_or, some_below, any_same, none_found, any_of_below_more}
use Rattle.sets.proofs.Members.{member_zero, member_or, member_some, lacks_below}
use Rattle.products.specs.ProductBytes.{components_in, product_of}
use Rattle.products.specs.ProductSheet.{takes_part}
use Rattle.products.specs.ProductVerdict.{idle_row, same_row, row_wrong, bad_row, idle_component}
use Rattle.rows.specs.declared.product.Part.{Part}
use Rattle.rows.specs.Reading.{no_part, alphabet_at, AlphabetsLeft}
use Rattle.rows.specs.entries.Rows.{RowsStand}
use Rattle.rows.specs.repeats.Earlier.{rows_before, repeats_below}
use Rattle.rows.specs.judge.Judging.{row_unused, some_empty}
use Rattle.products.proofs.Alphabets.{takes_part_fact, alphabet_rows}
use Rattle.rows.proofs.Tests.{any_by_index}

-- ---- R16: the union of the alphabets

-- the set has just what the first n alphabets have
pub record UnionUpTo (l : List Part) (n all : ℕ) : Type 0 where
  pub exact : (g : ℕ) → member all g ≡ any_of (λ j. member (alphabet_at l j) g) (below n)

pub union_none : (l : List Part) → UnionUpTo l 0 0
union_none l =
    record { exact = λ g. member_zero g ∙ none_found (λ j. member (alphabet_at l j) g) 0 0 (omega arith) (λ k h. absurd (omega arith)) }

pub union_more : (l : List Part) (j all : ℕ) → UnionUpTo l j all → UnionUpTo l (j + 1) (bit_or all (alphabet_at l j))
union_more l j all U =
    record {
      exact = λ g.
          member_or all (alphabet_at l j) g
          ∙ ap (λ (b : Bool). b || member (alphabet_at l j) g) (U.exact g)
          ∙ sym (any_of_below_more (λ i. member (alphabet_at l i) g) j);
    }

-- R16: a set lacks one of the rows below m
pub lacking_row : (x m : ℕ) (has : ℕ → Bool) → ((g : ℕ) → member x g ≡ has g)
    → not (eqb (bit_and x (rows_before m)) (rows_before m)) ≡ any_of (λ g. not (has g)) (below m)
lacking_row x m has given = lacks_below x (rows_before m) m has given (below_exact m)

-- ---- by the rows (R16, R17)

module _ (b : List ℕ) (l : List Part) (n m : ℕ) (s : RowsStand b n m) (A : AlphabetsLeft b l) where
  same_number : length l ≡ n
  same_number = A.size ∙ sym s.n_told

  in_alphabet : (g j : ℕ) → j < n → g < m → member (alphabet_at l j) g ≡ takes_part ((product_of b).takes g j)
  unfolding product_of
  in_alphabet g j low k =
      let n_told = s.n_told in
      let m_told = s.m_told in
      ap (λ (x : ℕ). member x g) (A.told j (omega arith))
      ∙ iff_bool _ _ (
        λ h. (takes_part_fact (product_of b) g j).1 ((alphabet_rows (product_of b) j g).0 h).1,
        λ h. (alphabet_rows (product_of b) j g).1 (omega arith, (takes_part_fact (product_of b) g j).0 h),
      )

  idle_rows : row_unused l m ≡ any_of (idle_row (product_of b)) (below m)
  unfolding product_of
  idle_rows =
      any_same _ _ m (λ g k.
      ap not
      (ap (λ (i : ℕ). any_of (λ j. member (alphabet_at l j) g) (below i)) same_number
      ∙ any_same _ (λ j. takes_part ((product_of b).takes g j)) n (λ j low. in_alphabet g j low k)
      ∙ ap (λ (i : ℕ). any_of (λ j. takes_part ((product_of b).takes g j)) (below i)) s.n_told))

  pub bad_rows : (p q : Bool) → p ≡ row_unused l m → q ≡ repeats_below (product_of b) m → (p || q) ≡ bad_row (product_of b)
  unfolding bad_row product_of
  bad_rows p q e f =
      ap₂ (λ (x y : Bool). x || y) (e ∙ idle_rows) f
      ∙ sym (any_of_or (idle_row (product_of b)) (λ g. any_of (same_row (product_of b) g) (below g)) (below m))
      ∙ ap (λ (k : ℕ). any_of (row_wrong (product_of b)) (below k)) s.m_told

  -- component j takes part in some row
  abbrev used : ℕ → Bool
  used j = any_of (λ g. takes_part ((product_of b).takes g j)) (below m)

  empty_alphabet : (j : ℕ) → j < n → eqb (alphabet_at l j) 0 ≡ not (used j)
  unfolding product_of
  empty_alphabet j low = iff_bool _ _ (λ h. to h (true_or_false (used j)), λ h. from h (true_or_false (eqb (alphabet_at l j) 0)))
    where
      to : eqb (alphabet_at l j) 0 ≡ true → (used j ≡ true) ⊎ (used j ≡ false) → not (used j) ≡ true
      to h (inr e) = (not_true _).1 e
      to h (inl e) =
          let r = (some_below (λ g. takes_part ((product_of b).takes g j)) m).0 e in
          absurd (not_both (in_alphabet r.0 j low r.1 ∙ r.2)
          (ap (λ (x : ℕ). member x r.0) ((eqb_true (alphabet_at l j) 0).0 h) ∙ member_zero r.0))

      from : not (used j) ≡ true → (eqb (alphabet_at l j) 0 ≡ true) ⊎ (eqb (alphabet_at l j) 0 ≡ false)
          → eqb (alphabet_at l j) 0 ≡ true
      from h (inl e) = e
      from h (inr e) =
          let r = member_some (alphabet_at l j) ((eqb_false (alphabet_at l j) 0).0 e) in
          let told = A.told j (let q = s.n_told in omega arith) in
          let k = (alphabet_rows (product_of b) j r.0).0 (ap (λ (x : ℕ). member x r.0) (sym told) ∙ r.1) in
          let inside : r.0 < m = let z = k.0 in let q = s.m_told in omega arith in
          let part = (takes_part_fact (product_of b) r.0 j).1 k.1 in
          absurd (not_both ((some_below (λ g. takes_part ((product_of b).takes g j)) m).1 (r.0, inside, part)) ((not_true _).0 h))

  pub idle_components : some_empty l ≡ idle_component (product_of b)
  unfolding idle_component product_of
  idle_components =
      any_by_index (λ p. eqb p.alphabet 0) no_part l
      ∙ ap (λ (k : ℕ). any_of (λ j. eqb (alphabet_at l j) 0) (below k)) same_number
      ∙ any_same _ (λ j. not (used j)) n empty_alphabet
      ∙ ap (λ (k : ℕ). any_of (λ j. not (used j)) (below k)) s.n_told
      ∙ ap (λ (k : ℕ). any_of (λ j. not (any_of (λ g. takes_part ((product_of b).takes g j)) (below k))) (below (components_in b))) s.m_told
