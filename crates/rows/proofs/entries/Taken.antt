-- B7: the alphabet of a component, gathered row by row.
-- Assumes nothing.
use mathlib.Core.Path.{◌≡◌, refl, sym, ap, ◌∙◌}
use mathlib.Core.Logic.{◌↔◌, ◌⊎◌, inl, inr}
use mathlib.Core.Bool.{Bool, true, false, cond, true≢false}
use mathlib.Core.List.{List}
use mathlib.Core.Option.{some, none-ne-some}
use Prim.Native.Nat.{ℕ, ◌+◌, ◌≤◌, ◌<◌}
use native.Mathlib.Omega.{arith}
use lib.Dec.{eqb}
use Rattle.sets.specs.Bits.{member, with}
use Rattle.sets.proofs.Bools.{not_both, iff_bool, or_true, eqb_true}
use Rattle.sets.proofs.Lists.{last_or_below}
use Rattle.sets.proofs.Members.{member_zero, member_with, member_ext}
use Rattle.products.specs.Product.{TakesPart}
use Rattle.products.specs.ProductBytes.{idle, entry, unless_idle, product_of}
use Rattle.products.specs.ProductSheet.{alphabet}
use Rattle.rows.specs.entries.Rows.{RowsStand}
use Rattle.products.proofs.Alphabets.{alphabet_rows}

-- a component takes part in a row whose number is not idle
part_by : (t : Bool) (x : ℕ) → ((u : ℕ) × (unless_idle t x ≡ some u)) ↔ (t ≡ false)
part_by true x = (λ r. absurd (none-ne-some r.0 r.1), λ e. absurd (true≢false e))
part_by false x = (λ r. refl, λ e. (x, refl))

part_told : (b : List ℕ) (g j : ℕ) → TakesPart (product_of b) g j ↔ (eqb (entry b g j) idle ≡ false)
unfolding product_of
part_told b g j = part_by (eqb (entry b g j) idle) (entry b g j)

-- the set has the rows before g in which component j takes part
pub record TakenBefore (b : List ℕ) (j set g : ℕ) : Type 0 where
  pub exact : (h : ℕ) → (member set h ≡ true) ↔ ((h < g) × TakesPart (product_of b) h j)

pub taken_none : (b : List ℕ) (j : ℕ) → TakenBefore b j 0 0
taken_none b j = record { exact = λ h. (λ e. absurd (not_both e (member_zero h)), λ r. let l = r.0 in absurd (omega arith)) }

pub taken_more : (b : List ℕ) (j set g x r : ℕ) → TakenBefore b j set g → x ≡ entry b g j → r ≡ cond (eqb x idle) set (with g set)
    → TakenBefore b j r (g + 1)
taken_more b j set g x r T e f = record { exact = λ h. (to h (eqb x idle) refl f, from h (eqb x idle) refl f) }
  where
    same : eqb (entry b g j) idle ≡ eqb x idle
    same = ap (λ (y : ℕ). eqb y idle) (sym e)

    to : (h : ℕ) (t : Bool) → eqb x idle ≡ t → r ≡ cond t set (with g set) → member r h ≡ true → (h < g + 1) × TakesPart (product_of b) h j
    to h true q s m = let k = (T.exact h).0 (ap (λ (y : ℕ). member y h) (sym s) ∙ m) in (let l = k.0 in omega arith, k.1)
    to h false q s m = go ((or_true (eqb g h) (member set h)).0 (sym (member_with g set h) ∙ ap (λ (y : ℕ). member y h) (sym s) ∙ m))
      where
        go : (eqb g h ≡ true) ⊎ (member set h ≡ true) → (h < g + 1) × TakesPart (product_of b) h j
        go (inl i) = let z = (eqb_true g h).0 i in (omega arith, rw (sym z) ((part_told b g j).1 (same ∙ q)))
        go (inr i) = let k = (T.exact h).0 i in (let l = k.0 in omega arith, k.1)

    from : (h : ℕ) (t : Bool) → eqb x idle ≡ t → r ≡ cond t set (with g set) → (h < g + 1) × TakesPart (product_of b) h j → member r h ≡ true
    from h true q s k = ap (λ (y : ℕ). member y h) s ∙ go (last_or_below g h k.0)
      where
        go : (h ≡ g) ⊎ (h < g) → member set h ≡ true
        go (inl i) = absurd (not_both (same ∙ q) ((part_told b g j).0 (rw (sym i) k.1)))
        go (inr l) = (T.exact h).1 (l, k.1)
    from h false q s k =
        ap (λ (y : ℕ). member y h) s ∙ member_with g set h ∙ (or_true (eqb g h) (member set h)).1 (go (last_or_below g h k.0))
      where
        go : (h ≡ g) ⊎ (h < g) → (eqb g h ≡ true) ⊎ (member set h ≡ true)
        go (inl i) = inl ((eqb_true g h).1 (sym i))
        go (inr l) = inr ((T.exact h).1 (l, k.1))

pub taken_all : (b : List ℕ) (n m j set g : ℕ) → RowsStand b n m → g ≤ m → m ≤ g → TakenBefore b j set g → set ≡ alphabet (product_of b) j
unfolding product_of
taken_all b n m j set g s low high T =
    member_ext set (alphabet (product_of b) j) (λ h. iff_bool (member set h) (member (alphabet (product_of b) j) h) (
      λ e. let k = (T.exact h).0 e in (alphabet_rows (product_of b) j h).1 (let l = k.0 in let q = s.m_told in omega arith, k.1),
      λ e. let k = (alphabet_rows (product_of b) j h).0 e in (T.exact h).1 (let l = k.0 in let q = s.m_told in omega arith, k.1),
    ))
