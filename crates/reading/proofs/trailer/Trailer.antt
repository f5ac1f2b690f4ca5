-- What R1 to R3 say of the bytes that stand in the trailer.
-- Assumes nothing.
use mathlib.Core.Path.{◌≡◌, refl, sym, ap, ap₂, ◌∙◌}
use mathlib.Core.Bool.{Bool, false, not, ◌&&◌, ◌||◌}
use mathlib.Core.List.{List, [], ◌∷◌}
use Prim.Native.Nat.{ℕ, ◌-◌, ◌≤◌}
use lib.Dec.{eqb}
use lib.ListN.{length, drop, get_or}
use Rattle.std.specs.List.{ends_with}
use Rattle.std.specs.Cmp.Lexicographic.{pointwise}
use Rattle.sets.proofs.Bools.{iff_bool, eqb_true}
use Rattle.sheet.specs.Layout.{component_count, action_count, closing, mark}
use Rattle.sheet.specs.Refusals.{outside, same_numbers, length_wrong, mark_wrong, counts_wrong}
use Rattle.sheet.proofs.Limits.{length_right}
use Rattle.sheet.proofs.Numbers.{field_one}

-- ---- the closing mark (R2)

flipped : (x y : ℕ) → eqb y x ≡ eqb x y
flipped x y = iff_bool (eqb y x) (eqb x y) (λ h. (eqb_true x y).1 (sym ((eqb_true y x).0 h)), λ h. (eqb_true y x).1 (sym ((eqb_true x y).0 h)))

compared : (xs ys : List ℕ) → pointwise eqb ys xs ≡ same_numbers xs ys
compared [] [] = refl
compared [] (y ∷ ys) = refl
compared (x ∷ xs) [] = refl
compared (x ∷ xs) (y ∷ ys) = ap₂ (λ (p q : Bool). p && q) (flipped x y) (compared xs ys)

-- as the library compares the end of a slice
pub mark_tested : (b : List ℕ) → not (ends_with eqb b mark) ≡ mark_wrong b
unfolding mark_wrong closing
mark_tested b = ap not (compared (drop (length b - 2) b) mark)

-- ---- the counts of components and actions (R3, S6)

pub components_read : (b : List ℕ) → component_count b ≡ get_or b (length b - 4) 0
unfolding component_count
components_read b = field_one (length b - 4) b

pub actions_read : (b : List ℕ) → action_count b ≡ get_or b (length b - 3) 0
unfolding action_count
actions_read b = field_one (length b - 3) b

pub counts_read : (b : List ℕ) (n m : ℕ) → n ≡ get_or b (length b - 4) 0 → m ≡ get_or b (length b - 3) 0
    → counts_wrong b ≡ (outside 1 16 n || outside 1 64 m)
unfolding counts_wrong
counts_read b n m p q =
    ap₂ (λ (i j : ℕ). outside 1 16 i || outside 1 64 j) (components_read b ∙ sym p) (actions_read b ∙ sym q)

-- ---- the length (R1)

-- a sheet that is not too short has a trailer
pub long_enough : (b : List ℕ) → length_wrong b ≡ false → 26 ≤ length b
long_enough b e = ((length_right b).0 e).0
