-- V2: the columns that some slices hold: how many they are, the labels of one, one slice stored among the others, and whether one has a label (R19).
-- Assumes nothing.
use mathlib.Core.Path.{◌≡◌, refl, sym, ap, ◌∙◌}
use mathlib.Core.Logic.{◌≢◌}
use mathlib.Core.Bool.{Bool, true, false, true≢false, false≢true}
use mathlib.Core.List.{List, [], ◌∷◌}
use Prim.Native.Nat.{ℕ, zero, suc, ◌-◌, ◌<◌}
use native.Mathlib.Omega.{arith}
use lib.ListN.{length, take, drop, get_or, set, length-drop}
use lib.Seq.{take_all}
use Rattle.std.specs.Bool.{MatchBool}
use Rattle.std.specs.Borrow.{Bor}
use Rattle.std.specs.List.{HoldsAt, AllWithin}
use Rattle.merging.specs.legible.Reading.{labels_of, rest_in}
use Rattle.merging.specs.heads.Heads.{LeftOver}

-- V2: how many columns they hold
pub labels_length : (left : List (Bor (List ℕ))) → length (labels_of left) ≡ length left
labels_length [] = refl
labels_length (l ∷ left) = ap suc (labels_length left)

-- V2: the labels of one
pub labels_at : (left : List (Bor (List ℕ))) (j : ℕ) (d : Bor (List ℕ)) → j < length left → rest_in (labels_of left) j ≡ (get_or left j d).now
labels_at [] j d h = absurd (omega arith)
labels_at (l ∷ left) zero d h = refl
labels_at (l ∷ left) (suc j) d h = labels_at left j d (omega arith)

-- V2: one slice stored among the others
pub labels_set : (left : List (Bor (List ℕ))) (j : ℕ) (x : Bor (List ℕ)) → labels_of (set left j x) ≡ set (labels_of left) j x.now
labels_set [] j x = refl
labels_set (l ∷ left) zero x = refl
labels_set (l ∷ left) (suc j) x = ap (λ (r : List (List ℕ)). l.now ∷ r) (labels_set left j x)

-- V3: the part of a slice behind its first label
pub behind_first : (x : List ℕ) → take (length x - 1) (drop 1 x) ≡ drop 1 x
behind_first x = take_all (length x - 1) (drop 1 x) (omega (arith, length-drop 1 x))

-- ---- whether one has a label

no_slice : Bor (List ℕ)
no_slice = record { ref_ptr = (0, 0); now = [] }

no_label : (x : List ℕ) → length x ≡ 0 → x ≡ []
no_label [] e = refl
no_label (a ∷ x) e = absurd (omega arith)

-- R19: the test of each tells whether one has a label
pub left_over : (left : List (Bor (List ℕ))) (r : Bool)
    → MatchBool r ((k : ℕ) × (k < length left) × HoldsAt (λ x. length x.now ≢ 0) left k) (AllWithin (λ x. length x.now ≡ 0) left 0 (length left))
    → LeftOver (labels_of left) r
left_over left true (k, h, some) =
    record {
      some = λ _. (k, let l = labels_length left in omega arith, λ e. some no_slice (ap length (sym (labels_at left k no_slice h) ∙ e)));
      none = λ e. absurd (true≢false e);
    }
left_over left false all =
    record {
      some = λ e. absurd (false≢true e);
      none = λ _ k h.
          let inside : k < length left = let l = labels_length left in omega arith in
          labels_at left k no_slice inside ∙ no_label _ (all k no_slice (omega arith) inside);
    }
