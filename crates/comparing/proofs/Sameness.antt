-- Two lists of numbers compared by the library: it tells whether they are the same. So the bytes of two tables are compared (R14), and the
-- restated steps of two sheets (A1).
-- Assumes nothing.
use mathlib.Core.Path.{◌≡◌, refl, ap}
use mathlib.Core.Bool.{Bool, ◌&&◌}
use mathlib.Core.List.{List, [], ◌∷◌}
use Prim.Native.Nat.{ℕ}
use lib.Dec.{eqb}
use lib.Pointwise.{pointwise}
use Rattle.std.specs.Bool.{Decides}
use Rattle.std.proofs.lemmas.Bool.Decides.{Decides-eqb}
use Rattle.std.proofs.lemmas.Slice.Eq.{slice_eq-Decides}
use Rattle.sheet.specs.Refusals.{same_numbers}

-- entry by entry (A1)
pub pointwise_same : (xs ys : List ℕ) → pointwise eqb xs ys ≡ same_numbers xs ys
pointwise_same [] [] = refl
pointwise_same [] (y ∷ ys) = refl
pointwise_same (x ∷ xs) [] = refl
pointwise_same (x ∷ xs) (y ∷ ys) = ap (λ (t : Bool). eqb x y && t) (pointwise_same xs ys)

-- whether they are equal (R14)
pub pointwise_decides : (xs ys : List ℕ) → Decides (pointwise eqb xs ys) (xs ≡ ys)
pointwise_decides xs ys = slice_eq-Decides Decides-eqb xs ys (pointwise eqb xs ys) refl
