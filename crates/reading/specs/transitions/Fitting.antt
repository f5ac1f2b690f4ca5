-- A transition's byte string as the number by which it is compared (R8), and which of R7 and R8 is told.
-- Assumes nothing.
use Rattle.std.specs.Prelude.{Bool, true, false, Option, Some, None, List, [], ◌∷◌, ℕ, ◌+◌, ◌*◌}
use Rattle.answers.specs.declared.Refusal.{Refusal}

-- the number x with the bytes of a string behind it, the first of them heaviest (R8)
abbrev pub heavy_from : ℕ → List ℕ → ℕ
heavy_from x [] = x
heavy_from x (d ∷ ds) = heavy_from (256 * x + d) ds

-- a byte string as one number, the first byte heaviest (R8)
abbrev pub heavy_first : List ℕ → ℕ
heavy_first ds = heavy_from 0 ds

-- refusal 7 where p holds, else refusal 8 where q does, else none (O1, R7, R8)
abbrev pub seven_or_eight : Bool → Bool → Option Refusal
seven_or_eight true q = Some Refusal.Transition
seven_or_eight false true = Some Refusal.Order
seven_or_eight false false = None
