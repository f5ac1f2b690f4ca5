-- N8: the level of an action, where a list has for each component one past its last step: the largest entry of its participants.
-- Assumes nothing.
use Rattle.std.specs.Prelude.{List, [], ◌∷◌, ℕ, max, get_or}

-- the largest entry over the components of a list
abbrev pub largest : List ℕ → List ℕ → ℕ
largest last [] = 0
largest last (j ∷ js) = max (get_or last j 0) (largest last js)
