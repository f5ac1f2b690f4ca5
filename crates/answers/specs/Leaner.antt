-- The leaner of two accepted sheets over the same tables, that with fewer restated steps, the first in a tie; and its step section
-- (A2, A3; document 01, around the restated sheet).
-- Assumes nothing.
use Rattle.std.specs.Prelude.{cond, List, [], ℕ, zero, suc, ◌*◌, ltb, length, take, drop}
use Rattle.sheet.specs.Bounds.{step_size}
use Rattle.sheet.specs.Layout.{steps_at, step_count}
use Rattle.answers.specs.Restated.{restated_steps}
use Rattle.answers.specs.TwoSheets.{of_two}
use Rattle.answers.specs.Outcomes.{Outcome, given, refused}

-- A3: which sheet is leaner, 0 or 1, or the refusal of the pair
unfoldable pub winner : List ℕ → List ℕ → Outcome ℕ
winner b c = of_two b c (cond (ltb (length (restated_steps c)) (length (restated_steps b))) 1 0)

-- A2: the step section of a sheet, from its own bytes
unfoldable pub step_section : List ℕ → List ℕ
step_section b = take (step_size * step_count b) (drop (steps_at b) b)

-- the section of the sheet that won; nothing for a refused pair (A2)
abbrev pub section_by : Outcome ℕ → List ℕ → List ℕ → List ℕ
section_by (given zero) first second = first
section_by (given (suc k)) first second = second
section_by (refused k i s) first second = []

-- A2: the step section of the leaner sheet
unfoldable pub leaner : List ℕ → List ℕ → List ℕ
leaner b c = section_by (winner b c) (step_section b) (step_section c)
