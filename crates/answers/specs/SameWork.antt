-- A1: whether two accepted sheets over the same tables have the same restated steps. That these are the related ones is a theorem,
-- `same_exactly` (document 01, around the restated sheet).
-- Assumes nothing.
use Rattle.std.specs.Prelude.{Bool, List, ℕ}
use Rattle.sheet.specs.Refusals.{same_numbers}
use Rattle.answers.specs.Restated.{restated_steps}
use Rattle.answers.specs.Outcomes.{Outcome}
use Rattle.answers.specs.TwoSheets.{of_two}

unfoldable pub same_work : List ℕ → List ℕ → Outcome Bool
same_work b c = of_two b c (same_numbers (restated_steps b) (restated_steps c))
