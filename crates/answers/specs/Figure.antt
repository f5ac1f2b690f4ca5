-- A4: the concurrency figure: ten times the actions for each restated step, to the nearest whole number; of two that are equally near, the
-- even one; 0 for a sheet without steps (document 01, around the restated sheet; document 02, request 4).
-- `IsFigure` says which number it is, without a division. `figure` computes it.
-- Assumes nothing.
use Rattle.std.specs.Prelude.{◌≡◌, cond, List, ℕ, zero, suc, ◌+◌, ◌-◌, ◌*◌, ◌/◌, ◌%◌, ◌≤◌, ltb, length}
use Rattle.systems.specs.Checking.{flat}
use Rattle.sheet.specs.Layout.{steps}
use Rattle.sheet.specs.Verdict.{verdict}
use Rattle.answers.specs.Outcomes.{Outcome, given, after}
use Rattle.answers.specs.Restated.{restated_steps}

-- how far two numbers are from each other (G4)
abbrev pub distance : ℕ → ℕ → ℕ
distance x y = (x - y) + (y - x)

-- A4: f for each step and ten for each action come to nearly the same: their distance is at most half the number of steps; and where it is
-- just half, f is even
pub record Nearest (actions steps f : ℕ) : Type 0 where
  pub near : 2 * distance (10 * actions) (f * steps) ≤ steps
  pub even : 2 * distance (10 * actions) (f * steps) ≡ steps → (half : ℕ) × (f ≡ 2 * half)

-- A4: f is the figure of so many actions in so many steps
abbrev pub FigureOf : ℕ → ℕ → ℕ → Type 0
FigureOf actions zero f = f ≡ 0
FigureOf actions (suc k) f = Nearest actions (suc k) f

-- A4: f is the figure of a sheet: of its actions and its restated steps
abbrev pub IsFigure : List ℕ → ℕ → Type 0
IsFigure b f = FigureOf (length (flat (steps b))) (length (restated_steps b)) f

-- A4, computed: the whole part, or one more where the rest is more than half of the steps, or just half and the whole part is odd
abbrev pub rounded : ℕ → ℕ → ℕ → ℕ
rounded whole rest steps = cond (ltb steps (2 * rest + whole % 2)) (whole + 1) whole

-- A4, computed, of so many actions in so many steps
abbrev pub quotient : ℕ → ℕ → ℕ
quotient actions zero = 0
quotient actions (suc k) = rounded (10 * actions / suc k) (10 * actions % suc k) (suc k)

-- A4, computed, of a sheet
unfoldable pub figure : List ℕ → ℕ
figure b = quotient (length (flat (steps b))) (length (restated_steps b))

-- A4: the figure of an accepted sheet, or the sheet's refusal
unfoldable pub figure_outcome : List ℕ → Outcome ℕ
figure_outcome b = after (verdict b) (given (figure b))
