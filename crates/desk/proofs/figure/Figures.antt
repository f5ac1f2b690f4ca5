-- A4: the figure by the counts read is the sheet's.
-- Assumes nothing.
use mathlib.Core.Path.{◌≡◌, subst, ap, ◌∙◌}
use mathlib.Core.List.{List}
use Prim.Native.Nat.{ℕ}
use lib.ListN.{length}
use Rattle.systems.specs.Checking.{flat}
use Rattle.sheet.specs.Layout.{steps}
use Rattle.answers.specs.Restated.{restated_steps}
use Rattle.answers.specs.Figure.{FigureOf, figure}
use Rattle.answers.proofs.Laws.{answer_laws}

pub figure_told : (b xs : List ℕ) → xs ≡ steps b → (actions count : ℕ) → actions ≡ length (flat xs) → count ≡ length (restated_steps b)
    → (f : ℕ) → FigureOf actions count f → f ≡ figure b
figure_told b xs h actions count e d f n =
    let a = e ∙ ap (λ (ys : List ℕ). length (flat ys)) h in
    let m = subst (λ (x : ℕ). FigureOf actions x f) d n in
    (answer_laws.figure_exactly b f).1 (subst (λ (x : ℕ). FigureOf x (length (restated_steps b)) f) a m)
