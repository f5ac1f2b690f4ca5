-- The four numbers of the first line are each as their function gives them (P3).
use Rattle.std.proofs.Common.{◌≡◌, ap, ap₂, ◌∙◌, List, [], ◌∷◌, ℕ, length}
use Rattle.sheet.specs.Layout.{step_count}
use Rattle.answers.specs.Outcomes.{bit}
use Rattle.answers.specs.Restated.{restated_steps}
use Rattle.answers.specs.Figure.{figure}
use Rattle.answers.specs.Stuck.{stuck}
use Rattle.answers.specs.Report.{accepted_word, line, summary_line}
use Rattle.answers.proofs.Told.{bit_from}
use Rattle.report.proofs.first_line.summary_numbers.Goals as goal

first_line : (b : List ℕ) (steps count fig st : ℕ) → steps ≡ step_count b → count ≡ length (restated_steps b) → fig ≡ figure b → st ≡ bit (stuck b)
    → line accepted_word (steps ∷ count ∷ fig ∷ st ∷ []) ≡ summary_line b
unfolding summary_line
first_line b steps count fig st p q u v =
    ap (line accepted_word) (ap₂ ◌∷◌ p (ap₂ ◌∷◌ q (ap₂ ◌∷◌ u (ap (λ (x : ℕ). x ∷ []) v))))

pub returns : goal.returns
returns c =
    first_line _ _ _ _ _ c.step_count-steps.ensures c.requires c.figure_with-figure.ensures
    (c.from-stuck.ensures ∙ bit_from c.stuck_at.result ∙ ap bit c.stuck_at.ensures)
