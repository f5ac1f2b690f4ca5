-- What the report answers and leaves, and the line of a refusal.
-- Assumes nothing.
use Rattle.std.specs.Prelude.{◌≡◌, List, [], ◌∷◌, ℕ, length}
use Rattle.answers.specs.declared.Answer.{Answer}
use Rattle.answers.specs.declared.Answer.TheVariants.{Accepted, Given, Refused}
use Rattle.answers.specs.Outcomes.{values, one_value, number_of, outcome_of}
use Rattle.answers.specs.Report.{refused_word, line, reporting, report_output}

-- P2: number and step index of a refusal as a line; no text for any other answer
abbrev pub refusal_line : Answer → List ℕ
refusal_line (Accepted z) = []
refusal_line (Given x) = []
refusal_line (Refused r i s) = line refused_word (number_of r ∷ i ∷ [])

-- P1 to P5, R13: the report: the bytes printed, or 13, and the output afterwards
pub record ReportAnswer (b out : List ℕ) (r : Answer) (after : List ℕ) : Type 0 where
  pub answer_told : outcome_of r ≡ values one_value (reporting b (length out))
  pub output_left : after ≡ report_output b out
