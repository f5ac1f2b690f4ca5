-- The demands on the report, proved: the record of `specs/Demands.antt`, from the laws of the definitions.
-- Assumes nothing.
use mathlib.Core.Path.{◌≡◌, sym, ap, ◌∙◌}
use mathlib.Core.List.{List, ◌++◌}
use Prim.Native.Nat.{ℕ}
use lib.ListN.{length, drop}
use Rattle.answers.specs.declared.Answer.{Answer}
use Rattle.answers.specs.Outcomes.{given, values, one_value}
use Rattle.answers.specs.FirstRefusal.{ReportRefusal}
use Rattle.answers.specs.Report.{report, reporting}
use Rattle.answers.proofs.Told.{is_given, refused_only, number_only}
use Rattle.answers.proofs.LentOutput.{fitting_length}
use Rattle.answers.proofs.FirstRefusal.{report_refuses, number_or}
use Rattle.answers.proofs.OutcomeLaws.{output_kept, output_over}
use Rattle.report.specs.Calls.{ReportAnswer}
use Rattle.report.specs.Demands.{ReportDemand}
use Rattle.report.proofs.Texts.{room_serves}

given_size : (b out : List ℕ) (k : ℕ) → reporting b (length out) ≡ given k → length (report b) ≡ k
unfolding reporting
given_size b out k e = fitting_length (report b) (length out) k e

writes : (b out left : List ℕ) (k : ℕ) → ReportAnswer b out (Answer.Given k) left → (k ≡ length (report b)) × (left ≡ report b ++ drop k out)
writes b out left k c =
    let told = number_only (reporting b (length out)) k c.answer_told in
    let size : length (report b) ≡ k = given_size b out k told in
    (sym size, c.output_left ∙ output_over b out k told ∙ ap (λ (j : ℕ). report b ++ drop j out) size)

-- D1, R13, P1 to P5: the length of the text, or 13; what the output is afterwards
pub report_demand : ReportDemand
report_demand =
    record {
      report_answers = λ b out left r c.
          number_or (λ x. x) (ReportRefusal b (length out)) (reporting b (length out)) (report_refuses b (length out)) r c.answer_told;
      report_serves = λ b out left r c long.
          is_given r (length (report b)) (c.answer_told ∙ ap (values one_value) (room_serves b out long));
      report_writes = writes;
      refused_untouched = λ b out left r k i s c told.
          c.output_left ∙ output_kept b out k i s (refused_only one_value (reporting b (length out)) k i s (sym told ∙ c.answer_told));
    }
