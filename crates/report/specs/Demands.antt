-- D1 on the report (P1 to P5, R13), of any answer and output of which its promise holds (specs/Calls). A refused sheet has a text too,
-- so 13 is the only refusal.
-- Assumes nothing.
use Rattle.std.specs.Prelude.{◌≡◌, List, ◌++◌, ℕ, ◌≤◌, length, drop}
use Rattle.answers.specs.declared.Answer.{Answer}
use Rattle.answers.specs.Outcomes.{TellsRefusal}
use Rattle.answers.specs.FirstRefusal.{ReportRefusal, NumberOr}
use Rattle.answers.specs.Report.{report, report_room}
use Rattle.report.specs.Calls.{ReportAnswer}

-- D1, of the report: the length of its text or 13 (R13), and every byte of the output afterwards (O5)
pub record ReportDemand : Type 0 where
  -- the length of the text, or 13
  pub report_answers : (b out left : List ℕ) (r : Answer) → ReportAnswer b out r left → NumberOr (ReportRefusal b (length out)) r
  -- an output of report_room bytes always serves
  pub report_serves : (b out left : List ℕ) (r : Answer) → ReportAnswer b out r left → report_room ≤ length out
      → r ≡ Answer.Given (length (report b))
  -- the text stands in front, and the bytes behind it keep their values
  pub report_writes : (b out left : List ℕ) (k : ℕ) → ReportAnswer b out (Answer.Given k) left
      → (k ≡ length (report b)) × (left ≡ report b ++ drop k out)
  pub refused_untouched : (b out left : List ℕ) (r : Answer) (k i s : ℕ) → ReportAnswer b out r left → TellsRefusal r k i s → left ≡ out
