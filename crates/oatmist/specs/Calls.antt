-- What each call for C returns and leaves: the promises, one name for each. r is returned; the array lent for the values was `old` and is
-- `new`; the lent output was `out` and is `left`. How an answer is told (O4, O5, O7) stands in Convention.
-- Assumes nothing.
use Rattle.std.specs.Prelude.{◌≡◌, List, ℕ, length}
use Rattle.traces.specs.Offences.{offending}
use Rattle.sheet.specs.Verdict.{verdict}
use Rattle.answers.specs.declared.Answer.{Answer}
use Rattle.answers.specs.Outcomes.{values, one_value, bit, outcome_of, read_outcome}
use Rattle.answers.specs.Ends.{ends_outcome}
use Rattle.answers.specs.ProcessCheck.{process_check}
use Rattle.answers.specs.Restating.{restating, output_after}
use Rattle.answers.specs.SameWork.{same_work}
use Rattle.answers.specs.Leaner.{winner, leaner}
use Rattle.answers.specs.Figure.{figure_outcome}
use Rattle.answers.specs.Stuck.{stuck_outcome}
use Rattle.answers.specs.Report.{reporting, report_output}
use Rattle.products.specs.ProductVerdict.{rows_outcome, rows_output}
use Rattle.columns.specs.Calls.{ColumnsAnswer}
use Rattle.oatmist.specs.Convention.{CAnswer}
use Rattle.oatmist.specs.Version.{library_version}

-- O1, S6: the check
abbrev pub CheckForC : List ℕ → ℕ → List ℕ → List ℕ → Type 0
CheckForC b r old new = CAnswer (read_outcome b (verdict b)) r old new

-- E5: the end sets
abbrev pub EndSetsForC : List ℕ → ℕ → List ℕ → List ℕ → Type 0
EndSetsForC b r old new = CAnswer (ends_outcome b) r old new

-- N7: the process check
abbrev pub ProcessForC : List ℕ → ℕ → List ℕ → List ℕ → Type 0
ProcessForC b r old new = CAnswer (values (λ o. one_value (offending o)) (process_check b)) r old new

-- A4: the figure
abbrev pub FigureForC : List ℕ → ℕ → List ℕ → List ℕ → Type 0
FigureForC b r old new = CAnswer (values one_value (figure_outcome b)) r old new

-- A5: stuck
abbrev pub StuckForC : List ℕ → ℕ → List ℕ → List ℕ → Type 0
StuckForC b r old new = CAnswer (values (λ t. one_value (bit t)) (stuck_outcome b)) r old new

-- N9, R13, O5: restating
pub record RestateForC (b out : List ℕ) (r : ℕ) (left old new : List ℕ) : Type 0 where
  pub answer_told : CAnswer (values one_value (restating b (length out))) r old new
  pub output_left : left ≡ output_after b out

-- P1 to P5, R13: the report
pub record ReportForC (b out : List ℕ) (r : ℕ) (left old new : List ℕ) : Type 0 where
  pub answer_told : CAnswer (values one_value (reporting b (length out))) r old new
  pub output_left : left ≡ report_output b out

-- B6, O8, R13: a product given by rows
pub record RowsForC (b out : List ℕ) (r : ℕ) (left old new : List ℕ) : Type 0 where
  pub answer_told : CAnswer (values one_value (rows_outcome b (length out))) r old new
  pub output_left : left ≡ rows_output b out

-- V3, O9, R13: an execution given by columns: what the call from Rattle answers and leaves, told
pub record ColumnsForC (b d out : List ℕ) (r : ℕ) (left old new : List ℕ) : Type 0 where
  pub told : Answer
  pub call : ColumnsAnswer b d out told left
  pub answer_told : CAnswer (outcome_of told) r old new

-- A1, R14: same work
abbrev pub SameWorkForC : List ℕ → List ℕ → ℕ → List ℕ → List ℕ → Type 0
SameWorkForC b c r old new = CAnswer (values (λ t. one_value (bit t)) (same_work b c)) r old new

-- A3, R14: which sheet is leaner
abbrev pub WinnerForC : List ℕ → List ℕ → ℕ → List ℕ → List ℕ → Type 0
WinnerForC b c r old new = CAnswer (values one_value (winner b c)) r old new

-- A2: its step section
abbrev pub LeanerForC : List ℕ → List ℕ → List ℕ → Type 0
LeanerForC b c part = part ≡ leaner b c

-- O10: the version, from Rattle and for C
abbrev pub VersionTold : ℕ → Type 0
VersionTold r = r ≡ library_version
