-- D1 and what the calls answer, for C, of whatever a call's promise holds of (specs/Calls): a caller that reads the returned number with the
-- macros of include/oatmist.h, and the array that it lent, is told what the call from Rattle answers.
-- Assumes nothing.
use Rattle.std.specs.Prelude.{◌≡◌, ◌↔◌, ◌⊎◌, List, [], ◌∷◌, ℕ, ◌/◌, ◌%◌, ◌<◌, ◌≤◌, length, get_or}
use Rattle.sheet.specs.Layout.{component_count, action_count, transitions_at, steps_at}
use Rattle.answers.specs.declared.Answer.{Answer}
use Rattle.answers.specs.FirstRefusal.{Refusal, SheetRefusal, RestateRefusal, ReportRefusal, TwoSheetRefusal}
use Rattle.answers.specs.declared.EndSets.{EndSets}
use Rattle.desk.specs.Calls.{EndSetsAnswer, ProcessAnswer, RestateAnswer, FigureAnswer, StuckAnswer}
use Rattle.comparing.specs.Calls.{SameWorkAnswer, WinnerAnswer, LeanerPart}
use Rattle.report.specs.Calls.{ReportAnswer}
use Rattle.rows.specs.Calls.{RowsAnswer, RowsRefusal}
use Rattle.columns.specs.Calls.{ColumnsAnswer, ColumnsRefusal}
use Rattle.oatmist.specs.Version.{version_number}
use Rattle.oatmist.specs.Calls.{CheckForC, EndSetsForC, ProcessForC, FigureForC, StuckForC, RestateForC, ReportForC}
use Rattle.oatmist.specs.Calls.{SameWorkForC, WinnerForC, LeanerForC, RowsForC, ColumnsForC, VersionTold}

-- what is returned is not 0, and OATMIST_REFUSAL, OATMIST_STEP and OATMIST_SHEET read this refusal from it
abbrev pub ReadsAs : ℕ → Refusal
ReadsAs r k i s = (¬ (r ≡ 0)) × (r % 256 ≡ k) × (r / 65536 ≡ i) × (r / 256 % 256 ≡ s)

-- the values stand at the front of the array, as many as there is room for; its other entries are as they were
pub record InFront (xs old new : List ℕ) : Type 0 where
  pub size : length new ≡ length old
  pub front : (j : ℕ) → j < length xs → j < length old → get_or new j 0 ≡ get_or xs j 0
  pub behind : (j : ℕ) → length xs ≤ j → get_or new j 0 ≡ get_or old j 0

-- D1, O4, O5: C is told the refusal that is due, and then the array is as it came; or 0 and the values that are due
pub record ToldToC (P : Refusal) (Values : List ℕ → Type 0) (r : ℕ) (old new : List ℕ) : Type 0 where
  pub zero_exactly : (r ≡ 0) ↔ ((k i s : ℕ) → ¬ P k i s)
  pub refused_exactly : (k i s : ℕ) → ReadsAs r k i s ↔ P k i s
  pub refused_untouched : ¬ (r ≡ 0) → new ≡ old
  pub answered : r ≡ 0 → (xs : List ℕ) × Values xs × InFront xs old new

-- the one number that a call from Rattle gives, where P is its promise
abbrev pub Number : (Answer → Type 0) → List ℕ → Type 0
Number P xs = (x : ℕ) × P (Answer.Given x) × (xs ≡ x ∷ [])

-- D1, O4, O5: C is told what each call from Rattle answers; so D2 and D3 hold of what it is told
pub record DemandsForC : Type 0 where
  -- n, m, T and S, in this order
  pub check : (b old new : List ℕ) (r : ℕ) → CheckForC b r old new
      → ToldToC (SheetRefusal b) (λ xs. xs ≡ component_count b ∷ action_count b ∷ transitions_at b ∷ steps_at b ∷ []) r old new
  -- the sixteen sets
  pub end_sets_fact : (b old new : List ℕ) (r : ℕ) → EndSetsForC b r old new
      → ToldToC (SheetRefusal b) (λ xs. (e : EndSets) × EndSetsAnswer b e × (xs ≡ e.sets)) r old new
  pub process : (b old new : List ℕ) (r : ℕ) → ProcessForC b r old new → ToldToC (SheetRefusal b) (Number (ProcessAnswer b)) r old new
  pub figure : (b old new : List ℕ) (r : ℕ) → FigureForC b r old new → ToldToC (SheetRefusal b) (Number (FigureAnswer b)) r old new
  pub stuck : (b old new : List ℕ) (r : ℕ) → StuckForC b r old new → ToldToC (SheetRefusal b) (Number (StuckAnswer b)) r old new
  pub same_work_fact : (b c old new : List ℕ) (r : ℕ) → SameWorkForC b c r old new → ToldToC (TwoSheetRefusal b c) (Number (SameWorkAnswer b c)) r old new
  pub winner : (b c old new : List ℕ) (r : ℕ) → WinnerForC b c r old new → ToldToC (TwoSheetRefusal b c) (Number (WinnerAnswer b c)) r old new
  -- restating, the report, products given by rows and executions given by columns: also what the output is afterwards
  pub restate : (b out left old new : List ℕ) (r : ℕ) → RestateForC b out r left old new
      → ToldToC (RestateRefusal b (length out)) (Number (λ a. RestateAnswer b out a left)) r old new
  pub report : (b out left old new : List ℕ) (r : ℕ) → ReportForC b out r left old new
      → ToldToC (ReportRefusal b (length out)) (Number (λ a. ReportAnswer b out a left)) r old new
  pub rows : (b out left old new : List ℕ) (r : ℕ) → RowsForC b out r left old new
      → ToldToC (RowsRefusal b (length out)) (Number (λ a. RowsAnswer b out a left)) r old new
  pub columns : (b d out left old new : List ℕ) (r : ℕ) → ColumnsForC b d out r left old new
      → ToldToC (ColumnsRefusal b d (length out)) (Number (λ a. ColumnsAnswer b d out a left)) r old new
  pub restate_untouched : (b out left old new : List ℕ) (r : ℕ) → RestateForC b out r left old new → ¬ (r ≡ 0) → left ≡ out
  pub report_untouched : (b out left old new : List ℕ) (r : ℕ) → ReportForC b out r left old new → ¬ (r ≡ 0) → left ≡ out
  pub rows_untouched : (b out left old new : List ℕ) (r : ℕ) → RowsForC b out r left old new → ¬ (r ≡ 0) → left ≡ out
  pub columns_untouched : (b d out left old new : List ℕ) (r : ℕ) → ColumnsForC b d out r left old new → ¬ (r ≡ 0) → left ≡ out
  -- the part of the leaner sheet
  pub leaner : (b c part : List ℕ) → LeanerForC b c part → LeanerPart b c part
  -- O10: the version, which is 2.0.0; how the three parts of one make a number, and that it grows with them
  pub version : (r : ℕ) → VersionTold r → r ≡ 20000
  pub version_parts : version_number 1 23 45 ≡ 12345
  pub version_grows : (a b c d e f : ℕ) → b < 100 → c < 100 → (a < d) ⊎ ((a ≡ d) × ((b < e) ⊎ ((b ≡ e) × (c < f))))
      → version_number a b c < version_number d e f
  -- a worked number: refusal 12 of the second sheet at the step with index 1023
  pub worked : ReadsAs 67043596 12 1023 1
