-- The first refusal of a call, by the conditions alone: which number, step index and sheet it tells, and where (O1 to O7).
-- A call answers with one numbered refusal exactly where one holds here; that at most one holds is a theorem (specs/Laws).
-- Assumes nothing.
use Rattle.std.specs.Prelude.{◌≡◌, ◌↔◌, ◌⊎◌, List, ℕ, ◌<◌, length}
use Rattle.sheet.specs.Verdict.{Verdict, IsVerdict, Accepted}
use Rattle.answers.specs.declared.Sizes.{Sizes}
use Rattle.answers.specs.declared.Answer.{Answer}
use Rattle.answers.specs.Outcomes.{Outcome, refused, TellsRefusal}
use Rattle.answers.specs.Restated.{restated}
use Rattle.answers.specs.Related.{SameTables}
use Rattle.answers.specs.Report.{report}

-- O4, O7: where a refusal with this number, step index and sheet is due
abbrev pub Refusal : Type 1
Refusal = ℕ → ℕ → ℕ → Type 0

-- O1: no refusal is due
abbrev pub NoRefusal : Refusal
NoRefusal k i s = ⊥

-- O4, O7: this number, one that tells no step and no sheet, as 13 and 14 do
abbrev pub Numbered : ℕ → Refusal
Numbered number k i s = (k ≡ number) × (i ≡ 0) × (s ≡ 0)

-- O6: 1 to 12 of the sheet b, which is sheet j of the call; where b is accepted, what comes later
abbrev pub AfterSheet : ℕ → List ℕ → Refusal → Refusal
AfterSheet j b Later k i s = (IsVerdict b (Verdict.refused k i) × (s ≡ j)) ⊎ (Accepted b × Later k i s)

-- R13: the text is longer than the lent output
abbrev pub TooShort : ℕ → List ℕ → Refusal
TooShort room text k i s = (room < length text) × Numbered 13 k i s

-- R14: the sheets are over different tables
abbrev pub TablesDiffer : List ℕ → List ℕ → Refusal
TablesDiffer b c k i s = (¬ SameTables b c) × Numbered 14 k i s

-- O1: the refusal of a call on one sheet: 1 to 12
abbrev pub SheetRefusal : List ℕ → Refusal
SheetRefusal b = AfterSheet 0 b NoRefusal

-- O1, R13: of restating: 1 to 12, then 13 where the restated sheet is longer than the output
abbrev pub RestateRefusal : List ℕ → ℕ → Refusal
RestateRefusal b room = AfterSheet 0 b (TooShort room (restated b))

-- R13: of the report: 13 alone, since a refused sheet has a text too
abbrev pub ReportRefusal : List ℕ → ℕ → Refusal
ReportRefusal b room = TooShort room (report b)

-- O6, O7: of a call on two sheets: 1 to 12 of the first, then of the second, then 14
abbrev pub TwoSheetRefusal : List ℕ → List ℕ → Refusal
TwoSheetRefusal b c = AfterSheet 0 b (AfterSheet 1 c (TablesDiffer b c))

-- O1: at most one refusal is due
abbrev pub AtMostOne : Refusal → Type 0
AtMostOne P = (k i s l j t : ℕ) → P k i s → P l j t → (k ≡ l) × (i ≡ j) × (s ≡ t)

-- D1: the outcome is a refusal exactly where one is due
abbrev pub RefusesBy : {A : Type 0} → Refusal → Outcome A → Type 0
RefusesBy P o = (k i s : ℕ) → (o ≡ refused k i s) ↔ P k i s

-- D1: the answer is a refusal exactly where one is due
abbrev pub RefusedExactly : Refusal → Answer → Type 0
RefusedExactly P r = (k i s : ℕ) → TellsRefusal r k i s ↔ P k i s

-- the answer is the refusal that is due, else the sizes of the sheet (D1, F1)
pub record SizesOr (P : Refusal) (r : Answer) : Type 0 where
  pub refused_exactly : RefusedExactly P r
  pub no_number : (x : ℕ) → ¬ (r ≡ Answer.Given x)

-- the answer is the refusal that is due, else a number (D1)
pub record NumberOr (P : Refusal) (r : Answer) : Type 0 where
  pub refused_exactly : RefusedExactly P r
  pub no_sizes : (z : Sizes) → ¬ (r ≡ Answer.Accepted z)
