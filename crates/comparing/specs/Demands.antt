-- The demands of document 01 on the calls on two sheets, of any answer of which a call's promise holds (specs/Calls). `RestateWrote b w`: a call of
-- restate wrote w for b.
-- Assumes nothing.
use Rattle.std.specs.Prelude.{◌≡◌, ◌↔◌, List, [], ◌++◌, ℕ, ◌-◌, ◌<◌, ◌≤◌, length, drop}
use Rattle.sheet.specs.Bounds.{trailer_size}
use Rattle.sheet.specs.Layout.{front, step_count}
use Rattle.sheet.specs.Verdict.{Accepted}
use Rattle.answers.specs.declared.Answer.{Answer}
use Rattle.answers.specs.FirstRefusal.{TwoSheetRefusal, NumberOr}
use Rattle.answers.specs.Related.{SameTables, RelatedSheets}
use Rattle.desk.specs.Demands.{RestateWrote}
use Rattle.comparing.specs.Calls.{SameWorkAnswer, WinnerAnswer, LeanerPart}

-- D1, O6, O7: every call gives its result, or the one refusal that is due, R14 too.
pub record TwoSheetDemand1 : Type 0 where
  pub same_work_answers : (b c : List ℕ) (r : Answer) → SameWorkAnswer b c r → NumberOr (TwoSheetRefusal b c) r
  pub winner_answers : (b c : List ℕ) (r : Answer) → WinnerAnswer b c r → NumberOr (TwoSheetRefusal b c) r
  -- A2: where the two are refused, the part is empty
  pub no_section : (b c p : List ℕ) (k i s : ℕ) → TwoSheetRefusal b c k i s → LeanerPart b c p → p ≡ []

-- A1: same work: yes exactly for related sheets, which are those restated as the same bytes; no for other accepted sheets over the same tables
pub record SameWorkDemand : Type 0 where
  pub same_exactly : (b c : List ℕ) (r : Answer) → SameWorkAnswer b c r → (r ≡ Answer.Given 1) ↔ RelatedSheets b c
  pub same_bytes : (b c w v : List ℕ) (r : Answer) → SameWorkAnswer b c r → RestateWrote b w → RestateWrote c v → (r ≡ Answer.Given 1) ↔ (w ≡ v)
  pub other_exactly : (b c : List ℕ) (r : Answer) → SameWorkAnswer b c r
      → (r ≡ Answer.Given 0) ↔ (Accepted b × Accepted c × SameTables b c × (¬ RelatedSheets b c))

-- A2, A3: the leaner answer: the sheet with fewer restated steps, counted in the bytes as written, the first where they tie
pub record LeanerDemand : Type 0 where
  -- A3: which sheet it is
  pub first_wins : (b c w v : List ℕ) (r : Answer) → WinnerAnswer b c r → RestateWrote b w → RestateWrote c v → SameTables b c
      → (r ≡ Answer.Given 0) ↔ (step_count w ≤ step_count v)
  pub second_wins : (b c w v : List ℕ) (r : Answer) → WinnerAnswer b c r → RestateWrote b w → RestateWrote c v → SameTables b c
      → (r ≡ Answer.Given 1) ↔ (step_count v < step_count w)
  -- A2: the part that stands between the bytes before S and the trailer
  pub first_section : (b c p : List ℕ) → WinnerAnswer b c (Answer.Given 0) → LeanerPart b c p → front b ++ (p ++ drop (length b - trailer_size) b) ≡ b
  pub second_section : (b c p : List ℕ) → WinnerAnswer b c (Answer.Given 1) → LeanerPart b c p → front c ++ (p ++ drop (length c - trailer_size) c) ≡ c
