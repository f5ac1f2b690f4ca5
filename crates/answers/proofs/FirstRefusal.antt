-- D1: the outcome of each call is a refusal exactly where one is due, so at most one is; and an answer that tells an outcome refuses alike.
-- Assumes nothing.
use mathlib.Core.Path.{◌≡◌, refl, sym, ap, ◌∙◌}
use mathlib.Core.List.{List, [], ◌∷◌}
use Prim.Native.Nat.{ℕ}
use native.Mathlib.Omega.{arith}
use Rattle.sheet.specs.Verdict.{Verdict, verdict}
use Rattle.answers.specs.declared.Sizes.{Sizes}
use Rattle.answers.specs.declared.Answer.{Answer}
use Rattle.answers.specs.Outcomes.{Outcome, given, refused, values, one_value, outcome_of, after}
use Rattle.answers.specs.Restated.{restated}
use Rattle.answers.specs.Restating.{restating}
use Rattle.answers.specs.Report.{report, reporting}
use Rattle.answers.specs.Ends.{end_array, ends_outcome}
use Rattle.answers.specs.ProcessCheck.{process_check}
use Rattle.answers.specs.Figure.{figure, figure_outcome}
use Rattle.answers.specs.Stuck.{stuck, stuck_outcome}
use Rattle.answers.specs.SameWork.{same_work}
use Rattle.answers.specs.Leaner.{winner}
use Rattle.answers.specs.TwoSheets.{of_two}
use Rattle.answers.specs.FirstRefusal.{Refusal, SheetRefusal, RestateRefusal, ReportRefusal, TwoSheetRefusal}
use Rattle.answers.specs.FirstRefusal.{AtMostOne, RefusesBy, RefusedExactly, SizesOr, NumberOr}
use Rattle.answers.proofs.Told.{refused_only, refused_told}
use Rattle.answers.proofs.RefusalsDue.{after_sheet, sheet_refuses, one_due, short_due}
use Rattle.answers.proofs.TwoSheets.{two_refuses}

-- ---- the outcome of each call

pub restate_refuses : (b : List ℕ) (room : ℕ) → RefusesBy (RestateRefusal b room) (restating b room)
unfolding restating
restate_refuses b room = after_sheet 0 b _ _ (short_due (restated b) room)

pub report_refuses : (b : List ℕ) (room : ℕ) → RefusesBy (ReportRefusal b room) (reporting b room)
unfolding reporting
report_refuses b room = short_due (report b) room

pub ends_refuse : (b : List ℕ) → RefusesBy (SheetRefusal b) (ends_outcome b)
unfolding ends_outcome
ends_refuse b = sheet_refuses b (end_array b)

pub process_refuses : (b : List ℕ) → RefusesBy (SheetRefusal b) (process_check b)
unfolding process_check
process_refuses b = sheet_refuses b _

pub figure_refuses : (b : List ℕ) → RefusesBy (SheetRefusal b) (figure_outcome b)
unfolding figure_outcome
figure_refuses b = sheet_refuses b (figure b)

pub stuck_refuses : (b : List ℕ) → RefusesBy (SheetRefusal b) (stuck_outcome b)
unfolding stuck_outcome
stuck_refuses b = sheet_refuses b (stuck b)

pub work_refuses : (b c : List ℕ) → RefusesBy (TwoSheetRefusal b c) (same_work b c)
unfolding same_work
work_refuses b c = two_refuses b c _

pub winner_refuses : (b c : List ℕ) → RefusesBy (TwoSheetRefusal b c) (winner b c)
unfolding winner
winner_refuses b c = two_refuses b c _

-- ---- at most one

pub sheet_one : (b : List ℕ) → AtMostOne (SheetRefusal b)
sheet_one b = one_due {A = ℕ} (SheetRefusal b) (after (verdict b) (given 0)) (sheet_refuses b 0)

pub restate_one : (b : List ℕ) (room : ℕ) → AtMostOne (RestateRefusal b room)
restate_one b room = one_due (RestateRefusal b room) (restating b room) (restate_refuses b room)

pub report_one : (b : List ℕ) (room : ℕ) → AtMostOne (ReportRefusal b room)
report_one b room = one_due (ReportRefusal b room) (reporting b room) (report_refuses b room)

pub two_one : (b c : List ℕ) → AtMostOne (TwoSheetRefusal b c)
two_one b c = one_due {A = ℕ} (TwoSheetRefusal b c) (of_two b c 0) (two_refuses b c 0)

-- ---- an answer that tells the outcome

module _ {A : Type 0} (f : A → List ℕ) (P : Refusal) (o : Outcome A) (due : RefusesBy P o) (r : Answer) (told : outcome_of r ≡ values f o) where
  refused_as_due : RefusedExactly P r
  refused_as_due k i s =
      (λ e. (due k i s).0 (refused_only f o k i s (sym e ∙ told)), λ p. refused_told f r o told k i s ((due k i s).1 p))

pub values_same : (o : Outcome (List ℕ)) → values (λ x. x) o ≡ o
values_same (given x) = refl
values_same (refused k i s) = refl

-- a number is told
pub number_or : {A : Type 0} (number : A → ℕ) (P : Refusal) (o : Outcome A) → RefusesBy P o
    → (r : Answer) → outcome_of r ≡ values (λ (x : A). one_value (number x)) o → NumberOr P r
number_or {A} number P o due r told =
    record {
      refused_exactly = refused_as_due (λ (x : A). one_value (number x)) P o due r told;
      no_sizes = λ z e. go z o (sym (ap outcome_of e) ∙ told);
    }
  where
    go : (z : Sizes) (p : Outcome A) → outcome_of (Answer.Accepted z) ≡ values (λ (x : A). one_value (number x)) p → ⊥
    go z (given x) e = let z : ◌≡◌ {A = ℕ} 0 1 = cc in absurd (omega arith)
    go z (refused k i s) e = let z : ◌≡◌ {A = ℕ} 0 1 = cc in absurd (omega arith)

-- the sizes are told
pub sizes_or : (b : List ℕ) (n m t s : ℕ) (r : Answer) → outcome_of r ≡ after (verdict b) (given (n ∷ m ∷ t ∷ s ∷ [])) → SizesOr (SheetRefusal b) r
sizes_or b n m t s r told =
    record {
      refused_exactly =
          let o = after (verdict b) (given (n ∷ m ∷ t ∷ s ∷ [])) in
          refused_as_due (λ x. x) (SheetRefusal b) o (sheet_refuses b (n ∷ m ∷ t ∷ s ∷ [])) r (told ∙ sym (values_same o));
      no_number = λ x e. go x (verdict b) (sym (ap outcome_of e) ∙ told);
    }
  where
    go : (x : ℕ) (v : Verdict) → outcome_of (Answer.Given x) ≡ after v (given (n ∷ m ∷ t ∷ s ∷ [])) → ⊥
    go x Verdict.accepted e = let z : ◌≡◌ {A = ℕ} 0 1 = cc in absurd (omega arith)
    go x (Verdict.refused k i) e = let z : ◌≡◌ {A = ℕ} 0 1 = cc in absurd (omega arith)
