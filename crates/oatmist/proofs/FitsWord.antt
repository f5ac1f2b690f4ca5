-- O4, O7: every refusal of a call fits into one number: it is at most 19, its sheet 0 or 1, its step index below the number of steps.
-- Assumes nothing.
use mathlib.Core.Path.{◌≡◌, refl, sym, subst}
use mathlib.Core.Bool.{Bool, true, false, cond}
use mathlib.Core.List.{List, map}
use Prim.Native.Nat.{ℕ, ◌≤◌, ◌<◌}
use native.Mathlib.Omega.{arith}
use lib.Dec.{ltb}
use lib.ListN.{length}
use Rattle.sets.specs.Bits.{members}
use Rattle.traces.specs.Offences.{first_offence, offending}
use Rattle.systems.specs.Independence.{dependent}
use Rattle.sheet.specs.Bounds.{longest}
use Rattle.sheet.specs.Layout.{tables, step_count, steps}
use Rattle.sheet.specs.Refusals.{same_numbers, length_wrong, refusal}
use Rattle.sheet.specs.Verdict.{Verdict, accepted, refused, verdict, IsVerdict, sheet_refused, step_refused, all_passed}
use Rattle.sheet.proofs.Limits.{length_right}
use Rattle.sheet.proofs.RoundTrip.{steps_length}
use Rattle.sheet.proofs.Verdicts.{verdict_first, verdict_number}
use Rattle.answers.specs.declared.Answer.{Answer}
use Rattle.answers.specs.Outcomes.{Outcome, given, values, one_value, bit, outcome_of, on_sheet, after}
use Rattle.answers.specs.LentOutput.{unless_short, length_or13}
use Rattle.answers.specs.ProcessCheck.{process_check}
use Rattle.answers.specs.Restated.{restated_steps, restated}
use Rattle.answers.specs.Restating.{restating}
use Rattle.answers.specs.Figure.{figure, figure_outcome}
use Rattle.answers.specs.Stuck.{stuck, stuck_outcome}
use Rattle.answers.specs.Report.{report, reporting}
use Rattle.answers.specs.SameWork.{same_work}
use Rattle.answers.specs.Leaner.{winner}
use Rattle.answers.specs.TwoSheets.{tables_differ, unless_differ, of_two}
use Rattle.products.specs.ProductBytes.{product_of}
use Rattle.products.specs.ProductSheet.{product_sheet}
use Rattle.products.specs.ProductVerdict.{malformed, bad_row, idle_component, refused_by, rows_outcome}
use Rattle.columns.specs.Calls.{ColumnsAnswer}
use Rattle.oatmist.specs.Convention.{FitsWord, PartsFit, CAnswer}

length_first : (b : List ℕ) → ((k : ℕ) → refusal b k ≡ false) → length_wrong b ≡ false
unfolding refusal
length_first b h = h 1

step_count_high : (b : List ℕ) → step_count b ≤ length b
unfolding step_count
step_count_high b = omega arith

verdict_small : (b : List ℕ) (k i : ℕ) → verdict b ≡ refused k i → (1 ≤ k) × (k ≤ 12) × (i ≤ longest)
verdict_small b k i e = let n = verdict_number b k i e in (n.0, n.1, go (verdict_first b) e)
  where
    go : {v : Verdict} → IsVerdict b v → v ≡ refused k i → i ≤ longest
    go (sheet_refused l h before) q = let z : 0 ≡ i = cc in omega arith
    go (step_refused f passed f-first) q =
        let j : f.index ≡ i = cc in
        let below = f-first.step_below in
        let count = steps_length b in
        let high = step_count_high b in
        let long = ((length_right b).0 (length_first b passed)).1 in
        omega arith
    go (all_passed passed faultless) q = let z : ◌≡◌ {A = ℕ} 0 1 = cc in absurd (omega arith)

-- ---- behind the verdict on a sheet, on two sheets, and on the lent output (O4, O7)

module _ {A : Type 0} (f : A → List ℕ) where
  -- what comes after the verdict on a sheet (O4)
  pub fits_on : (s : ℕ) → s < 256 → (b : List ℕ) (x : Outcome A) → FitsWord (values f x) → FitsWord (values f (on_sheet s (verdict b) x))
  fits_on s small b x p = go (verdict b) refl
    where
      go : (v : Verdict) → verdict b ≡ v → FitsWord (values f (on_sheet s v x))
      go accepted e = p
      go (refused k i) e = let h = verdict_small b k i e in (h.0, omega arith, small, omega arith)

  pub fits_after : (b : List ℕ) (x : A) → FitsWord (values f (after (verdict b) (given x)))
  fits_after b x = fits_on 0 (omega arith) b (given x) tt

  pub fits_two : (b c : List ℕ) (x : A) → FitsWord (values f (of_two b c x))
  unfolding of_two
  fits_two b c x =
      fits_on 0 (omega arith) b (on_sheet 1 (verdict c) (unless_differ (tables_differ b c) x))
      (fits_on 1 (omega arith) c (unless_differ (tables_differ b c) x) (differ (tables_differ b c)))
    where
      differ : (d : Bool) → FitsWord (values f (unless_differ d x))
      differ true = (omega arith, omega arith, omega arith, omega arith)
      differ false = tt

-- 13 is told with the step index 0 and the sheet 0 (R13, O4)
pub fits_text : (f : ℕ → List ℕ) (text : List ℕ) (size : ℕ) → FitsWord (values f (length_or13 text size))
unfolding length_or13
fits_text f text size = go (ltb size (length text))
  where
    go : (t : Bool) → FitsWord (values f (unless_short t (length text)))
    go true = (omega arith, omega arith, omega arith, omega arith)
    go false = tt

pub fits_read : (b : List ℕ) (x : List ℕ) → FitsWord (after (verdict b) (given x))
fits_read b x = go (verdict b) refl
  where
    go : (v : Verdict) → verdict b ≡ v → FitsWord (after v (given x))
    go accepted e = tt
    go (refused k i) e = let h = verdict_small b k i e in (h.0, omega arith, omega arith, omega arith)

-- ---- the outcome of each call (O4, O7)

pub fits_process : (b : List ℕ) → FitsWord (values (λ o. one_value (offending o)) (process_check b))
unfolding process_check
fits_process b = fits_after (λ o. one_value (offending o)) b (first_offence (dependent (tables b)) (map members (steps b)))

pub fits_restate : (b : List ℕ) (size : ℕ) → FitsWord (values one_value (restating b size))
unfolding restating
fits_restate b size =
    fits_on one_value 0 (omega arith) b (length_or13 (restated b) size) (fits_text one_value (restated b) size)

pub fits_figure : (b : List ℕ) → FitsWord (values one_value (figure_outcome b))
unfolding figure_outcome
fits_figure b = fits_after one_value b (figure b)

pub fits_stuck : (b : List ℕ) → FitsWord (values (λ t. one_value (bit t)) (stuck_outcome b))
unfolding stuck_outcome
fits_stuck b = fits_after (λ t. one_value (bit t)) b (stuck b)

pub fits_report : (b : List ℕ) (size : ℕ) → FitsWord (values one_value (reporting b size))
unfolding reporting
fits_report b size = fits_text one_value (report b) size

-- 15, 16 and 17 are told with the step index 0 and the sheet 0 (O4, O8)
fits_by : (t : Bool) (k : ℕ) → 1 ≤ k → k < 256 → (o : Outcome ℕ) → FitsWord (values one_value o)
    → FitsWord (values one_value (refused_by t k o))
fits_by true k low small o p = (low, small, omega arith, omega arith)
fits_by false k low small o p = p

pub fits_rows : (b : List ℕ) (size : ℕ) → FitsWord (values one_value (rows_outcome b size))
unfolding rows_outcome
fits_rows b size =
    fits_by (malformed b) 15 (omega arith) (omega arith) _
    (fits_by (bad_row (product_of b)) 16 (omega arith) (omega arith) _
    (fits_by (idle_component (product_of b)) 17 (omega arith) (omega arith) _
    (fits_text one_value (product_sheet (product_of b)) size)))

-- an answer that refuses by a small number, at a step of a sheet (O4)
fits_refused : (r : Answer) (k i : ℕ) → 1 ≤ k → k < 256 → i ≤ longest → outcome_of r ≡ Outcome.refused k i 0 → FitsWord (outcome_of r)
fits_refused r k i low small below e =
    subst FitsWord (sym e) (low, small, omega arith, omega arith)

-- 18 and 19 are told with the step index 0 and the sheet 0 (O4, O9)
pub fits_columns : (b d out : List ℕ) (r : Answer) (left : List ℕ) → ColumnsAnswer b d out r left → FitsWord (outcome_of r)
fits_columns b d out r left (ColumnsAnswer.sheet_refused k i v e kept) =
    let h = verdict_small b k i v in fits_refused r k i h.0 (omega arith) h.2 e
fits_columns b d out r left (ColumnsAnswer.not_legible acc h e kept) = fits_refused r 18 0 (omega arith) (omega arith) (omega arith) e
fits_columns b d out r left (ColumnsAnswer.not_executable acc cs x h e kept) = fits_refused r 19 0 (omega arith) (omega arith) (omega arith) e
fits_columns b d out r left (ColumnsAnswer.as_restated acc cs x c h e kept) =
    subst FitsWord (sym e) (fits_restate c (length out))

pub fits_work : (b c : List ℕ) → FitsWord (values (λ t. one_value (bit t)) (same_work b c))
unfolding same_work
fits_work b c = fits_two (λ t. one_value (bit t)) b c (same_numbers (restated_steps b) (restated_steps c))

pub fits_winner : (b c : List ℕ) → FitsWord (values one_value (winner b c))
unfolding winner
fits_winner b c = fits_two one_value b c (cond (ltb (length (restated_steps c)) (length (restated_steps b))) 1 0)

-- ---- an answer told as an equal outcome (O4, O7)

-- a refusal that fits into a word, and so do its parts (O4, O7)
pub parts_fit : (o : Outcome (List ℕ)) → FitsWord o → PartsFit o
parts_fit (Outcome.given xs) p = tt
parts_fit (Outcome.refused k i s) p = (p.2, p.3)

-- an answer that is told as an outcome fits as that outcome does (O4, O7)
pub fits_told : (told : Answer) (o : Outcome (List ℕ)) → outcome_of told ≡ o → FitsWord o → PartsFit (outcome_of told)
fits_told told o e p = subst PartsFit (sym e) (parts_fit o p)

-- an answer is handed over as its outcome is (O5)
pub handed_told : (told : Answer) (o : Outcome (List ℕ)) → outcome_of told ≡ o → (r : ℕ) (old new : List ℕ) → CAnswer (outcome_of told) r old new
    → CAnswer o r old new
handed_told told o e r old new h = subst (λ (x : Outcome (List ℕ)). CAnswer x r old new) e h
