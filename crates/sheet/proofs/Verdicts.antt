-- O1: the verdict is the first refusal in the printed order, or accepted when none holds, and it is the only such verdict.
-- N1: a sheet is accepted exactly when it is in limits and no step has a fault.
-- Assumes nothing.
use mathlib.Core.Path.{◌≡◌, refl, sym, ap, ◌∙◌, subst}
use mathlib.Core.Logic.{◌↔◌, ◌≢◌}
use mathlib.Core.Bool.{true, false}
use mathlib.Core.List.{List}
use mathlib.Core.Option.{Option, none, some}
use Prim.Native.Nat.{ℕ, suc, ◌-◌, ◌≤◌, ◌<◌}
use native.Mathlib.Decide.{dec_lt}
use native.Mathlib.Omega.{arith}
use lib.ListN.{length, get_or}
use Rattle.sets.proofs.Bools.{not_both, eqb_false}
use Rattle.systems.specs.Tables.{Tables}
use Rattle.systems.specs.Running.{Held, start}
use Rattle.systems.specs.Checking.{faulty, Fault, first_fault, held_before}
use Rattle.systems.proofs.Faults.{first_fault_fact, no_fault}
use Rattle.sheet.specs.Layout.{tables, steps}
use Rattle.sheet.specs.Limits.{InLimits}
use Rattle.sheet.specs.Refusals.{refusal}
use Rattle.sheet.specs.Verdict.{Verdict, accepted, refused, of_fault, steps_verdict, trailer_verdict, tables_verdict}
use Rattle.sheet.specs.Verdict.{verdict, IsVerdict, sheet_refused, step_refused, all_passed, Accepted}
use Rattle.sheet.proofs.Limits.{limits_exact}
use Rattle.sheet.proofs.Guards.{NoRefusal, Guard, stops, lets, trailer_guard, sheet_guard, guard_passed}

-- the refusals of a step are 10, 11 and 12
faulty_number : (T : Tables) (H : Held) (x k : ℕ) → faulty T H x k ≡ true → (10 ≤ k) × (k ≤ 12)
unfolding faulty
faulty_number T H x k e =
    let low : ¬ (k < 10) = λ l. not_both e (other (omega arith) (omega arith) (omega arith)) in
    let high : ¬ (12 < k) = λ l. not_both e (other (omega arith) (omega arith) (omega arith)) in
    omega arith
  where
    other : k ≢ 10 → k ≢ 11 → k ≢ 12 → faulty T H x k ≡ false
    other f g h = rw ((eqb_false k 10).1 f, (eqb_false k 11).1 g, (eqb_false k 12).1 h)

-- ---- the numbers of the sheet's refusals

-- there is no refusal 0, and none of the sheet behind 9
refusal_zero : (b : List ℕ) → refusal b 0 ≡ false
unfolding refusal
refusal_zero b = refl

refusal_behind : (b : List ℕ) (k : ℕ) → 9 < k → refusal b k ≡ false
unfolding refusal
refusal_behind b k h =
    let far : k ≡ suc (suc (suc (suc (suc (suc (suc (suc (suc (suc (k - 10)))))))))) = omega arith in
    ap (refusal b) far

refusal_number : (b : List ℕ) (k : ℕ) → refusal b k ≡ true → (1 ≤ k) × (k ≤ 9)
refusal_number b k e =
    let low : ¬ (k ≡ 0) = λ q. not_both (ap (refusal b) (sym q) ∙ e) (refusal_zero b) in
    let high : ¬ (9 < k) = λ l. not_both e (refusal_behind b k l) in
    omega arith

-- no refusal below k holds, of 1 to 9 or any other
none_below : (b : List ℕ) (k : ℕ) → NoRefusal b 1 k → (i : ℕ) → i < k → refusal b i ≡ false
none_below b k h i l =
    elim (dec_lt 0 i) [
      | yes p ↦ h i p l
      | no p ↦ let is : i ≡ 0 = omega arith in ap (refusal b) is ∙ refusal_zero b
    ]

none_at_all : (b : List ℕ) → NoRefusal b 1 10 → (k : ℕ) → refusal b k ≡ false
none_at_all b h k = elim (dec_lt k 10) [ yes l ↦ none_below b 10 h k l | no n ↦ refusal_behind b k (omega arith) ]

-- ---- the first that holds

steps_first : (b : List ℕ) → ((k : ℕ) → refusal b k ≡ false) → IsVerdict b (steps_verdict b)
unfolding steps_verdict
steps_first b before = go (first_fault (tables b) (start (tables b)) 0 (steps b)) refl
  where
    go : (f : Option Fault) → first_fault (tables b) (start (tables b)) 0 (steps b) ≡ f → IsVerdict b (of_fault f)
    go none e = all_passed before ((no_fault (tables b) (start (tables b)) (steps b)).0 e)
    go (some f) e = step_refused f before ((first_fault_fact (tables b) (start (tables b)) (steps b) f).0 e)

-- O1, O2: the verdict is the first refusal in the printed order, or accepted where none holds
pub verdict_first : (b : List ℕ) → IsVerdict b (verdict b)
unfolding verdict
verdict_first b = go (sheet_guard b)
  where
    go : Guard b 1 10 (λ v. trailer_verdict b (tables_verdict b v)) → IsVerdict b (verdict b)
    go (stops k e before h) = subst (IsVerdict b) (sym (h (steps_verdict b))) (sheet_refused k e (none_below b k before))
    go (lets before h) = subst (IsVerdict b) (sym (h (steps_verdict b))) (steps_first b (none_at_all b before))

-- ---- no other verdict

same_verdict : (b : List ℕ) {v w : Verdict} → IsVerdict b v → IsVerdict b w → v ≡ w
same_verdict b (sheet_refused k e before) (sheet_refused l d earlier) =
    let low : ¬ (k < l) = λ h. not_both e (earlier k h) in
    let high : ¬ (l < k) = λ h. not_both d (before l h) in
    ap (λ (n : ℕ). refused n 0) (omega arith)
same_verdict b (sheet_refused k e before) (step_refused g passed g-first) = absurd (not_both e (passed k))
same_verdict b (sheet_refused k e before) (all_passed passed faultless) = absurd (not_both e (passed k))
same_verdict b (step_refused f passed f-first) (sheet_refused l d earlier) = absurd (not_both d (passed l))
same_verdict b (step_refused f passed f-first) (step_refused g passed' g-first) =
    ap of_fault (sym ((first_fault_fact (tables b) (start (tables b)) (steps b) f).1 f-first)
    ∙ (first_fault_fact (tables b) (start (tables b)) (steps b) g).1 g-first)
same_verdict b (step_refused f passed f-first) (all_passed passed' faultless) =
    absurd (not_both f-first.holds (faultless f.index f-first.step_below f.number))
same_verdict b (all_passed passed faultless) (sheet_refused l d earlier) = absurd (not_both d (passed l))
same_verdict b (all_passed passed faultless) (step_refused g passed' g-first) =
    absurd (not_both g-first.holds (faultless g.index g-first.step_below g.number))
same_verdict b (all_passed passed faultless) (all_passed passed' faultless') = refl

-- O1, O2: nothing else is
pub verdict_only : (b : List ℕ) (v : Verdict) → IsVerdict b v → v ≡ verdict b
verdict_only b v h = same_verdict b h (verdict_first b)

-- ---- accepted sheets, and the numbers of a refusal

-- N1: accepted exactly when the sheet is in limits and the steps have no fault
pub accepted_exact : (b : List ℕ) → Accepted b ↔ (InLimits b × (first_fault (tables b) (start (tables b)) 0 (steps b) ≡ none))
accepted_exact b = (λ e. to (subst (IsVerdict b) e (verdict_first b)), from)
  where
    to : IsVerdict b accepted → InLimits b × (first_fault (tables b) (start (tables b)) 0 (steps b) ≡ none)
    to (all_passed passed faultless) = ((limits_exact b).0 passed, (no_fault (tables b) (start (tables b)) (steps b)).1 faultless)

    from : InLimits b × (first_fault (tables b) (start (tables b)) 0 (steps b) ≡ none) → Accepted b
    from h = sym (verdict_only b accepted (all_passed ((limits_exact b).1 h.0) ((no_fault (tables b) (start (tables b)) (steps b)).0 h.1)))

-- R1 to R9: in limits where the trailer passed, and the tables passed
pub passed_limits : (b : List ℕ) → trailer_verdict b accepted ≡ accepted → tables_verdict b accepted ≡ accepted → InLimits b
passed_limits b t e =
    (limits_exact b).0
    (none_at_all b (guard_passed (sheet_guard b) ((guard_passed (trailer_guard b) t).1 (tables_verdict b accepted) ∙ e)).0)

-- O4: a refusal's number is 1 to 12; its index is 0 up to 9, and from 10 on that of a step
pub verdict_number : (b : List ℕ) (k i : ℕ) → verdict b ≡ refused k i
    → (1 ≤ k) × (k ≤ 12) × (k ≤ 9 → i ≡ 0) × (10 ≤ k → i < length (steps b))
verdict_number b k i e = go (verdict_first b) e
  where
    go : {v : Verdict} → IsVerdict b v → v ≡ refused k i → (1 ≤ k) × (k ≤ 12) × (k ≤ 9 → i ≡ 0) × (10 ≤ k → i < length (steps b))
    go (sheet_refused l h before) e =
        let r = refusal_number b l h in
        let p : l ≡ k = cc in
        let q : 0 ≡ i = cc in
        omega arith
    go (step_refused f passed f-first) e =
        let r = faulty_number (tables b) (held_before (tables b) (start (tables b)) (steps b) f.index) (get_or (steps b) f.index 0) f.number
        f-first.holds in
        let p : f.number ≡ k = cc in
        let q : f.index ≡ i = cc in
        let l = f-first.step_below in
        omega arith
    go (all_passed passed faultless) e = let z : ◌≡◌ {A = ℕ} 0 1 = cc in absurd (omega arith)
