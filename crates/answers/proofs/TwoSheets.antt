-- O6, O7: two sheets given together are refused in the printed order. A1: same work answers yes exactly for related sheets.
-- Assumes nothing.
use mathlib.Core.Path.{◌≡◌, refl, ap}
use mathlib.Core.Logic.{◌↔◌, inl, inr}
use mathlib.Core.Bool.{Bool, true, false, not, ◌||◌}
use mathlib.Core.List.{List}
use Prim.Native.Nat.{ℕ}
use native.Mathlib.Omega.{arith}
use lib.Dec.{eqb}
use Rattle.sets.proofs.Bools.{not_both, true_or_false, or_false, not_false, eqb_true, false_iff}
use Rattle.sheet.specs.Layout.{steps_at, component_count, action_count, front}
use Rattle.sheet.specs.Refusals.{same_numbers}
use Rattle.sheet.specs.Verdict.{Accepted}
use Rattle.sheet.proofs.Limits.{same_numbers_fact}
use Rattle.answers.specs.Related.{SameTables, RelatedSheets}
use Rattle.answers.specs.Restated.{restated_steps}
use Rattle.answers.specs.Outcomes.{given, refused}
use Rattle.answers.specs.TwoSheets.{tables_differ, unless_differ, of_two}
use Rattle.answers.specs.SameWork.{same_work}
use Rattle.answers.specs.FirstRefusal.{TablesDiffer, TwoSheetRefusal, RefusesBy}
use Rattle.answers.proofs.RefusalsDue.{after_sheet, on_given}
use Rattle.answers.proofs.Relations.{related_steps, steps_related}

-- R14 does not hold exactly when the two sheets are over the same tables
pub differ_false : (b c : List ℕ) → (tables_differ b c ≡ false) ↔ SameTables b c
unfolding tables_differ
differ_false b c = (
  λ e. let l = (or_false (p || q || r) s).0 e in let k = (or_false (p || q) r).0 l.0 in let h = (or_false p q).0 k.0 in
      record {
        same_front = (same_numbers_fact (front b) (front c)).0 ((not_false _).0 h.0);
        same_steps_at = (eqb_true (steps_at b) (steps_at c)).0 ((not_false _).0 h.1);
        same_components = (eqb_true (component_count b) (component_count c)).0 ((not_false _).0 k.1);
        same_actions = (eqb_true (action_count b) (action_count c)).0 ((not_false _).0 l.1);
      },
  λ t.
      (or_false (p || q || r) s).1 (
        (or_false (p || q) r).1 (
          (or_false p q).1 (
            (not_false _).1 ((same_numbers_fact (front b) (front c)).1 t.same_front),
            (not_false _).1 ((eqb_true (steps_at b) (steps_at c)).1 t.same_steps_at),
          ),
          (not_false _).1 ((eqb_true (component_count b) (component_count c)).1 t.same_components),
        ),
        (not_false _).1 ((eqb_true (action_count b) (action_count c)).1 t.same_actions),
      ),
)
  where
    p : Bool
    p = not (same_numbers (front b) (front c))

    q : Bool
    q = not (eqb (steps_at b) (steps_at c))

    r : Bool
    r = not (eqb (component_count b) (component_count c))

    s : Bool
    s = not (eqb (action_count b) (action_count c))

-- ---- the refusals of a pair, in the printed order (O6, O7)

differ_due : {A : Type 0} (b c : List ℕ) (x : A) → RefusesBy (TablesDiffer b c) (unless_differ (tables_differ b c) x)
differ_due b c x k i s = go (tables_differ b c) refl
  where
    go : (d : Bool) → tables_differ b c ≡ d → (unless_differ d x ≡ refused k i s) ↔ TablesDiffer b c k i s
    go true q = (
      λ e. (λ t. not_both q ((differ_false b c).1 t), (cc, cc, cc)),
      λ p. let n = p.1.0 in let j = p.1.1 in let w = p.1.2 in cc,
    )
    go false q = (
      λ e. let z : ◌≡◌ {A = ℕ} 0 1 = cc in absurd (omega arith),
      λ p. absurd (p.0 ((differ_false b c).0 q)),
    )

-- O6, O7: a pair is refused exactly by the first refusal that is due, told with its sheet
pub two_refuses : {A : Type 0} (b c : List ℕ) (x : A) → RefusesBy (TwoSheetRefusal b c) (of_two b c x)
unfolding of_two
two_refuses b c x = after_sheet 0 b _ _ (after_sheet 1 c _ _ (differ_due b c x))

-- R14: two accepted sheets whose tables differ are refused by 14
pub two_apart : {A : Type 0} (b c : List ℕ) (x : A) → Accepted b → Accepted c → ¬ SameTables b c → of_two b c x ≡ refused 14 0 0
unfolding of_two
two_apart b c x acc acc' n = rw (acc, acc', differ)
  where
    differ : tables_differ b c ≡ true
    differ = elim (true_or_false (tables_differ b c)) [ inl t ↦ t | inr f ↦ absurd (n ((differ_false b c).0 f)) ]

-- O6: a pair gets x as its answer exactly when both sheets are accepted over the same tables
pub two_given : {A : Type 0} (b c : List ℕ) (x y : A) → (of_two b c x ≡ given y) ↔ (Accepted b × Accepted c × SameTables b c × (x ≡ y))
unfolding of_two
two_given {A} b c x y = (
  λ e. let one = on_given _ _ _ y e in
      let two = on_given _ _ _ y one.1 in
      let last = passed (tables_differ b c) two.1 in
      (one.0, two.0, (differ_false b c).0 last.0, last.1),
  λ h. rw (h.0, h.1, (differ_false b c).1 h.2) (ap given h.3),
)
  where
    passed : (d : Bool) → unless_differ d x ≡ given y → (d ≡ false) × (x ≡ y)
    passed true e = let z : ◌≡◌ {A = ℕ} 0 1 = cc in absurd (omega arith)
    passed false e = (refl, cc)

-- ---- same work (A1)

-- A1: yes exactly for related sheets
pub work_same : (b c : List ℕ) → (same_work b c ≡ given true) ↔ RelatedSheets b c
unfolding same_work
work_same b c = (
  λ e. let h = (two_given b c (same_numbers (restated_steps b) (restated_steps c)) true).0 e in
      steps_related b c h.0 h.1 h.2 ((same_numbers_fact (restated_steps b) (restated_steps c)).0 h.3),
  λ r. (two_given b c (same_numbers (restated_steps b) (restated_steps c)) true).1
      (r.first_accepted, r.second_accepted, r.same_tables, (same_numbers_fact (restated_steps b) (restated_steps c)).1 (related_steps r)),
)

-- A1: no exactly for accepted sheets over the same tables that are not related
pub work_other : (b c : List ℕ) → (same_work b c ≡ given false) ↔ (Accepted b × Accepted c × SameTables b c × (¬ RelatedSheets b c))
unfolding same_work
work_other b c = (
  λ e. let h = (two_given b c (same_numbers (restated_steps b) (restated_steps c)) false).0 e in
      (h.0, h.1, h.2, λ r. not_both ((same_numbers_fact (restated_steps b) (restated_steps c)).1 (related_steps r)) h.3),
  λ h. (two_given b c (same_numbers (restated_steps b) (restated_steps c)) false).1 (
    h.0,
    h.1,
    h.2,
    (false_iff (same_numbers (restated_steps b) (restated_steps c))).1
        (λ e. h.3 (steps_related b c h.0 h.1 h.2 ((same_numbers_fact (restated_steps b) (restated_steps c)).0 e))),
  ),
)
