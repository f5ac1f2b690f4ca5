-- O6, O7: the refusals of two sheets given together, from the check of each: the first sheet's, the second's, then 14; and what is known of
-- a pair that passed.
-- Assumes nothing.
use mathlib.Core.Path.{◌≡◌, refl, sym, ap, ◌∙◌}
use mathlib.Core.Bool.{Bool, true, false}
use mathlib.Core.List.{List, [], ◌∷◌}
use Prim.Native.Nat.{ℕ}
use native.Mathlib.Omega.{arith}
use Rattle.sets.proofs.Bools.{not_both}
use Rattle.sheet.specs.Layout.{component_count, action_count, transitions_at, steps_at}
use Rattle.sheet.specs.Verdict.{Verdict, verdict, trailer_verdict, tables_verdict, steps_verdict, Accepted}
use Rattle.sheet.proofs.Guards.{trailer_guard, guard_stopped}
use Rattle.answers.specs.declared.Sizes.{Sizes}
use Rattle.answers.specs.declared.Refusal.{Refusal}
use Rattle.answers.specs.declared.Answer.{Answer}
use Rattle.answers.specs.Related.{SameTables}
use Rattle.answers.specs.Outcomes.{Outcome, given, refused, number_of, outcome_of, on_sheet, sizes_of, read_outcome}
use Rattle.answers.specs.TwoSheets.{tables_differ, unless_differ, of_two}
use Rattle.answers.proofs.Passing.{NotAccepted}
use Rattle.answers.proofs.Restated.{accepted_limits}
use Rattle.answers.proofs.TwoSheets.{differ_false, two_apart, two_given}
use Rattle.desk.specs.AcceptedSheet.{AcceptedSheet}
use Rattle.desk.specs.Calls.{CheckAnswer}
use Rattle.desk.proofs.AcceptedFacts.{accepted_sheet}

-- the sizes as a list
abbrev listed : Sizes → List ℕ
listed z = z.n ∷ z.m ∷ z.t ∷ z.s ∷ []

-- ---- the check of the second sheet (O6, O7)

-- sizes are told of a second sheet as of that sheet alone
pub second_alone : (c : List ℕ) (z : Sizes) (v : Verdict) → outcome_of (Answer.Accepted z) ≡ on_sheet 1 v (given (sizes_of c))
    → outcome_of (Answer.Accepted z) ≡ read_outcome c v
second_alone c z Verdict.accepted h = h
second_alone c z (Verdict.refused k i) h = let z : ◌≡◌ {A = ℕ} 0 1 = cc in absurd (omega arith)

-- an accepted second sheet tells what the check of it alone tells (N1)
pub second_sheet : (c : List ℕ) (z : Sizes) → outcome_of (Answer.Accepted z) ≡ on_sheet 1 (verdict c) (given (sizes_of c)) → AcceptedSheet c z
second_sheet c z e = accepted_sheet c z (second_alone c z (verdict c) e)

-- N1: an accepted sheet tells its sizes
pub sizes_told : (b : List ℕ) (z : Sizes) → AcceptedSheet b z → CheckAnswer b (Answer.Accepted z)
sizes_told b z k = let r = k.sizes_read in rw (k.sheet_accepted, r.n_read, r.m_read, r.t_read, r.s_read) refl

-- ---- the check of both (O6)

-- an answer that is not accepted is passed on as it is, whatever would come after
stays : (a : Answer) → NotAccepted a → (sheet : ℕ) (v : Verdict) (n m t s : ℕ) → outcome_of a ≡ on_sheet sheet v (given (n ∷ m ∷ t ∷ s ∷ []))
    → (x : Outcome (List ℕ)) → outcome_of a ≡ on_sheet sheet v x
stays a h sheet (Verdict.refused k i) n m t s e x = e
stays (Answer.Accepted z) h sheet Verdict.accepted n m t s e x = absurd (h z refl)
stays (Answer.Given y) h sheet Verdict.accepted n m t s e x = let z : ◌≡◌ {A = ℕ} 0 1 = cc in absurd (omega arith)
stays (Answer.Refused k i w) h sheet Verdict.accepted n m t s e x = let z : ◌≡◌ {A = ℕ} 0 1 = cc in absurd (omega arith)

-- what the trailer of the second sheet refuses, the check of it refuses (O1)
pub trailer_stops : (c : List ℕ) (a : Answer) → NotAccepted a → outcome_of a ≡ on_sheet 1 (trailer_verdict c Verdict.accepted) (given (sizes_of c))
    → outcome_of a ≡ on_sheet 1 (verdict c) (given (sizes_of c))
unfolding verdict
trailer_stops c a h e = go (trailer_verdict c Verdict.accepted) refl e
  where
    go : (v : Verdict) → trailer_verdict c Verdict.accepted ≡ v → outcome_of a ≡ on_sheet 1 v (given (sizes_of c))
        → outcome_of a ≡ on_sheet 1 (verdict c) (given (sizes_of c))
    go (Verdict.refused k i) q f =
        f ∙ ap (λ (v : Verdict). on_sheet 1 v (given (sizes_of c)))
        (sym (guard_stopped (trailer_guard c) k i q (tables_verdict c (steps_verdict c))))
    go Verdict.accepted q f =
        stays a h 1 Verdict.accepted (component_count c) (action_count c) (transitions_at c) (steps_at c) f
        (on_sheet 1 (verdict c) (given (sizes_of c)))

module _ (b c : List ℕ) where
  abbrev tables_next : Outcome (List ℕ)
  tables_next = unless_differ (tables_differ b c) (sizes_of b)

  pub first_stops : (a : Answer) → NotAccepted a → outcome_of a ≡ read_outcome b (verdict b) → outcome_of a ≡ of_two b c (sizes_of b)
  unfolding of_two
  first_stops a h e = stays a h 0 (verdict b) (component_count b) (action_count b) (transitions_at b) (steps_at b) e (on_sheet 1 (verdict c) tables_next)

  pub second_stops : Accepted b → (a : Answer) → NotAccepted a → outcome_of a ≡ on_sheet 1 (verdict c) (given (sizes_of c))
      → outcome_of a ≡ of_two b c (sizes_of b)
  unfolding of_two
  second_stops acc a h e = rw acc (stays a h 1 (verdict c) (component_count c) (action_count c) (transitions_at c) (steps_at c) e tables_next)

  -- R14: the tables differ
  pub tables_stop : Accepted b → Accepted c → tables_differ b c ≡ true → refused 14 0 0 ≡ of_two b c (sizes_of b)
  tables_stop acc acc' e = sym (two_apart b c (sizes_of b) acc acc' (λ t. not_both e ((differ_false b c).1 t)))

  pub two_pass : (z : Sizes) → AcceptedSheet b z → (w : Sizes) → AcceptedSheet c w → tables_differ b c ≡ false
      → given (listed w) ≡ of_two b c (sizes_of b)
  two_pass z r w k e =
      let same = (differ_false b c).0 e in
      sym ((two_given b c (sizes_of b) (listed w)).1 (r.sheet_accepted, k.sheet_accepted, same, told same))
    where
      told : SameTables b c → sizes_of b ≡ listed w
      told same =
          let one = (accepted_limits b r.sheet_accepted).transitions_next in
          let next = (accepted_limits c k.sheet_accepted).transitions_next in
          let n = same.same_components in
          let third : transitions_at b ≡ transitions_at c = omega arith in
          let m = k.sizes_read in
          rw (m.n_read, m.m_read, m.t_read, m.s_read, same.same_components, same.same_actions, third, same.same_steps_at) refl

-- ---- a pair that passed, and one that was refused (O6, O7)

-- both sheets have the same sizes and the same tables (N4)
pub record BothPassed (b c : List ℕ) (z : Sizes) : Type 0 where
  pub first_accepted : AcceptedSheet b z
  pub second_accepted : AcceptedSheet c z
  pub same_tables : SameTables b c

-- R14: the sheets of a pair that is not refused have the same tables, and so the same sizes
pub both_passed : (b c : List ℕ) (a : Answer) (z : Sizes) → a ≡ Answer.Accepted z → outcome_of a ≡ of_two b c (sizes_of b) → BothPassed b c z
both_passed b c a z q e = record { first_accepted = one; second_accepted = accepted_sheet c z second; same_tables = same }
  where
    all : Accepted b × Accepted c × SameTables b c × (sizes_of b ≡ listed z)
    all = (two_given b c (sizes_of b) (listed z)).0 (sym (ap outcome_of (sym q) ∙ e))

    same : SameTables b c
    same = all.2

    told : (d : List ℕ) → Accepted d → listed z ≡ sizes_of d → outcome_of (Answer.Accepted z) ≡ read_outcome d (verdict d)
    told d acc h = rw acc (ap given h)

    one : AcceptedSheet b z
    one = accepted_sheet b z (told b all.0 (sym all.3))

    -- T is 16 times n in both sheets
    third : transitions_at b ≡ transitions_at c
    third =
        let first = (accepted_limits b all.0).transitions_next in
        let next = (accepted_limits c all.1).transitions_next in
        let n = same.same_components in
        omega arith

    second : outcome_of (Answer.Accepted z) ≡ read_outcome c (verdict c)
    second = told c all.1 (sym all.3 ∙ rw (same.same_components, same.same_actions, third, same.same_steps_at) refl)

-- the answer is a refusal, and the pair gets it whatever it would get (O6, O7)
pub record TwoRefused (b c : List ℕ) (a : Answer) : Type 0 where
  pub refusal : Refusal
  pub index : ℕ
  pub sheet : ℕ
  pub answer_told : a ≡ Answer.Refused refusal index sheet
  pub two_told : refused (number_of refusal) index sheet ≡ of_two b c (sizes_of b)

pub refused_two : (b c : List ℕ) (a : Answer) → NotAccepted a → outcome_of a ≡ of_two b c (sizes_of b) → TwoRefused b c a
refused_two b c (Answer.Accepted z) h e = absurd (h z refl)
refused_two b c (Answer.Given y) h e =
    let told = ((two_given b c (sizes_of b) (y ∷ [])).0 (sym e)).3 in
    let z : ◌≡◌ {A = ℕ} 0 1 = cc in
    absurd (omega arith)
refused_two b c (Answer.Refused r i s) h e = record { refusal = r; index = i; sheet = s; answer_told = refl; two_told = e }

-- O6: the refusal of a pair does not depend on what was asked of it
pub refused_alike : {A B : Type 0} (b c : List ℕ) (x : A) (y : B) (k i s : ℕ) → refused k i s ≡ of_two b c x → refused k i s ≡ of_two b c y
unfolding of_two
refused_alike {A} {B} b c x y k i s e = go (verdict b) (verdict c) (tables_differ b c) e
  where
    go : (v w : Verdict) (d : Bool) → refused k i s ≡ on_sheet 0 v (on_sheet 1 w (unless_differ d x))
        → refused k i s ≡ on_sheet 0 v (on_sheet 1 w (unless_differ d y))
    go (Verdict.refused l j) w d h = cc
    go Verdict.accepted (Verdict.refused l j) d h = cc
    go Verdict.accepted Verdict.accepted true h = cc
    go Verdict.accepted Verdict.accepted false h = let z : ◌≡◌ {A = ℕ} 0 1 = cc in absurd (omega arith)
