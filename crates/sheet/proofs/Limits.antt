-- Each of R1 to R9 fails to hold exactly when its sentence is met, and none of them holds exactly when the sheet is in limits.
-- The tables of a sheet in limits are in order.
-- Assumes nothing.
use mathlib.Core.Path.{◌≡◌, refl, sym, ap₂, ◌∙◌}
use mathlib.Core.Logic.Iff
use mathlib.Core.Logic.{◌↔◌, ◌≢◌, ◌⊎◌, inl, inr}
use mathlib.Core.Bool.{Bool, true, false, not, ◌&&◌, ◌||◌, false≢true}
use mathlib.Core.List.{List, [], ◌∷◌, Memᴰ}
use Prim.Native.Nat.{ℕ, zero, suc, ◌+◌, ◌-◌, ◌*◌, ◌/◌, ◌%◌, ◌^◌, ◌≤◌, ◌<◌}
use native.Mathlib.Omega.{arith}
use lib.Dec.{ltb, leb, eqb}
use lib.ListN.{length, take, drop, get_or}
use lib.Seq.{get_or-take, get_or-drop}
use Rattle.sets.specs.Lists.{any_of, below}
use Rattle.sets.specs.Bits.{member}
use Rattle.sets.proofs.Bools.{true_or_false, not_false, and_true, or_true, or_false, leb_false, ltb_true, ltb_false, eqb_true, eqb_false}
use Rattle.sets.proofs.Lists.{any_of_intro, any_of_elim, any_of_false, none_false, mem_below}
use Rattle.sets.proofs.Members.{member_lt, lt_members}
use Rattle.systems.specs.Tables.{Transition, Tables, internal, Fits, InOrder}
use Rattle.systems.specs.Checking.{flat}
use Rattle.sheet.specs.Bounds.{record_size, transition_size, step_size, trailer_size, shortest, longest}
use Rattle.sheet.specs.Bounds.{most_components, most_actions, most_states, most_transitions, most_steps, most_in_steps}
use Rattle.sheet.specs.Numbers.{number, field}
use Rattle.sheet.specs.Layout.{records_at, transitions_at, steps_at, component_count, action_count, closing, mark, front}
use Rattle.sheet.specs.Layout.{states_of, filler_of, initial_of, alphabet_of, transition_bytes, tables_of, tables, steps}
use Rattle.sheet.specs.Limits.{RecordInLimits, Before, shorter, here, later, AscendingFrom, Ascending, InLimits}
use Rattle.sheet.specs.Refusals.{outside, same_numbers, length_wrong, mark_wrong, counts_wrong, offsets_wrong}
use Rattle.sheet.specs.Refusals.{record_wrong, records_wrong, action_unused, transition_wrong, transitions_wrong}
use Rattle.sheet.specs.Refusals.{less_bytes, rising_from, rising_bytes, order_wrong, too_many_actions, refusal}

-- ---- tests that fail, each with what it then says (R1 to R9)

neither : {p q : Bool} {A B : Type 0} → ((p ≡ false) ↔ A) → ((q ≡ false) ↔ B) → (p || q ≡ false) ↔ (A × B)
neither {p} {q} f g =
    (λ e. let h = (or_false p q).0 e in (f.0 h.0, g.0 h.1), λ h. (or_false p q).1 (f.1 h.0, g.1 h.1))

both : {p q : Bool} {A B : Type 0} → ((p ≡ true) ↔ A) → ((q ≡ true) ↔ B) → (p && q ≡ true) ↔ (A × B)
both {p} {q} f g =
    (λ e. let h = (and_true p q).0 e in (f.0 h.0, g.0 h.1), λ h. (and_true p q).1 (f.1 h.0, g.1 h.1))

-- a number is not outside of two bounds: R1, R3 and R5 ask this
pub inside : (low high x : ℕ) → (outside low high x ≡ false) ↔ ((low ≤ x) × (x ≤ high))
inside low high x = neither (ltb_false x low) (ltb_false high x)

same : (x y : ℕ) → (not (eqb x y) ≡ false) ↔ (x ≡ y)
same x y = Iff.trans (not_false (eqb x y)) (eqb_true x y)

-- a set that has no bit at or above n
bits_below : (n x : ℕ) → (leb (2 ^ n) x ≡ false) ↔ ((i : ℕ) → member x i ≡ true → i < n)
bits_below n x = Iff.trans (leb_false (2 ^ n) x) (λ h i. member_lt n x i h, lt_members n x)

-- no element fails
none_of : {A : Type 0} (p : A → Bool) (P : A → Type 0) → ((x : A) → (p x ≡ false) ↔ P x) → (l : List A)
    → (any_of p l ≡ false) ↔ ((x : A) → Memᴰ x l → P x)
none_of p P right l = (λ e x m. (right x).0 (any_of_false p l e m), λ h. none_false p l (λ x m. (right x).1 (h x m)))

-- no number below n fails
none_below : (p : ℕ → Bool) (P : ℕ → Type 0) → ((i : ℕ) → (p i ≡ false) ↔ P i) → (n : ℕ) → (any_of p (below n) ≡ false) ↔ ((i : ℕ) → i < n → P i)
none_below p P right n =
    Iff.trans (none_of p P right (below n))
    (λ h i l. h i ((mem_below n i).1 l), λ h i m. h i ((mem_below n i).0 m))

-- ---- bytes

-- the test for equal lists: R2 asks it of the closing mark, R14 of the tables
pub same_numbers_fact : (k l : List ℕ) → (same_numbers k l ≡ true) ↔ (k ≡ l)
same_numbers_fact [] [] = (λ e. refl, λ e. refl)
same_numbers_fact [] (y ∷ l) = (λ e. absurd (false≢true e), λ e. cc)
same_numbers_fact (x ∷ k) [] = (λ e. absurd (false≢true e), λ e. cc)
same_numbers_fact (x ∷ k) (y ∷ l) =
    Iff.trans (both (eqb_true x y) (same_numbers_fact k l))
    (λ h. ap₂ (λ (d : ℕ) (ds : List ℕ). d ∷ ds) h.0 h.1, λ (e : x ∷ k ≡ y ∷ l). (cc, cc))

-- a number is 0 exactly when each of its bytes is
number_zero : (d : List ℕ) → (number d ≡ 0) ↔ ((i : ℕ) → get_or d i 0 ≡ 0)
number_zero [] = (λ e i. refl, λ h. refl)
number_zero (x ∷ d) = (to (number_zero d).0, from (number_zero d).1)
  where
    to : (number d ≡ 0 → (i : ℕ) → get_or d i 0 ≡ 0) → x + 256 * number d ≡ 0 → (i : ℕ) → get_or (x ∷ d) i 0 ≡ 0
    to rest e zero = omega arith
    to rest e (suc i) = rest (omega arith) i

    from : (((i : ℕ) → get_or d i 0 ≡ 0) → number d ≡ 0) → ((i : ℕ) → get_or (x ∷ d) i 0 ≡ 0) → x + 256 * number d ≡ 0
    from rest h = let a = h 0 in let r = rest (λ i. h (suc i)) in omega arith

-- what stands behind the first `size` elements of a part is not looked at
take_zero : (size : ℕ) (l : List ℕ) → ((i : ℕ) → get_or (take size l) i 0 ≡ 0) ↔ ((i : ℕ) → i < size → get_or l i 0 ≡ 0)
take_zero size l = (λ h i b. sym (get_or-take size l i 0 b) ∙ h i, from size l)
  where
    from : (size : ℕ) (l : List ℕ) → ((i : ℕ) → i < size → get_or l i 0 ≡ 0) → (i : ℕ) → get_or (take size l) i 0 ≡ 0
    from zero l h i = refl
    from (suc size) [] h i = refl
    from (suc size) (x ∷ l) h zero = h 0 (omega arith)
    from (suc size) (x ∷ l) h (suc i) = from size l (λ j b. h (suc j) (omega arith)) i

field_zero : (at size : ℕ) (b : List ℕ) → (field at size b ≡ 0) ↔ ((i : ℕ) → i < size → get_or b (at + i) 0 ≡ 0)
unfolding field
field_zero at size b =
    Iff.trans (number_zero (take size (drop at b)))
    (Iff.trans (take_zero size (drop at b))
    (λ h i l. sym (get_or-drop at b i 0) ∙ h i l, λ h i l. get_or-drop at b i 0 ∙ h i l))

less_before : (k l : List ℕ) → less_bytes k l ≡ true → Before k l
less_before [] [] e = absurd (false≢true e)
less_before [] (y ∷ l) e = shorter
less_before (x ∷ k) [] e = absurd (false≢true e)
less_before (x ∷ k) (y ∷ l) e = go (less_before k l) ((or_true (ltb x y) (eqb x y && less_bytes k l)).0 e)
  where
    go : (less_bytes k l ≡ true → Before k l) → (ltb x y ≡ true) ⊎ (eqb x y && less_bytes k l ≡ true) → Before (x ∷ k) (y ∷ l)
    go rest (inl h) = here ((ltb_true x y).0 h)
    go rest (inr h) = let r = (and_true (eqb x y) (less_bytes k l)).0 h in later ((eqb_true x y).0 r.0) (rest r.1)

before_less : {k l : List ℕ} → Before k l → less_bytes k l ≡ true
before_less shorter = refl
before_less (here {x} {y} {xs = k} {ys = l} h) = (or_true (ltb x y) (eqb x y && less_bytes k l)).1 (inl ((ltb_true x y).1 h))
before_less (later {x} {y} {xs = k} {ys = l} e h) =
    (or_true (ltb x y) (eqb x y && less_bytes k l)).1 (inr ((and_true (eqb x y) (less_bytes k l)).1 ((eqb_true x y).1 e, before_less h)))

from_right : (x : List ℕ) (l : List (List ℕ)) → (rising_from x l ≡ true) ↔ AscendingFrom x l
from_right x [] = (λ e. tt, λ h. refl)
from_right x (y ∷ l) = both (less_before x y, before_less) (from_right y l)

ascending_right : (l : List (List ℕ)) → (rising_bytes l ≡ true) ↔ Ascending l
ascending_right [] = (λ e. tt, λ h. refl)
ascending_right (x ∷ l) = from_right x l

-- ---- refusals 1 to 9

-- R1 does not hold exactly when the length is within L7
pub length_right : (b : List ℕ) → (length_wrong b ≡ false) ↔ ((shortest ≤ length b) × (length b ≤ longest))
unfolding length_wrong
length_right b = inside shortest longest (length b)

-- R2 does not hold exactly when the sheet ends in the closing mark
pub mark_right : (b : List ℕ) → (mark_wrong b ≡ false) ↔ (closing b ≡ mark)
unfolding mark_wrong
mark_right b = Iff.trans (not_false (same_numbers (closing b) mark)) (same_numbers_fact (closing b) mark)

-- R3 does not hold exactly when both counts are within L1 and L2
pub counts_right : (b : List ℕ)
    → (counts_wrong b ≡ false) ↔ (((1 ≤ component_count b) × (component_count b ≤ most_components))
    × ((1 ≤ action_count b) × (action_count b ≤ most_actions)))
unfolding counts_wrong
counts_right b = neither (inside 1 most_components (component_count b)) (inside 1 most_actions (action_count b))

-- R4 does not hold exactly when the offsets fit
pub offsets_right : (b : List ℕ) → shortest ≤ length b
    → (offsets_wrong b ≡ false)
    ↔ ((records_at b ≡ 0)
    × (transitions_at b ≡ record_size * component_count b)
    × ((k : ℕ) × (k ≤ most_transitions) × (steps_at b ≡ transitions_at b + transition_size * k))
    × ((k : ℕ) × (k ≤ most_steps) × (length b ≡ steps_at b + step_size * k + trailer_size)))
unfolding offsets_wrong
offsets_right b long =
    Iff.trans
    (neither
    (neither
    (neither
    (neither
    (neither (neither (same (records_at b) 0) (same (transitions_at b) (record_size * component_count b)))
    (inside (transitions_at b) (length b - trailer_size) (steps_at b)))
    (same ((steps_at b - transitions_at b) % transition_size) 0))
    (ltb_false (transition_size * most_transitions) (steps_at b - transitions_at b)))
    (same ((length b - trailer_size - steps_at b) % step_size) 0))
    (ltb_false (step_size * most_steps) (length b - trailer_size - steps_at b))) (
      λ h. (
        omega arith,
        omega arith,
        ((steps_at b - transitions_at b) / transition_size, omega arith, omega arith),
        ((length b - trailer_size - steps_at b) / step_size, omega arith, omega arith),
      ),
      λ h. ((((((omega arith, omega arith), (omega arith, omega arith)), omega arith), omega arith), omega arith), omega arith),
    )

-- R5 does not hold exactly when the record is in limits
pub record_right : (b : List ℕ) (m j : ℕ) → (record_wrong b m j ≡ false) ↔ RecordInLimits b m j
unfolding record_wrong filler_of
record_right b m j =
    Iff.trans
    (neither
    (neither
    (neither
    (neither (neither (inside 1 most_states (states_of b j)) (Iff.trans (same (filler_of b j) 0) (field_zero (record_size * j + 1) 3 b)))
    (eqb_false (initial_of b j) 0))
    (bits_below (states_of b j) (initial_of b j)))
    (eqb_false (alphabet_of b j) 0))
    (bits_below m (alphabet_of b j))) (
      λ h. record {
        states_low = h.0.0.0.0.0.0;
        states_high = h.0.0.0.0.0.1;
        filler_zero = h.0.0.0.0.1;
        some_initial = h.0.0.0.1;
        initial_below = h.0.0.1;
        some_action = h.0.1;
        action_below = h.1;
      },
      λ r. ((((((r.states_low, r.states_high), r.filler_zero), r.some_initial), r.initial_below), r.some_action), r.action_below),
    )

-- R5: so of all records
pub records_right : (b : List ℕ)
    → (records_wrong b ≡ false) ↔ ((j : ℕ) → j < component_count b → RecordInLimits (front b) (action_count b) j)
unfolding records_wrong
records_right b = none_below (record_wrong (front b) (action_count b)) (RecordInLimits (front b) (action_count b))
    (record_right (front b) (action_count b)) (component_count b)

-- R6 does not hold exactly when each action belongs to some component
pub actions_used : (b : List ℕ)
    → (action_unused b ≡ false) ↔ ((a : ℕ) → a < action_count b → (j : ℕ) × (j < component_count b) × (member ((tables b).alphabet j) a ≡ true))
unfolding action_unused
actions_used b = none_below _ (λ a. (j : ℕ) × (j < component_count b) × (member ((tables b).alphabet j) a ≡ true)) used (action_count b)
  where
    used : (a : ℕ) → (not (any_of (λ j. member ((tables b).alphabet j) a) (below (component_count b))) ≡ false)
        ↔ ((j : ℕ) × (j < component_count b) × (member ((tables b).alphabet j) a ≡ true))
    used a =
        Iff.trans (not_false (any_of (λ j. member ((tables b).alphabet j) a) (below (component_count b)))) (
          λ e. let r = any_of_elim (λ j. member ((tables b).alphabet j) a) (below (component_count b)) e in
              (r.0, (mem_below (component_count b) r.0).0 r.1, r.2),
          λ h. any_of_intro (λ j. member ((tables b).alphabet j) a) (below (component_count b)) ((mem_below (component_count b) h.0).1 h.1) h.2,
        )

-- R7, of a label: it is the internal one, or known
label_right : (l : ℕ) (known : Bool) → (not (eqb l internal || known) ≡ false) ↔ (l ≢ internal → known ≡ true)
label_right l known = Iff.trans (not_false (eqb l internal || known)) (to, from (true_or_false (eqb l internal)))
  where
    to : eqb l internal || known ≡ true → l ≢ internal → known ≡ true
    to e n = elim ((or_true (eqb l internal) known).0 e) [ inl q ↦ absurd (n ((eqb_true l internal).0 q)) | inr k ↦ k ]

    from : (eqb l internal ≡ true) ⊎ (eqb l internal ≡ false) → (l ≢ internal → known ≡ true) → eqb l internal || known ≡ true
    from (inl q) h = (or_true (eqb l internal) known).1 (inl q)
    from (inr q) h = (or_true (eqb l internal) known).1 (inr (h ((eqb_false l internal).0 q)))

-- R7 does not hold exactly when the transition fits its component
pub transition_right : (T : Tables) (t : Transition) → (transition_wrong T t ≡ false) ↔ Fits T t
unfolding transition_wrong
transition_right T t =
    Iff.trans
    (neither
    (neither
    (neither (leb_false T.components t.component) (leb_false (T.states t.component) t.source))
    (leb_false (T.states t.component) t.target))
    (label_right t.label (member (T.alphabet t.component) t.label))) (
      λ h. record { component_below = h.0.0.0; source_below = h.0.0.1; target_below = h.0.1; label_known = h.1 },
      λ r. (((r.component_below, r.source_below), r.target_below), r.label_known),
    )

-- R7: so of all transitions
pub transitions_right : (b : List ℕ)
    → (transitions_wrong b ≡ false) ↔ ((t : Transition) → Memᴰ t (tables b).transitions → Fits (tables b) t)
unfolding transitions_wrong
transitions_right b = none_of (transition_wrong (tables b)) (Fits (tables b)) (transition_right (tables b)) (tables b).transitions

-- R8 does not hold exactly when the bytes of the transitions rise
pub order_right : (b : List ℕ) → (order_wrong b ≡ false) ↔ Ascending (transition_bytes (front b) (component_count b))
unfolding order_wrong
order_right b =
    Iff.trans (not_false (rising_bytes (transition_bytes (front b) (component_count b))))
    (ascending_right (transition_bytes (front b) (component_count b)))

-- R9 does not hold exactly when the actions in all steps are within L6
pub total_right : (b : List ℕ) → (too_many_actions b ≡ false) ↔ (length (flat (steps b)) ≤ most_in_steps)
unfolding too_many_actions
total_right b = ltb_false most_in_steps (length (flat (steps b)))

-- ---- all of them

-- L1 to L7: none of R1 to R9 holds exactly when the sheet is in limits
pub limits_exact : (b : List ℕ) → ((k : ℕ) → refusal b k ≡ false) ↔ InLimits b
unfolding refusal
limits_exact b = (to, from)
  where
    to : ((k : ℕ) → refusal b k ≡ false) → InLimits b
    to h =
        let size = (length_right b).0 (h 1) in
        let counts = (counts_right b).0 (h 3) in
        let offsets = (offsets_right b size.0).0 (h 4) in
        record {
          length_low = size.0;
          length_high = size.1;
          closed = (mark_right b).0 (h 2);
          components_low = counts.0.0;
          components_high = counts.0.1;
          actions_low = counts.1.0;
          actions_high = counts.1.1;
          records_first = offsets.0;
          transitions_next = offsets.1;
          steps_next = offsets.2;
          trailer_last = offsets.3;
          records = (records_right b).0 (h 5);
          actions_used = (actions_used b).0 (h 6);
          transitions = (transitions_right b).0 (h 7);
          ascending = (order_right b).0 (h 8);
          actions_total = (total_right b).0 (h 9);
        }

    from : InLimits b → (k : ℕ) → refusal b k ≡ false
    from r zero = refl
    from r (suc zero) = (length_right b).1 (r.length_low, r.length_high)
    from r (suc (suc zero)) = (mark_right b).1 r.closed
    from r (suc (suc (suc zero))) = (counts_right b).1 ((r.components_low, r.components_high), (r.actions_low, r.actions_high))
    from r (suc (suc (suc (suc zero)))) = (offsets_right b r.length_low).1 (r.records_first, r.transitions_next, r.steps_next, r.trailer_last)
    from r (suc (suc (suc (suc (suc zero))))) = (records_right b).1 r.records
    from r (suc (suc (suc (suc (suc (suc zero)))))) = (actions_used b).1 r.actions_used
    from r (suc (suc (suc (suc (suc (suc (suc zero))))))) = (transitions_right b).1 r.transitions
    from r (suc (suc (suc (suc (suc (suc (suc (suc zero)))))))) = (order_right b).1 r.ascending
    from r (suc (suc (suc (suc (suc (suc (suc (suc (suc zero))))))))) = (total_right b).1 r.actions_total
    from r (suc (suc (suc (suc (suc (suc (suc (suc (suc (suc k)))))))))) = refl

-- the tables of a sheet in limits are in order: their records (R5), actions (R6) and transitions (R7)
pub limits_order : (b : List ℕ) → InLimits b → InOrder (tables b)
unfolding tables tables_of
limits_order b r =
    record {
      actions_fit = r.actions_high;
      some_state = λ j l. (r.records j l).states_low;
      some_initial = λ j l. (r.records j l).some_initial;
      initial_below = λ j l. (r.records j l).initial_below;
      some_action = λ j l. (r.records j l).some_action;
      action_below = λ j l. (r.records j l).action_below;
      action_used = r.actions_used;
      transition_fits = r.transitions;
    }

-- ---- what the shortest and the longest sheet are made of

-- R1, L7: one component and nothing else
pub shortest_sheet : shortest ≡ record_size + trailer_size
shortest_sheet = refl

-- R1, L7: as many components, transitions and steps as there may be
pub longest_sheet : longest ≡ record_size * most_components + transition_size * most_transitions + step_size * most_steps + trailer_size
longest_sheet = refl
