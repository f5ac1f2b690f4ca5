-- L4, L5, L7: a family of sheets up to the longest is accepted, for any numbers of components, transitions and steps within the limits.
-- Assumes nothing.
use mathlib.Core.Path.{◌≡◌, refl, sym, ap, ap₂, ◌∙◌, subst}
use mathlib.Core.Logic.{◌↔◌, ◌≢◌}
use mathlib.Core.Bool.{true}
use mathlib.Core.List.Memᴰ
use mathlib.Core.List.{List, [], ◌∷◌, ◌++◌, map, append_assoc, append-nil, Memᴰ}
use mathlib.Core.Option.{none}
use Prim.Native.Nat.{ℕ, zero, suc, ◌+◌, ◌-◌, ◌*◌, ◌/◌, ◌%◌, ◌^◌, ◌<◌, ◌≤◌}
use native.Mathlib.Decide.{dec_lt}
use native.Mathlib.Omega.{arith}
use lib.ListN.{length, take, drop, get_or, replicate, length-append, length-replicate}
use lib.Seq.{drop_at, drop-drop}
use Rattle.sets.specs.Lists.{all_of, append_all, upward, below}
use Rattle.sets.specs.Bits.{member, members, members_from}
use Rattle.sets.proofs.Bools.{not_both}
use Rattle.sets.proofs.Lists.{all_of_elim, mem_below, list_below_at, joined_length}
use Rattle.sets.proofs.Members.{member_lt}
use Rattle.systems.specs.Lts.{visible}
use Rattle.systems.specs.Tables.{Transition, Tables, lts_of, system_of, Fits, InOrder}
use Rattle.systems.specs.Closure.{InternalPath, stay, move, Closed}
use Rattle.systems.specs.StepExecution.{Determinized, StepEvent, StepEvents, done, step, StepExecution}
use Rattle.systems.specs.Running.{start}
use Rattle.systems.specs.Checking.{first_fault, flat, actions_of}
use Rattle.systems.proofs.Executions.{execution_accepted}
use Rattle.sheet.specs.Numbers.{number, field, parts}
use Rattle.sheet.specs.Layout.{mark, states_of, initial_of, alphabet_of, transition_bytes, transition_of, tables_of, tables, steps}
use Rattle.sheet.specs.Limits.{RecordInLimits, Before, here, later, AscendingFrom, Ascending, InLimits}
use Rattle.sheet.specs.Verdict.{Accepted}
use Rattle.sheet.specs.Writing.{step_bytes, trailer, sheet_of}
use Rattle.sheet.specs.LimitCases.{trailer_of, large_record, large_transition, large_step, large_sheet}
use Rattle.sheet.proofs.Numbers.{parts_of_append_all, parts_at, field_within, field_one}
use Rattle.sheet.proofs.Limits.{limits_order}
use Rattle.sheet.proofs.Verdicts.{accepted_exact}
use Rattle.sheet.proofs.RoundTrip.{ReadsBack, reads_back}

-- ---- lists made over the numbers below a number

map_upward_length : (f : ℕ → List ℕ) (i k : ℕ) → length (map f (upward i k)) ≡ k
unfolding upward
map_upward_length f i zero = refl
map_upward_length f i (suc k) = ap suc (map_upward_length f (suc i) k)

map_below_length : (f : ℕ → List ℕ) (k : ℕ) → length (map f (below k)) ≡ k
unfolding below
map_below_length f k = map_upward_length f 0 k

-- the same of what one function makes, and cut again
each_length : (f : ℕ → List ℕ) (size k : ℕ) → ((j : ℕ) → length (f j) ≡ size)
    → (l : List ℕ) → Memᴰ l (map f (below k)) → length l ≡ size
each_length f size k h l m = let r = Memᴰ.of_map f (below k) m in subst (λ (x : List ℕ). length x ≡ size) r.2 (h r.0)

made_length : (f : ℕ → List ℕ) (size k : ℕ) → ((j : ℕ) → length (f j) ≡ size) → length (append_all (map f (below k))) ≡ size * k
made_length f size k h = joined_length size (map f (below k)) (each_length f size k h) ∙ ap (λ (j : ℕ). size * j) (map_below_length f k)

made_cut : (f : ℕ → List ℕ) (size k : ℕ) (rest : List ℕ) → ((j : ℕ) → length (f j) ≡ size)
    → parts size k (append_all (map f (below k)) ++ rest) ≡ map f (below k)
made_cut f size k rest h =
    subst (λ (j : ℕ). parts size j (append_all (map f (below k)) ++ rest) ≡ map f (below k)) (map_below_length f k)
    (parts_of_append_all size (map f (below k)) rest (each_length f size k h))

-- ---- the steps

steps_bytes : (s : ℕ) → append_all (replicate s large_step) ≡ step_bytes (replicate s 1)
steps_bytes zero = refl
steps_bytes (suc s) = ap (λ (l : List ℕ). large_step ++ l) (steps_bytes s)

steps_count : (s : ℕ) → length {A = ℕ} (replicate s 1) ≡ s
steps_count s = length-replicate s 1

steps_one : (s : ℕ) {x : ℕ} → Memᴰ x (replicate s 1) → x ≡ 1
steps_one zero x3 = elim x3 [ ]
steps_one (suc s) (Memᴰ.head e) = e
steps_one (suc s) (Memᴰ.tail m) = steps_one s m

members_one : members 1 ≡ 0 ∷ []
unfolding members members_from
members_one = refl

actions_count : (s : ℕ) → length (flat (replicate s 1)) ≡ s
actions_count zero = refl
actions_count (suc s) = ap (λ (l : List ℕ). length (l ++ flat (replicate s 1))) members_one ∙ ap suc (actions_count s)

-- ---- the sheet as it is written

record_length : (j : ℕ) → length (large_record j) ≡ 16
record_length zero = refl
record_length (suc j) = refl

transition_length : (i : ℕ) → length (large_transition i) ≡ 4
transition_length i = refl

large_front : ℕ → ℕ → List ℕ
large_front n t = append_all (map large_record (below n)) ++ append_all (map large_transition (below t))

front_long : (n t : ℕ) → length (large_front n t) ≡ 16 * n + 4 * t
unfolding large_front
front_long n t =
    length-append (append_all (map large_record (below n))) (append_all (map large_transition (below t)))
    ∙ ap₂ (λ (a b : ℕ). a + b) (made_length large_record 16 n record_length) (made_length large_transition 4 t transition_length)

trailer_same : (at n : ℕ) → n ≤ 16 → at < 65536 → trailer_of (16 * n % 256) (16 * n / 256) (at % 256) (at / 256) n 64 ≡ trailer at n 64
unfolding trailer
trailer_same at n few small =
    let t' : 16 * n / 256 ≡ 16 * n / 256 % 256 = omega arith in
    let s' : at / 256 ≡ at / 256 % 256 = omega arith in
    ap₂ (λ (x y : ℕ). 0 ∷ 0 ∷ 16 * n % 256 ∷ x ∷ at % 256 ∷ y ∷ n ∷ 64 ∷ mark) t' s'

sheet_written : (n t s : ℕ) → n ≤ 16 → t ≤ 2048 → large_sheet n t s ≡ sheet_of (large_front n t) n 64 (replicate s 1)
unfolding large_sheet sheet_of large_front
sheet_written n t s few less =
    let at : ℕ = 16 * n + 4 * t in
    let last = trailer_same at n few (omega arith) ∙ ap (λ (k : ℕ). trailer k n 64) (sym (front_long n t)) in
    sym (append_assoc (append_all (map large_record (below n))) (append_all (map large_transition (below t))) _)
    ∙ ap₂ (λ (p q : List ℕ). large_front n t ++ (p ++ q)) (steps_bytes s) last

-- L4, L5, L7: how long the sheets of the family are
pub large_length : (n t s : ℕ) → length (large_sheet n t s) ≡ 16 * n + 4 * t + 8 * s + 10
unfolding large_sheet
large_length n t s =
    let trailing = trailer_of (16 * n % 256) (16 * n / 256) ((16 * n + 4 * t) % 256) ((16 * n + 4 * t) / 256) n 64 in
    let middle = append_all (map large_transition (below t)) in
    let written = append_all (replicate s large_step) in
    let a = length-append middle (written ++ trailing) in
    let c = length-append written trailing in
    length-append (append_all (map large_record (below n))) (middle ++ (written ++ trailing))
    ∙ omega (arith, made_length large_record 16 n record_length, made_length large_transition 4 t transition_length, eight s)
  where
    eight : (k : ℕ) → length (append_all (replicate k large_step)) ≡ 8 * k
    eight zero = refl
    eight (suc k) = omega (arith, eight k)

-- ---- the transitions rise

before_next : (i : ℕ) → Before (large_transition i) (large_transition (suc i))
before_next i =
    elim (dec_lt (i % 64) 63) [
      | yes l ↦
          let same : i / 64 ≡ suc i / 64 = omega arith in
          let less : i % 64 < suc i % 64 = omega arith in
          later refl (later same (here less))
      | no g ↦ let less : i / 64 < suc i / 64 = omega arith in later refl (here less)
    ]

ascend_from : (i k : ℕ) → AscendingFrom (large_transition i) (map large_transition (upward (suc i) k))
unfolding upward
ascend_from i zero = tt
ascend_from i (suc k) = (before_next i, ascend_from (suc i) k)

ascend : (t : ℕ) → Ascending (map large_transition (below t))
unfolding below upward
ascend zero = tt
ascend (suc t) = ascend_from 0 t

-- ---- sets

all_members : all_of (member 18446744073709551615) (below 64) ≡ true
unfolding below upward
all_members = refl

all_actions : (a : ℕ) → a < 64 → member 18446744073709551615 a ≡ true
all_actions a h = all_of_elim (member 18446744073709551615) (below 64) all_members a ((mem_below 64 a).1 h)

zero_only : (q : ℕ) → (q ≡ 0) ↔ (member 1 q ≡ true)
zero_only q = (λ e. rw e refl, λ m. let l = member_lt 1 1 q (omega arith) m in omega arith)

module _ (n t s : ℕ) (some : 1 ≤ n) (few : n ≤ 16) (first : 1 ≤ t) (less : t ≤ 2048) (short : s ≤ 1024) where
  abbrev b : List ℕ
  b = sheet_of (large_front n t) n 64 (replicate s 1)

  abbrev T : Tables
  T = tables_of (large_front n t) n 64

  back : ReadsBack (large_front n t) n 64 (replicate s 1)
  back =
      reads_back (large_front n t) n 64 (replicate s 1) (let e = front_long n t in omega arith) (omega arith)
      (λ x m. let e = steps_one s m in omega arith)

  -- ---- the records, read

  record_at : (j : ℕ) → j < n → take 16 (drop (16 * j) (large_front n t)) ≡ large_record j
  unfolding large_front
  record_at j h =
      sym (parts_at 16 n (large_front n t) j h)
      ∙ ap (λ (l : List (List ℕ)). get_or l j []) (made_cut large_record 16 n (append_all (map large_transition (below t))) record_length)
      ∙ list_below_at large_record n j h

  record_field : (j k size : ℕ) → j < n → k + size ≤ 16 → field (16 * j + k) size (large_front n t) ≡ field k size (large_record j)
  unfolding field
  record_field j k size h fits =
      ap (λ (l : List ℕ). number (take size l)) (sym (drop-drop k (16 * j) (large_front n t)))
      ∙ sym (field_within k size 16 (drop (16 * j) (large_front n t)) fits)
      ∙ ap (λ (l : List ℕ). number (take size (drop k l))) (record_at j h)

  states_read : (j : ℕ) → j < n → states_of (large_front n t) j ≡ field 0 1 (large_record j)
  unfolding states_of
  states_read j h =
      let e : 16 * j ≡ 16 * j + 0 = omega arith in
      ap (λ (k : ℕ). field k 1 (large_front n t)) e ∙ record_field j 0 1 h (omega arith)

  initial_read : (j : ℕ) → j < n → initial_of (large_front n t) j ≡ 1
  unfolding initial_of field
  initial_read zero h = record_field 0 4 4 h (omega arith)
  initial_read (suc j) h = record_field (suc j) 4 4 h (omega arith)

  alphabet_first : alphabet_of (large_front n t) 0 ≡ 18446744073709551615
  unfolding alphabet_of field
  alphabet_first = record_field 0 8 8 (omega arith) (omega arith)

  alphabet_other : (j : ℕ) → suc j < n → alphabet_of (large_front n t) (suc j) ≡ 2
  unfolding alphabet_of field
  alphabet_other j h = record_field (suc j) 8 8 h (omega arith)

  states_first : states_of (large_front n t) 0 ≡ 32
  unfolding field
  states_first = states_read 0 (omega arith)

  states_other : (j : ℕ) → suc j < n → states_of (large_front n t) (suc j) ≡ 1
  unfolding field
  states_other j h = states_read (suc j) h

  filler_read : (j i : ℕ) → j < n → i < 3 → get_or (large_front n t) (16 * j + 1 + i) 0 ≡ 0
  unfolding field
  filler_read j i h l =
      let e : 16 * j + 1 + i ≡ 16 * j + (1 + i) = omega arith in
      sym (field_one (16 * j + 1 + i) (large_front n t))
      ∙ ap (λ (k : ℕ). field k 1 (large_front n t)) e
      ∙ record_field j (1 + i) 1 h (omega arith)
      ∙ zero_at j i l
    where
      zero_at : (j i : ℕ) → i < 3 → field (1 + i) 1 (large_record j) ≡ 0
      zero_at zero zero l = refl
      zero_at zero (suc zero) l = refl
      zero_at zero (suc (suc zero)) l = refl
      zero_at zero (suc (suc (suc i))) l = absurd (omega arith)
      zero_at (suc j) zero l = refl
      zero_at (suc j) (suc zero) l = refl
      zero_at (suc j) (suc (suc zero)) l = refl
      zero_at (suc j) (suc (suc (suc i))) l = absurd (omega arith)

  -- a record with so many states, the initial state 0 and these actions
  record_by : (j k x : ℕ) → j < n → states_of (large_front n t) j ≡ k → alphabet_of (large_front n t) j ≡ x
      → 1 ≤ k → k ≤ 32 → x ≢ 0 → x < 2 ^ 64 → RecordInLimits (large_front n t) 64 j
  record_by j k x h e f low high some_in below_64 =
      let i = initial_read j h in
      record {
        states_low = rw e low;
        states_high = rw e high;
        filler_zero = λ c m. filler_read j c h m;
        some_initial = λ z. let one : ◌≡◌ {A = ℕ} 1 0 = sym i ∙ z in omega arith;
        initial_below = λ q m. let z = (zero_only q).1 (sym (ap (λ (y : ℕ). member y q) i) ∙ m) in omega arith;
        some_action = λ z. some_in (sym f ∙ z);
        action_below = λ a m. member_lt 64 x a below_64 (sym (ap (λ (y : ℕ). member y a) f) ∙ m);
      }

  record_fine : (j : ℕ) → j < n → RecordInLimits (large_front n t) 64 j
  record_fine zero h =
      record_by 0 32 18446744073709551615 h states_first alphabet_first (omega arith) (omega arith) (λ z. omega arith) (omega arith)
  record_fine (suc j) h =
      record_by (suc j) 1 2 h (states_other j h) (alphabet_other j h) (omega arith) (omega arith) (λ z. omega arith) (omega arith)

  -- ---- the transitions, read

  transitions_read : transition_bytes (large_front n t) n ≡ map large_transition (below t)
  unfolding transition_bytes large_front
  transitions_read =
      let k : (length (large_front n t) - 16 * n) / 4 ≡ t = omega (arith, front_long n t) in
      let front_Bytes = append_all (map large_record (below n)) in
      let rest = append_all (map large_transition (below t)) in
      ap₂ (λ (c : ℕ) (l : List ℕ). parts 4 c l) k
      (drop_at front_Bytes rest (16 * n) (made_length large_record 16 n record_length) ∙ sym (append-nil rest))
      ∙ made_cut large_transition 4 t [] transition_length

  mem_read : {x : Transition} → Memᴰ x T.transitions → (i : ℕ) × (i < t) × (transition_of (large_transition i) ≡ x)
  unfolding tables_of
  mem_read {x} m =
      let r = Memᴰ.of_map transition_of (transition_bytes (large_front n t) n) m in
      let u = Memᴰ.of_map large_transition (below t) (subst (λ (l : List (List ℕ)). Memᴰ r.0 l) transitions_read r.1) in
      (u.0, (mem_below t u.0).0 u.1, ap transition_of u.2 ∙ r.2)

  first_there : Memᴰ (transition_of (large_transition 0)) T.transitions
  unfolding tables_of
  first_there =
      Memᴰ.map transition_of
      (subst (λ (l : List (List ℕ)). Memᴰ (large_transition 0) l) (sym transitions_read)
      (Memᴰ.map large_transition ((mem_below t 0).1 (omega arith))))

  has_action : (a : ℕ) → a < 64 → member (T.alphabet 0) a ≡ true
  unfolding tables_of
  has_action a h = ap (λ (x : ℕ). member x a) alphabet_first ∙ all_actions a h

  each_fits : (i : ℕ) → i < t → Fits T (transition_of (large_transition i))
  unfolding tables_of
  each_fits i h =
      let e = states_first in
      record {
        component_below = omega arith;
        source_below = omega arith;
        target_below = omega arith;
        label_known = λ k. has_action (i % 64) (omega arith);
      }

  transition_fits : (x : Transition) → Memᴰ x T.transitions → Fits T x
  transition_fits x m = let r = mem_read m in subst (Fits T) r.2 (each_fits r.0 r.1)

  limits : InLimits b
  limits =
      let r = back in
      let k = steps_count s in
      let f = front_long n t in
      record {
        length_low = let e = r.total in omega arith;
        length_high = let e = r.total in omega arith;
        closed = r.closing_mark;
        components_low = rw r.component_count_fact some;
        components_high = rw r.component_count_fact few;
        actions_low = rw r.action_count_fact (omega arith);
        actions_high = rw r.action_count_fact (omega arith);
        records_first = r.records_at_fact;
        transitions_next = rw r.component_count_fact r.transitions_at_fact;
        steps_next = (t, less, rw r.steps_at_fact (rw r.transitions_at_fact f));
        trailer_last = (s, short, let e = r.total in let g = r.steps_at_fact in omega arith);
        records = rw r.component_count_fact (rw r.action_count_fact (rw r.front_before record_fine));
        actions_used = rw r.component_count_fact (rw r.action_count_fact (rw r.same_tables (λ a h. (0, omega arith, has_action a h))));
        transitions = rw r.same_tables transition_fits;
        ascending = rw r.front_before (rw r.component_count_fact (rw transitions_read (ascend t)));
        actions_total = rw r.same_steps (let e = actions_count s in omega arith);
      }

  -- ---- the steps are an execution: each component holds its state 0 throughout

  abbrev at_zero : Determinized
  at_zero j q = q ≡ 0

  -- no transition is internal, so nothing is added by closing
  closed_same : (j : ℕ) {X : ℕ → Type 0} {q : ℕ} → Closed (lts_of T j) X q → X q
  closed_same j {X} {q} c = go c.path c.held
    where
      go : {p q : ℕ} → InternalPath (lts_of T j) p q → X p → X q
      go stay h = h
      go (move m r) h =
          let u = mem_read m.1 in
          let e : u.0 % 64 ≡ 255 = ap (λ (x : Transition). x.label) u.2 in
          absurd (omega arith)

  -- only component 0 has the action 0
  only_first : (j a : ℕ) → j < n → a ≡ 0 → member (T.alphabet j) a ≡ true → j ≡ 0
  unfolding tables_of
  only_first zero a h e m = refl
  only_first (suc j) a h e m = absurd (not_both m (ap₂ (λ (x y : ℕ). member x y) (alphabet_other j h) e))

  -- it leads from its state 0 to its state 0
  leads : (j a q : ℕ) → j < n → actions_of 1 a → member (T.alphabet j) a ≡ true → q ≡ 0 → (lts_of T j).Transition 0 (visible a) q
  leads j a q h m k z =
      let e = (zero_only a).1 m in
      let f = only_first j a h e k in
      let same : transition_of (large_transition 0) ≡ record { component = j; source = 0; label = a; target = q } = cc in
      (λ u. omega arith, subst (λ (x : Transition). Memᴰ x T.transitions) same first_there)

  each_step : StepEvent (system_of T) at_zero (actions_of 1) at_zero
  unfolding tables_of
  each_step =
      record {
        some_action = (0, refl);
        known = λ a m. let e = (zero_only a).1 m in (0, some, has_action a (omega arith));
        one_each = λ j h a c m k u v. (zero_only a).1 m ∙ sym ((zero_only c).1 k);
        able = λ a m j h k. record { source = 0; held = refl; target = 0; transition = leads j a 0 h m k refl };
        moved = λ a m j h k q. (
          λ z. record { origin = q; held = record { source = 0; held = refl; transition = leads j a q h m k z }; path = stay },
          λ c. let r = closed_same j c in let u = mem_read r.transition.1 in sym (ap (λ (x : Transition). x.target) u.2),
        );
        kept = λ j h k q. (λ z. z, λ z. z);
      }

  all_steps : (k : ℕ) → StepEvents (system_of T) at_zero (map actions_of (replicate k 1)) at_zero
  all_steps zero = done (λ j h q. (λ z. z, λ z. z))
  all_steps (suc k) = step each_step (all_steps k)

  execution : StepExecution (system_of T) (map actions_of (replicate s 1)) at_zero
  unfolding tables_of
  execution =
      record {
        first = at_zero;
        initial = λ j h q. (
          λ z. record { origin = q; held = ap (λ (x : ℕ). member x q) (initial_read j h) ∙ (zero_only q).0 z; path = stay },
          λ c. (zero_only q).1 (sym (ap (λ (x : ℕ). member x q) (initial_read j h)) ∙ closed_same j c),
        );
        events = all_steps s;
      }

  no_fault_there : first_fault (tables b) (start (tables b)) 0 (steps b) ≡ none
  no_fault_there =
      let r = back in
      let ok : InOrder T = subst InOrder r.same_tables (limits_order b limits) in
      rw r.same_tables (rw r.same_steps (execution_accepted T ok (replicate s 1) at_zero execution))

  -- L4, L5, L7: the sheets of the family are accepted
  pub large_accepted : Accepted (large_sheet n t s)
  large_accepted = subst Accepted (sym (sheet_written n t s few less)) ((accepted_exact b).1 (limits, no_fault_there))
