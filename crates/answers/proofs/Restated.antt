-- S2, N9: the sheet with other steps in place of its own, read back: the same tables, these steps, and accepted where these are few enough
-- and without fault. N8: so of the restated sheet of an accepted sheet, with the steps of the normal form.
-- Assumes nothing.
use mathlib.Core.Path.{◌≡◌, refl, sym, ap, ◌∙◌}
use mathlib.Core.List.{List, Memᴰ}
use mathlib.Core.Option.{none}
use Prim.Native.Nat.{ℕ, ◌+◌, ◌*◌, ◌^◌, ◌<◌, ◌≤◌}
use native.Mathlib.Omega.{arith}
use lib.ListN.{length}
use Rattle.systems.specs.Tables.{InOrder}
use Rattle.systems.specs.Running.{start}
use Rattle.systems.specs.Checking.{first_fault, flat}
use Rattle.sheet.specs.Bounds.{most_steps, most_in_steps}
use Rattle.sheet.specs.Numbers.{AreBytes}
use Rattle.sheet.specs.Layout.{steps_at, component_count, action_count, front, tables, step_count, steps}
use Rattle.sheet.specs.Limits.{InLimits}
use Rattle.sheet.specs.Verdict.{Accepted}
use Rattle.sheet.proofs.Numbers.{bytes_take}
use Rattle.sheet.proofs.Limits.{limits_order}
use Rattle.sheet.proofs.Verdicts.{accepted_exact}
use Rattle.sheet.proofs.RoundTrip.{ReadsBack, reads_back, written_bytes, steps_length, front_length, sections_length}
use Rattle.answers.specs.Restated.{with_steps, restated_steps, restated}
use Rattle.answers.specs.Related.{SameTables}
use Rattle.answers.proofs.Normal.{normal, normal_lt, normal_fine, normal_actions, normal_no_longer}

-- N8: the restated steps are those of the normal form
pub restated_normal : (b : List ℕ) → restated_steps b ≡ normal (tables b) (steps b)
unfolding restated_steps
restated_normal b = refl

-- N1: an accepted sheet is within the limits (L1 to L7)
pub accepted_limits : (b : List ℕ) → Accepted b → InLimits b
accepted_limits b acc = ((accepted_exact b).0 acc).0

-- N1: its tables are in order (R3, R5 to R7)
pub accepted_order : (b : List ℕ) → Accepted b → InOrder (tables b)
accepted_order b acc = limits_order b (accepted_limits b acc)

-- N1: its steps have no fault (R10 to R12)
pub accepted_fine : (b : List ℕ) → Accepted b → first_fault (tables b) (start (tables b)) 0 (steps b) ≡ none
accepted_fine b acc = ((accepted_exact b).0 acc).1

-- L7: where the steps begin fits into two bytes (S6)
pub front_short : (b : List ℕ) → InLimits b → length (front b) < 65536
front_short b l =
    let a = front_length b l in
    let e = sections_length b l in
    let h = l.length_high in
    omega arith

-- L1: the number of components fits into one byte (S6)
pub count_small : (b : List ℕ) → InLimits b → component_count b < 256
count_small b l = let h = l.components_high in omega arith

-- ---- the sheet b with the steps xs in place of its own (S2, N9)

module _ (b : List ℕ) (l : InLimits b) (xs : List ℕ) (small : (x : ℕ) → Memᴰ x xs → x < 2 ^ 64) where
  -- S2 to S7, N9: it reads back as what was written
  pub with_steps_reads : ReadsBack (front b) (component_count b) (action_count b) xs
  with_steps_reads = reads_back (front b) (component_count b) (action_count b) xs (front_short b l) (count_small b l) small

  -- N4: it keeps the tables, and their bytes
  pub with_steps_tables : tables (with_steps b xs) ≡ tables b
  unfolding tables
  with_steps_tables = with_steps_reads.same_tables

  pub with_steps_same : SameTables b (with_steps b xs)
  with_steps_same =
      let r = with_steps_reads in
      record {
        same_front = sym r.front_before;
        same_steps_at = sym (r.steps_at_fact ∙ front_length b l);
        same_components = sym r.component_count_fact;
        same_actions = sym r.action_count_fact;
      }

  -- L1 to L7: it is in limits where these steps and their actions are few enough (L5, L6)
  pub with_steps_limits : length xs ≤ most_steps → length (flat xs) ≤ most_in_steps → InLimits (with_steps b xs)
  with_steps_limits few together =
      let r = with_steps_reads in
      let begin : steps_at (with_steps b xs) ≡ steps_at b = r.steps_at_fact ∙ front_length b l in
      let total : length (with_steps b xs) ≡ steps_at b + 8 * length xs + 10 = r.total ∙ rw (front_length b l) in
      let low = l.components_low in
      let high = l.components_high in
      let next = l.transitions_next in
      let gap = l.steps_next in
      let most = gap.1 in
      let end = gap.2 in
      record {
        length_low = omega arith;
        length_high = omega arith;
        closed = r.closing_mark;
        components_low = rw r.component_count_fact low;
        components_high = rw r.component_count_fact high;
        actions_low = rw r.action_count_fact l.actions_low;
        actions_high = rw r.action_count_fact l.actions_high;
        records_first = r.records_at_fact;
        transitions_next = r.transitions_at_fact ∙ rw r.component_count_fact;
        steps_next = (gap.0, most, begin ∙ end ∙ rw (r.transitions_at_fact, next));
        trailer_last = (length xs, few, total ∙ rw begin);
        records = λ j h. rw (r.front_before, r.action_count_fact) (l.records j (rw r.component_count_fact at h));
        actions_used = λ a h. rw (with_steps_tables, r.component_count_fact) (l.actions_used a (rw r.action_count_fact at h));
        transitions = λ t m. rw with_steps_tables (l.transitions t (rw with_steps_tables at m));
        ascending = rw (r.front_before, r.component_count_fact) l.ascending;
        actions_total = rw r.same_steps together;
      }

  -- N1: and accepted where moreover these steps have no fault
  pub with_steps_accepted : length xs ≤ most_steps → length (flat xs) ≤ most_in_steps → first_fault (tables b) (start (tables b)) 0 xs ≡ none
      → Accepted (with_steps b xs)
  with_steps_accepted few together fine =
      (accepted_exact (with_steps b xs)).1 (with_steps_limits few together, rw (with_steps_tables, with_steps_reads.same_steps) fine)

-- ---- the restated sheet (N8)

module _ (b : List ℕ) (acc : Accepted b) where
  limits : InLimits b
  limits = accepted_limits b acc

  -- each of its steps is a number of eight bytes (S5)
  restated_small : (x : ℕ) → Memᴰ x (restated_steps b) → x < 2 ^ 64
  restated_small = rw (restated_normal b) (normal_lt (tables b) (accepted_order b acc) (steps b) (accepted_fine b acc))

  pub restated_reads : ReadsBack (front b) (component_count b) (action_count b) (restated_steps b)
  restated_reads = with_steps_reads b limits (restated_steps b) restated_small

  pub restated_front : front (restated b) ≡ front b
  unfolding restated
  restated_front = restated_reads.front_before

  pub restated_components : component_count (restated b) ≡ component_count b
  unfolding restated
  restated_components = restated_reads.component_count_fact

  pub restated_actions : action_count (restated b) ≡ action_count b
  unfolding restated
  restated_actions = restated_reads.action_count_fact

  pub restated_steps_at : steps_at (restated b) ≡ steps_at b
  unfolding restated
  restated_steps_at = restated_reads.steps_at_fact ∙ front_length b limits

  pub restated_same_tables : tables (restated b) ≡ tables b
  unfolding restated
  restated_same_tables = with_steps_tables b limits (restated_steps b) restated_small

  pub restated_read_steps : steps (restated b) ≡ normal (tables b) (steps b)
  unfolding restated
  restated_read_steps = restated_reads.same_steps ∙ restated_normal b

  pub restated_step_count : step_count (restated b) ≡ length (normal (tables b) (steps b))
  unfolding restated
  restated_step_count = restated_reads.step_count_fact ∙ ap length (restated_normal b)

  restated_length : length (restated b) ≡ steps_at b + 8 * length (normal (tables b) (steps b)) + 10
  unfolding restated
  restated_length = restated_reads.total ∙ rw (restated_normal b, front_length b limits)

  -- no more steps than the sheet itself, so no longer than it
  no_longer : length (normal (tables b) (steps b)) ≤ step_count b
  no_longer =
      let n = normal_no_longer (tables b) (accepted_order b acc) (steps b) (accepted_fine b acc) in
      let e = steps_length b in
      omega arith

  pub restated_shorter : length (restated b) ≤ length b
  restated_shorter =
      let total = restated_length in
      let whole = sections_length b limits in
      let few = no_longer in
      omega arith

  few : length (restated_steps b) ≤ most_steps
  few =
      let n = no_longer in
      let e = ap length (restated_normal b) in
      let whole = sections_length b limits in
      let last = limits.trailer_last in
      let most = last.1 in
      let end = last.2 in
      omega arith

  together : length (flat (restated_steps b)) ≤ most_in_steps
  together =
      rw (restated_normal b, normal_actions (tables b) (accepted_order b acc) (steps b) (accepted_fine b acc)) limits.actions_total

  pub restated_is_accepted : Accepted (restated b)
  unfolding restated
  restated_is_accepted =
      with_steps_accepted b limits (restated_steps b) restated_small few together
      (rw (restated_normal b) (normal_fine (tables b) (accepted_order b acc) (steps b) (accepted_fine b acc)))

pub restated_are_bytes : (b : List ℕ) → AreBytes b → Accepted b → AreBytes (restated b)
unfolding restated front
restated_are_bytes b bs acc =
    let l = accepted_limits b acc in
    let h = l.actions_high in
    written_bytes (front b) (component_count b) (action_count b) (restated_steps b) (bytes_take (steps_at b) b bs) (count_small b l) (omega arith)
