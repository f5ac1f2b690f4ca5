-- The demands of the calls, proved: each record of `specs/Demands.antt`, from the laws of the definitions.
-- Assumes nothing.
use mathlib.Core.Path.{◌≡◌, refl, sym, ap, ◌∙◌, subst}
use mathlib.Core.Logic.Iff
use mathlib.Core.Logic.{◌↔◌, inl, inr}
use mathlib.Core.Bool.{Bool, true, false, cond}
use mathlib.Core.List.{List, ◌++◌}
use mathlib.Core.Option.{none, some}
use Prim.Native.Nat.{ℕ, ◌<◌, ◌≤◌}
use native.Mathlib.Omega.{arith}
use lib.Dec.{ltb}
use lib.ListN.{length, take, drop, get_or, replicate}
use Rattle.sets.specs.Bits.{member}
use Rattle.sets.proofs.Bools.{ltb_true}
use Rattle.sets.proofs.Filling.{map_below, map_below_at}
use Rattle.traces.specs.Offences.{offending}
use Rattle.systems.specs.Interleaving.{Global, Reaches}
use Rattle.systems.specs.StepExecution.{Linearization, Picked}
use Rattle.sheet.specs.Bounds.{most_components}
use Rattle.sheet.specs.Layout.{component_count, action_count, transitions_at, steps_at, tables_of, tables, step_count}
use Rattle.sheet.specs.Verdict.{Verdict, accepted, refused, verdict, Accepted}
use Rattle.answers.specs.declared.Sizes.{Sizes}
use Rattle.answers.specs.declared.Answer.{Answer}
use Rattle.answers.specs.Outcomes.{given, values, one_value, bit, outcome_of, after, read_outcome}
use Rattle.answers.specs.LentOutput.{length_or13}
use Rattle.answers.specs.Ends.{end_set}
use Rattle.answers.specs.Restated.{restated}
use Rattle.answers.specs.Related.{RelatedSheets}
use Rattle.answers.specs.Restating.{restating}
use Rattle.answers.specs.ProcessCheck.{process_check}
use Rattle.answers.specs.Figure.{figure, figure_outcome}
use Rattle.answers.specs.Stuck.{stuck, stuck_outcome}
use Rattle.answers.specs.FirstRefusal.{SheetRefusal, RestateRefusal, SizesOr}
use Rattle.answers.specs.SheetExecution.{system_in, action_sets, ProcessIn}
use Rattle.answers.proofs.Passing.{told_accepted}
use Rattle.answers.proofs.Told.{is_given, refused_only, number_only, number_exactly, offence_exactly}
use Rattle.answers.proofs.LentOutput.{given_long, given_length, given_output, given_written}
use Rattle.answers.proofs.FirstRefusal.{restate_refuses, process_refuses, figure_refuses, stuck_refuses, sizes_or, number_or}
use Rattle.answers.proofs.Laws.{refusal_laws, output_laws, execution_laws, restated_laws, answer_laws}
use Rattle.answers.specs.declared.EndSets.{EndSets}
use Rattle.desk.specs.Calls.{CheckAnswer, EndSetsAnswer, end_array_by, RestateAnswer}
use Rattle.desk.specs.Demands.{SaysAccepted, RestateWrote, Demand1, Demand2, Demand3, AnswerDemand}

-- ---- the verdict behind an answer

sizes : (b : List ℕ) (z : Sizes) → CheckAnswer b (Answer.Accepted z)
    → (verdict b ≡ accepted) × (z.n ≡ component_count b) × (z.m ≡ action_count b) × (z.t ≡ transitions_at b) × (z.s ≡ steps_at b)
sizes b z e = told_accepted z (verdict b) (component_count b) (action_count b) (transitions_at b) (steps_at b) e

says_verdict : (b : List ℕ) (r : Answer) → CheckAnswer b r → SaysAccepted r → Accepted b
says_verdict b r c a = (sizes b a.sizes (ap outcome_of (sym a.told) ∙ c)).0

says_accepted : (b : List ℕ) (r : Answer) → CheckAnswer b r → Accepted b → SaysAccepted r
says_accepted b r c acc = go r (c ∙ ap (read_outcome b) acc)
  where
    go : (x : Answer) → outcome_of x ≡ read_outcome b accepted → SaysAccepted x
    go (Answer.Accepted z) e = record { sizes = z; told = refl }
    go (Answer.Given k) e = let z : ◌≡◌ {A = ℕ} 0 1 = cc in absurd (omega arith)
    go (Answer.Refused k i s) e = let z : ◌≡◌ {A = ℕ} 0 1 = cc in absurd (omega arith)

restate_given : (b out left : List ℕ) (r : Answer) → RestateAnswer b out r left → Accepted b → length (restated b) ≤ length out
    → r ≡ Answer.Given (length (restated b))
restate_given b out left r c acc long = is_given r (length (restated b)) (c.answer_told ∙ ap (values one_value) (given_long b (length out) acc long))

check_or : (b : List ℕ) (r : Answer) → CheckAnswer b r → SizesOr (SheetRefusal b) r
check_or b r c = sizes_or b (component_count b) (action_count b) (transitions_at b) (steps_at b) r c

writes : (b out left : List ℕ) (k : ℕ) → RestateAnswer b out (Answer.Given k) left → (k ≡ length (restated b)) × (left ≡ restated b ++ drop k out)
writes b out left k c =
    let told = number_only (restating b (length out)) k c.answer_told in
    let size : length (restated b) ≡ k = given_length b (length out) k told in
    (sym size, c.output_left ∙ given_output b out k told ∙ ap (λ (j : ℕ). restated b ++ drop j out) size)

-- D1: a result, or the one refusal that is due; a refused call leaves the output as it came
pub call_demand1 : Demand1
call_demand1 =
    record {
      check_answers = check_or;
      end_sets_answers = λ b r c. check_or b r.answer c.answer_told;
      process_answers = λ b. number_or offending (SheetRefusal b) (process_check b) (process_refuses b);
      figure_answers = λ b. number_or (λ x. x) (SheetRefusal b) (figure_outcome b) (figure_refuses b);
      stuck_answers = λ b. number_or bit (SheetRefusal b) (stuck_outcome b) (stuck_refuses b);
      restate_answers = λ b out left r c.
          number_or (λ x. x) (RestateRefusal b (length out)) (restating b (length out)) (restate_refuses b (length out)) r c.answer_told;
      sizes_told_fact = λ b z c. let t = sizes b z c in (t.1, t.2, t.3, t.4);
      restate_serves = restate_given;
      restate_writes = writes;
      refused_untouched = λ b out left r k i s c e.
          c.output_left ∙ output_laws.refused_untouched b out k i s (refused_only one_value (restating b (length out)) k i s (sym e ∙ c.answer_told));
    }

-- ---- demand 2 (D2)

sets_at : (b : List ℕ) (r : EndSets) → EndSetsAnswer b r → Accepted b → (j : ℕ) → j < most_components
    → get_or r.sets j 0 ≡ cond (ltb j (component_count b)) (end_set b j) 0
sets_at b r c acc j h =
    ap (λ (x : List ℕ). get_or x j 0) (c.sets_told ∙ ap (λ (v : Verdict). end_array_by v b) acc)
    ∙ map_below_at (λ i. cond (ltb i (component_count b)) (end_set b i) 0) most_components j h

sets_told : (b : List ℕ) (r : EndSets) → EndSetsAnswer b r → Accepted b → (j : ℕ) → j < component_count b → j < most_components
    → get_or r.sets j 0 ≡ end_set b j
sets_told b r c acc j l h = sets_at b r c acc j h ∙ rw ((ltb_true j (component_count b)).1 l)

picked : (b : List ℕ) (r : EndSets) → EndSetsAnswer b r → Accepted b → (w : List ℕ) → Linearization (action_sets b) w
    → (t : Global) → Picked (system_in b) (λ j q. member (get_or r.sets j 0) q ≡ true) t ↔ Reaches (system_in b) w t
unfolding tables tables_of
picked b r c acc w z t =
    let few = ((execution_laws.accepted_exactly b).0 acc).0.components_high in
    let same : (j : ℕ) → j < component_count b → get_or r.sets j 0 ≡ end_set b j = λ j l. sets_told b r c acc j l (omega arith) in
    let exact = execution_laws.picked_exactly b acc w z t in (
      λ p. exact.0 (λ j l. subst (λ (x : ℕ). member x (t j) ≡ true) (same j l) (p j l)),
      λ q j l. subst (λ (x : ℕ). member x (t j) ≡ true) (sym (same j l)) (exact.1 q j l),
    )

-- D2: accepted exactly when the steps are a step execution in limits; the end sets pick exactly the states reached
pub call_demand2 : Demand2
call_demand2 =
    record {
      check_accepts = λ b r c. (says_verdict b r c, says_accepted b r c);
      accepted_exactly = execution_laws.accepted_exactly;
      picked_exactly = picked;
    }

-- ---- demand 3 (D3)

given_accepted : (b : List ℕ) (size k : ℕ) → restating b size ≡ given k → Accepted b
unfolding restating
given_accepted b size k e = go (verdict b) refl e
  where
    go : (v : Verdict) → verdict b ≡ v → after v (length_or13 (restated b) size) ≡ given k → v ≡ accepted
    go accepted q h = refl
    go (refused l j) q h = let z : ◌≡◌ {A = ℕ} 0 1 = cc in absurd (omega arith)

wrote_given : {b w : List ℕ} (o : RestateWrote b w) → restating b (length o.lent) ≡ given o.count
wrote_given {b} {w} o = number_only (restating b (length o.lent)) o.count o.call.answer_told

-- a sheet for which restate wrote bytes is accepted (D3)
pub wrote_accepted : {b w : List ℕ} → RestateWrote b w → Accepted b
wrote_accepted {b} {w} o = given_accepted b (length o.lent) o.count (wrote_given o)

-- what it wrote is the restated sheet (D3)
pub wrote_restated : {b w : List ℕ} → RestateWrote b w → w ≡ restated b
wrote_restated {b} {w} o = o.bytes ∙ ap (take o.count) o.call.output_left ∙ given_written b o.lent o.count (wrote_given o)

same_sets : (b : List ℕ) → Accepted b → (r s : EndSets) → EndSetsAnswer b r → EndSetsAnswer (restated b) s → s.sets ≡ r.sets
same_sets b acc r s c d =
    d.sets_told ∙ ap (λ (v : Verdict). end_array_by v (restated b)) (restated_laws.restated_related b acc).second_accepted
    ∙ map_below (λ j. cond (ltb j (component_count (restated b))) (end_set (restated b) j) 0) (λ j. cond (ltb j (component_count b)) (end_set b j) 0)
    most_components (λ j l. each j)
    ∙ sym (c.sets_told ∙ ap (λ (v : Verdict). end_array_by v b) acc)
  where
    each : (j : ℕ) → cond (ltb j (component_count (restated b))) (end_set (restated b) j) 0 ≡ cond (ltb j (component_count b)) (end_set b j) 0
    each j =
        ap (λ (n : ℕ). cond (ltb j n) (end_set (restated b) j) 0) (sym (restated_laws.restated_related b acc).same_tables.same_components)
        ∙ go (ltb j (component_count b)) refl
      where
        go : (h : Bool) → ltb j (component_count b) ≡ h → cond h (end_set (restated b) j) 0 ≡ cond h (end_set b j) 0
        go true q = restated_laws.restated_ends b acc j ((ltb_true j (component_count b)).0 q)
        go false q = refl

again : (b w out left : List ℕ) (r : Answer) → RestateWrote b w → RestateAnswer w out r left → length w ≤ length out
    → (r ≡ Answer.Given (length w)) × (take (length w) left ≡ w)
again b w out left r o c long =
    let same : restated w ≡ w = ap restated (wrote_restated o) ∙ restated_laws.restated_again b (wrote_accepted o) ∙ sym (wrote_restated o) in
    let acc : Accepted w = subst Accepted (sym (wrote_restated o)) (restated_laws.restated_related b (wrote_accepted o)).second_accepted in
    let size : length (restated w) ≡ length w = ap length same in
    let told = given_long w (length out) acc (omega arith) in (
      restate_given w out left r c acc (omega arith) ∙ ap Answer.Given size,
      ap (take (length w)) c.output_left ∙ given_written w out (length w) (told ∙ ap given size) ∙ same,
    )

-- D3, whole (C5): of the bytes that calls of restate wrote
pub call_demand3 : Demand3
call_demand3 =
    record {
      written_accepted = λ b w o. wrote_accepted o;
      same_bytes = λ b c w v o p.
          let exact = restated_laws.same_bytes b c (wrote_accepted o) (wrote_accepted p) in (
            λ e. exact.0 (sym (wrote_restated o) ∙ e ∙ wrote_restated p),
            λ r. wrote_restated o ∙ exact.1 r ∙ sym (wrote_restated p),
          );
      written_related = λ b w o. subst (RelatedSheets b) (sym (wrote_restated o)) (restated_laws.restated_related b (wrote_accepted o));
      written_process = λ b w o. subst ProcessIn (sym (wrote_restated o)) (restated_laws.restated_process b (wrote_accepted o));
      written_ends = λ b w o r s c d. same_sets b (wrote_accepted o) r s c (subst (λ (x : List ℕ). EndSetsAnswer x s) (wrote_restated o) d);
      fewest_steps = λ b c w r o. subst (λ (x : List ℕ). step_count x ≤ step_count c) (sym (wrote_restated o)) (restated_laws.fewest_steps b c r);
      written_count = λ b w o. ap step_count (wrote_restated o) ∙ restated_laws.restated_count b (wrote_accepted o);
      written_no_longer =
          λ b w o. subst (λ (x : List ℕ). length x ≤ length b) (sym (wrote_restated o)) (restated_laws.restated_no_longer b (wrote_accepted o));
      written_again = again;
    }

-- ---- the other calls

stuck_given : (b : List ℕ) → Accepted b → stuck_outcome b ≡ given (stuck b)
unfolding stuck_outcome
stuck_given b acc = rw acc

no_sets : (b : List ℕ) (r : EndSets) (k i s : ℕ) → EndSetsAnswer b r → SheetRefusal b k i s → r.sets ≡ replicate most_components 0
no_sets b r k i s c p =
    elim p [
      | inl h ↦ c.sets_told ∙ ap (λ (v : Verdict). end_array_by v b) (sym (refusal_laws.only_refusal b (refused k i) h.0))
      | inr h ↦ absurd h.1
    ]

-- N7, E5, A4, A5: what the other calls answer
pub answer_demand : AnswerDemand
answer_demand =
    record {
      process_exactly = λ b r c. Iff.trans (offence_exactly r (process_check b) c none) (answer_laws.process_exactly b);
      offends_first = λ b r i c. Iff.trans (offence_exactly r (process_check b) c (some i)) (answer_laws.offends_first b i);
      ends_told = sets_at;
      ends_refused = no_sets;
      figure_told = λ b r f c. Iff.trans (number_exactly r (figure_outcome b) c f) (answer_laws.figure_given b f);
      figure_one = λ b. (figure b, (answer_laws.figure_exactly b (figure b)).0 refl, λ g h. (answer_laws.figure_exactly b g).1 h);
      stuck_told = λ b r c acc. is_given r (bit (stuck b)) (c ∙ ap (values (λ t. one_value (bit t))) (stuck_given b acc));
    }
