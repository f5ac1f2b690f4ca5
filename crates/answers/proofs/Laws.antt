-- The laws of the definitions, proved: each record of `specs/Laws.antt`, from the theorems of the crates below.
-- Assumes nothing.
use mathlib.Core.Path.{◌≡◌, refl, sym, ap, ◌∙◌}
use mathlib.Core.Logic.{◌↔◌}
use mathlib.Core.List.{List, map}
use mathlib.Core.Option.{none, some}
use Prim.Native.Nat.{ℕ, ◌<◌}
use native.Mathlib.Omega.{arith}
use lib.ListN.{length}
use Rattle.sets.specs.Bits.{members}
use Rattle.sets.proofs.Lists.{chosen}
use Rattle.traces.specs.Steps.{Process}
use Rattle.systems.specs.Lts.{IsLts}
use Rattle.systems.specs.Interleaving.{Global, Reaches}
use Rattle.systems.specs.StepExecution.{Determinized, Linearization, Picked}
use Rattle.systems.specs.ProcessExecution.{ProcessCondition}
use Rattle.systems.specs.Tables.{lts_of}
use Rattle.systems.specs.Independence.{dependent}
use Rattle.systems.specs.Running.{start}
use Rattle.systems.specs.Checking.{flat}
use Rattle.systems.proofs.Components.{component_lts, end_some}
use Rattle.systems.proofs.Faults.{WellFormedSteps, fault_none}
use Rattle.systems.proofs.Executions.{accepted_execution, execution_accepted, execution_ends, flat_linearization, picked_exact}
use Rattle.systems.proofs.Processes.{process_exact}
use Rattle.sheet.specs.Layout.{component_count, tables_of, tables, steps}
use Rattle.sheet.specs.Limits.{InLimits}
use Rattle.sheet.specs.Verdict.{Verdict, verdict, Accepted}
use Rattle.sheet.proofs.Limits.{limits_order}
use Rattle.sheet.proofs.Verdicts.{verdict_first, verdict_only, accepted_exact}
use Rattle.answers.specs.Outcomes.{given, after}
use Rattle.answers.specs.Ends.{end_set, end_sets}
use Rattle.answers.specs.Restated.{restated_steps, restated}
use Rattle.traces.specs.Offences.{first_offence}
use Rattle.answers.specs.ProcessCheck.{process_check}
use Rattle.answers.specs.Figure.{IsFigure, figure, figure_outcome}
use Rattle.answers.specs.SheetExecution.{system_in, action_sets, ExecutionTo, ProcessIn}
use Rattle.answers.specs.Laws.{RefusalLaws, OutputLaws, ExecutionLaws, RestatedLaws, AnswerLaws}
use Rattle.answers.proofs.Normal.{normal_ends, normal_process}
use Rattle.answers.proofs.Restated.{restated_normal, accepted_limits, accepted_order, accepted_fine, restated_same_tables}
use Rattle.answers.proofs.Restated.{restated_read_steps, restated_step_count, restated_is_accepted, restated_shorter, restated_are_bytes}
use Rattle.answers.proofs.LentOutput.{given_long, refused_kept, given_written, given_behind}
use Rattle.answers.proofs.FirstRefusal.{restate_refuses, report_refuses, sheet_one, restate_one, report_one, two_one}
use Rattle.answers.proofs.Relations.{related_same, same_related, restated_relation, fewest, restated_twice, process_own}
use Rattle.traces.proofs.Offences.{offence_none, offence_first}
use Rattle.answers.proofs.RefusalsDue.{sheet_refuses}
use Rattle.answers.proofs.TwoSheets.{two_refuses, work_same, work_other}
use Rattle.answers.proofs.Leaner.{winner_first, winner_second, leaner_first, leaner_second, leaner_refused, section_whole}
use Rattle.answers.proofs.Figure.{figure_exact, figure_none, nearest_of_all, twelve_and_a_half, seventeen_and_a_half}
use Rattle.answers.proofs.Stuck.{stuck_exact}
use Rattle.answers.proofs.Reports.{report_refused, report_accepted}

-- D1, O1 to O7, R13, R14: which refusal is due
pub refusal_laws : RefusalLaws
refusal_laws =
    record {
      first_refusal = verdict_first;
      only_refusal = verdict_only;
      sheet_refused = sheet_refuses;
      restate_refused = restate_refuses;
      report_refused = report_refuses;
      two_refused = two_refuses;
      one_of_sheet = sheet_one;
      one_of_restate = restate_one;
      one_of_report = report_one;
      one_of_two = two_one;
    }

-- D1, R13, O5, N9: restating into lent bytes
pub output_laws : OutputLaws
output_laws = record { long_enough = given_long; refused_untouched = refused_kept; written = given_written; behind_kept = given_behind }

-- ---- accepted sheets and end sets

accepted_formed : (b : List ℕ) → Accepted b → WellFormedSteps (tables b) (steps b)
accepted_formed b acc = ((fault_none (tables b) (start (tables b)) 0 (steps b)).0 (accepted_fine b acc)).0

ends : (b : List ℕ) → Accepted b → ExecutionTo b (end_sets b)
unfolding end_set
ends b acc = accepted_execution (tables b) (accepted_order b acc) (steps b) (accepted_fine b acc)

execution_passes : (b : List ℕ)
    → InLimits b × ((F : Determinized) × ExecutionTo b F) → Accepted b
execution_passes b h =
    (accepted_exact b).1 (h.0, execution_accepted (tables b) (limits_order b h.0) (steps b) h.1.0 h.1.1)

ends_unique : (b : List ℕ) → Accepted b → (F : Determinized) → ExecutionTo b F
    → (j : ℕ) → j < component_count b → (q : ℕ) → F j q ↔ end_sets b j q
unfolding end_set tables tables_of
ends_unique b acc F x j l q = execution_ends (tables b) (accepted_order b acc) (steps b) F x j l q

picked : (b : List ℕ) → Accepted b → (w : List ℕ) → Linearization (action_sets b) w
    → (t : Global) → Picked (system_in b) (end_sets b) t ↔ Reaches (system_in b) w t
unfolding end_set
picked b acc w z t = picked_exact (tables b) (accepted_order b acc) (steps b) (accepted_fine b acc) w z t

one_picked : (b : List ℕ) → Accepted b → (t : Global) × Picked (system_in b) (end_sets b) t
unfolding end_set
one_picked b acc =
    chosen 0 (end_sets b) (tables b).components
    (end_some (tables b) (accepted_order b acc) (flat (steps b)) ((fault_none (tables b) (start (tables b)) 0 (steps b)).0 (accepted_fine b acc)).1)

component : (b : List ℕ) → Accepted b → (j : ℕ) → j < component_count b → IsLts (lts_of (tables b) j)
unfolding tables tables_of
component b acc j l = component_lts (tables b) (accepted_order b acc) j l

-- D2: accepted exactly when the steps are a step execution in limits; the end sets pick exactly the states reached
pub execution_laws : ExecutionLaws
execution_laws =
    record {
      accepted_exactly = λ b. (λ acc. (accepted_limits b acc, (end_sets b, ends b acc)), execution_passes b);
      ends_published = ends;
      ends_only = ends_unique;
      picked_exactly = picked;
      some_order = λ b acc. flat_linearization (tables b) (accepted_order b acc) (steps b) (accepted_formed b acc);
      some_picked = one_picked;
      components_lts = component;
    }

-- ---- the restated sheet

process_iff : (b : List ℕ) → Accepted b
    → ProcessCondition (system_in b) (action_sets b) ↔ Process (dependent (tables b)) (map members (steps b))
process_iff b acc = process_exact (tables b) (accepted_order b acc) (steps b) (accepted_formed b acc)

restated_execution : (b : List ℕ) → Accepted b
    → ProcessIn (restated b)
restated_execution b acc =
    record { execution = ends (restated b) (restated_is_accepted b acc); condition = (process_iff (restated b) (restated_is_accepted b acc)).1 shape }
  where
    shape : Process (dependent (tables (restated b))) (map members (steps (restated b)))
    shape =
        rw (restated_same_tables b acc, restated_read_steps b acc)
        (normal_process (tables b) (accepted_order b acc) (steps b) (accepted_fine b acc))

ends_kept : (b : List ℕ) → Accepted b → (j : ℕ) → j < component_count b → end_set (restated b) j ≡ end_set b j
unfolding end_set tables tables_of
ends_kept b acc j l =
    rw (restated_same_tables b acc, restated_read_steps b acc)
    (sym (normal_ends (tables b) (accepted_order b acc) (steps b) (accepted_fine b acc) j l))

-- D3, N8: the restated sheet of an accepted sheet
pub restated_laws : RestatedLaws
restated_laws =
    record {
      same_bytes = λ b c acc acc'. (same_related b c acc acc', related_same);
      restated_bytes = restated_are_bytes;
      restated_related = restated_relation;
      restated_process = restated_execution;
      restated_ends = ends_kept;
      restated_count = λ b acc. restated_step_count b acc ∙ sym (ap length (restated_normal b));
      restated_no_longer = restated_shorter;
      fewest_steps = λ b c r. fewest r;
      restated_again = restated_twice;
      restated_only = λ b c cs r p.
          sym (process_own c cs r.second_accepted ((process_iff c r.second_accepted).0 p)) ∙ sym (related_same r);
    }

-- ---- the other answers

answered : {A : Type 0} (v : Verdict) (x y : A) → (after v (given x) ≡ given y) ↔ ((v ≡ Verdict.accepted) × (x ≡ y))
answered (Verdict.refused k i) x y = (
  λ e. let z : ◌≡◌ {A = ℕ} 0 1 = cc in absurd (omega arith),
  λ h. let z : ◌≡◌ {A = ℕ} 0 1 = cc h.0 in absurd (omega arith),
)
answered Verdict.accepted x y = (λ e. (refl, cc), λ h. ap given h.1)

process_yes : (b : List ℕ)
    → (process_check b ≡ given none) ↔ (Accepted b × ProcessIn b)
unfolding process_check
process_yes b =
    let offence = first_offence (dependent (tables b)) (map members (steps b)) in
    let none_left = offence_none (dependent (tables b)) (map members (steps b)) in (
      λ e. let h = (answered (verdict b) offence none).0 e in
          (h.0, record { execution = ends b h.0; condition = (process_iff b h.0).1 (none_left.0 h.1) }),
      λ h. (answered (verdict b) offence none).1 (h.0, none_left.1 ((process_iff b h.0).0 h.1.condition)),
    )

figure_told : (b : List ℕ) (f : ℕ) → (figure_outcome b ≡ given f) ↔ (Accepted b × IsFigure b f)
unfolding figure_outcome
figure_told b f = (
  λ e. let h = (answered (verdict b) (figure b) f).0 e in (h.0, (figure_exact b f).0 (sym h.1)),
  λ h. (answered (verdict b) (figure b) f).1 (h.0, sym ((figure_exact b f).1 h.1)),
)

-- N7, A1 to A5, P2 to P5: the other answers
pub answer_laws : AnswerLaws
unfolding process_check
answer_laws =
    record {
      process_exactly = process_yes;
      offends_first = λ b i.
          let offence = first_offence (dependent (tables b)) (map members (steps b)) in
          let first = offence_first (dependent (tables b)) (map members (steps b)) i in (
            λ e. let h = (answered (verdict b) offence (some i)).0 e in (h.0, first.0 h.1),
            λ h. (answered (verdict b) offence (some i)).1 (h.0, first.1 h.1),
          );
      same_exactly = work_same;
      other_exactly = work_other;
      first_wins = winner_first;
      second_wins = winner_second;
      first_section = leaner_first;
      second_section = leaner_second;
      no_section = leaner_refused;
      section_between = section_whole;
      figure_exactly = figure_exact;
      figure_given = figure_told;
      distance_exactly = λ x d. (omega arith, omega arith);
      figure_nearest = λ b g some other.
          nearest_of_all (length (flat (steps b))) (length (restated_steps b)) (figure b) g some ((figure_exact b (figure b)).0 refl) other;
      figure_zero = figure_none;
      figure_printed = (twelve_and_a_half, seventeen_and_a_half);
      stuck_exactly = stuck_exact;
      refused_text = report_refused;
      accepted_text = report_accepted;
    }
