-- V3, R19: a word of actions over the tables of an accepted sheet, each a step of its own: where the run has no fault, the sheet with these
-- steps is accepted, and restating it is what restating these steps is.
-- Assumes nothing.
use mathlib.Core.Path.{◌≡◌, refl, sym, ap, ◌∙◌, subst}
use mathlib.Core.List.{List, Memᴰ}
use mathlib.Core.Option.{Option, none, some}
use Prim.Native.Nat.{ℕ, ◌^◌, ◌<◌, ◌≤◌}
use native.Mathlib.Omega.{arith}
use lib.ListN.{length, length-map}
use Rattle.systems.specs.Tables.{Tables}
use Rattle.systems.specs.Running.{start}
use Rattle.systems.specs.Checking.{Fault, first_fault, flat}
use Rattle.sheet.specs.Bounds.{most_steps, most_in_steps}
use Rattle.sheet.specs.Layout.{front, component_count, action_count, tables}
use Rattle.sheet.specs.Sections.{steps_in}
use Rattle.sheet.specs.Writing.{sheet_of}
use Rattle.sheet.specs.Verdict.{accepted, Accepted, of_fault}
use Rattle.sheet.specs.Limits.{InLimits}
use Rattle.answers.specs.declared.Sizes.{Sizes}
use Rattle.answers.specs.declared.Answer.{Answer}
use Rattle.answers.specs.declared.Answer.TheVariants.{Accepted as AcceptedAnswer}
use Rattle.answers.specs.Outcomes.{outcome_of}
use Rattle.answers.specs.Restated.{normal, with_steps, restated}
use Rattle.answers.proofs.Passing.{NotAccepted, stopped_by, told_accepted}
use Rattle.answers.proofs.Restated.{accepted_limits, accepted_order, restated_normal, with_steps_reads, with_steps_tables, with_steps_accepted}
use Rattle.columns.specs.Merging.{single}
use Rattle.columns.proofs.Merged.{word_fits, flat_singles, singles_small}
use Rattle.machine.specs.Runs.{RunFromStart}
use Rattle.desk.specs.AcceptedSheet.{SectionRuns}
use Rattle.desk.specs.Calls.{RestateAnswer}
use Rattle.desk.specs.Left.{RestatedInto}
use Rattle.desk.proofs.restatable.RestateAnswers.{restate_with}
use Rattle.merging.specs.Words.{WordGiven}

-- a verdict by faults accepts only where there is none (O3)
no_fault : (f : Option Fault) → of_fault f ≡ accepted → f ≡ none
no_fault none e = refl
no_fault (some f) e = let z : ◌≡◌ {A = ℕ} 0 1 = cc in absurd (omega arith)

-- ---- the answer of a run (O3, F1)

module _ {T : Tables} {z : Sizes} {xs : List ℕ} {r : Answer} {held : List ℕ} (run : RunFromStart T z xs r held)
  where
    abbrev fault : Option Fault
    fault = first_fault T (start T) 0 xs

    -- O3: the sizes are told where the steps have no fault
    pub run_fine : {w : Sizes} → r ≡ AcceptedAnswer w → fault ≡ none
    run_fine {w} e = no_fault fault (told_accepted w (of_fault fault) z.n z.m z.t z.s (ap outcome_of (sym e) ∙ run.answer)).0

    -- O3, R19: else they have one
    pub run_faulty : NotAccepted r → ¬ (fault ≡ none)
    run_faulty h e =
        let stop = stopped_by r h (of_fault fault) z.n z.m z.t z.s run.answer in
        let passed : of_fault fault ≡ accepted = ap of_fault e in
        let told = stop.verdict_told in
        let z : ◌≡◌ {A = ℕ} 0 1 = cc in
        absurd (omega arith)

-- ---- the sheet with the word as its steps (V3, N9)

module _ {b section : List ℕ} (acc : Accepted b) (g : WordGiven b section) where
  limits : InLimits b
  limits = accepted_limits b acc

  fits : (a : ℕ) → Memᴰ a g.word → a < 64
  fits = word_fits (tables b) (accepted_order b acc) g.word g.word_over

  small : (x : ℕ) → Memᴰ x (steps_in section) → x < 2 ^ 64
  small x m = singles_small g.word fits x (subst (λ (l : List ℕ). Memᴰ x l) g.section_told m)

  -- L6: its actions are few enough together
  together : length (flat (steps_in section)) ≤ most_in_steps
  together = let e = ap length (ap flat g.section_told ∙ flat_singles g.word fits) in let f = g.word_few in omega arith

  module _ (fine : first_fault (tables b) (start (tables b)) 0 (steps_in section) ≡ none) where
    -- V3: what restating these steps asks
    pub word_runs : SectionRuns b section
    word_runs = record { fine = fine; few = together; short = g.section_short }

    -- R10 to R12: accepted where its steps have no fault
    with_accepted : Accepted (with_steps b (steps_in section))
    with_accepted = with_steps_accepted b limits (steps_in section) small few together fine
      where
        few : length (steps_in section) ≤ most_steps
        few = let e = ap length g.section_told ∙ length-map g.word single in let f = g.word_few in omega arith

    -- N8: the sheet with the steps of the normal form is the restated one of the sheet with these steps
    restated_told : with_steps b (normal (tables b) (steps_in section)) ≡ restated (with_steps b (steps_in section))
    unfolding restated
    restated_told =
        let reads = with_steps_reads b limits (steps_in section) small in
        let c = with_steps b (steps_in section) in
        let ys = normal (tables b) (steps_in section) in
        let packed = restated_normal c ∙ ap (normal (tables c)) reads.same_steps
        ∙ ap (λ (T : Tables). normal T (steps_in section)) (with_steps_tables b limits (steps_in section) small) in
        sym (ap (with_steps c) packed
        ∙ ap (λ (f : List ℕ). sheet_of f (component_count c) (action_count c) ys) reads.front_before
        ∙ ap (λ (n : ℕ). sheet_of (front b) n (action_count c) ys) reads.component_count_fact
        ∙ ap (λ (m : ℕ). sheet_of (front b) (component_count b) m ys) reads.action_count_fact)

    -- V3: so restating it is what was answered
    pub word_restated : {out : List ℕ} {r : Answer} {after : List ℕ}
        → RestatedInto (with_steps b (normal (tables b) (steps_in section))) out r after → RestateAnswer (with_steps b (steps_in section)) out r after
    word_restated into = restate_with with_accepted restated_told into
