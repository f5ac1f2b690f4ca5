-- The demands of document 01 on the calls on one sheet, sentence by sentence. Each speaks of any input, answer and output of which a call's
-- promise holds (specs/Calls: the `ensures` of the calls). That the calls end and keep their promises for every input is what the check of
-- their code proves. For two sheets: comparing/specs/Demands; for the text: report/specs/Demands; for C: oatmist/specs/Demands.
-- Assumes nothing.
use Rattle.std.specs.Prelude.{◌≡◌, ◌↔◌, true, cond, List, ◌++◌, map, ℕ, ◌+◌, ◌<◌, ◌≤◌, ltb, length, take, drop, get_or, replicate}
use Rattle.sets.specs.Bits.{member, members}
use Rattle.traces.specs.Offences.{IsFirstOffence}
use Rattle.systems.specs.Interleaving.{Global, Reaches}
use Rattle.systems.specs.StepExecution.{Determinized, Linearization, Picked}
use Rattle.systems.specs.Independence.{dependent}
use Rattle.sheet.specs.Bounds.{most_components}
use Rattle.sheet.specs.Layout.{component_count, action_count, transitions_at, steps_at, tables, step_count, steps}
use Rattle.sheet.specs.Limits.{InLimits}
use Rattle.sheet.specs.Verdict.{Accepted}
use Rattle.answers.specs.declared.Sizes.{Sizes}
use Rattle.answers.specs.declared.Answer.{Answer}
use Rattle.answers.specs.Outcomes.{bit, TellsRefusal}
use Rattle.answers.specs.Ends.{end_set}
use Rattle.answers.specs.Figure.{IsFigure}
use Rattle.answers.specs.Stuck.{stuck}
use Rattle.answers.specs.FirstRefusal.{SheetRefusal, RestateRefusal, SizesOr, NumberOr}
use Rattle.answers.specs.SheetExecution.{system_in, action_sets, ExecutionTo, ProcessIn}
use Rattle.answers.specs.Restated.{restated_steps, restated}
use Rattle.answers.specs.Related.{RelatedSheets}
use Rattle.answers.specs.declared.EndSets.{EndSets}
use Rattle.desk.specs.Calls.{CheckAnswer, EndSetsAnswer, ProcessAnswer, RestateAnswer, FigureAnswer, StuckAnswer}

-- the answer says accepted (D2)
pub record SaysAccepted (r : Answer) : Type 0 where
  pub sizes : Sizes
  pub told : r ≡ Answer.Accepted sizes

-- w is what a call of restate wrote for the sheet b (D3)
pub record RestateWrote (b w : List ℕ) : Type 0 where
  pub lent : List ℕ
  pub left : List ℕ
  pub count : ℕ
  pub call : RestateAnswer b lent (Answer.Given count) left
  pub bytes : w ≡ take count left

-- D1: every call gives its result, or the one refusal that is due; a refused call leaves the output as it came.
pub record Demand1 : Type 0 where
  pub check_answers : (b : List ℕ) (r : Answer) → CheckAnswer b r → SizesOr (SheetRefusal b) r
  pub end_sets_answers : (b : List ℕ) (r : EndSets) → EndSetsAnswer b r → SizesOr (SheetRefusal b) r.answer
  pub process_answers : (b : List ℕ) (r : Answer) → ProcessAnswer b r → NumberOr (SheetRefusal b) r
  pub figure_answers : (b : List ℕ) (r : Answer) → FigureAnswer b r → NumberOr (SheetRefusal b) r
  pub stuck_answers : (b : List ℕ) (r : Answer) → StuckAnswer b r → NumberOr (SheetRefusal b) r
  pub restate_answers : (b out left : List ℕ) (r : Answer) → RestateAnswer b out r left → NumberOr (RestateRefusal b (length out)) r
  -- S6: the sizes
  pub sizes_told_fact : (b : List ℕ) (z : Sizes) → CheckAnswer b (Answer.Accepted z)
      → (z.n ≡ component_count b) × (z.m ≡ action_count b) × (z.t ≡ transitions_at b) × (z.s ≡ steps_at b)
  -- R13: an output of exactly the length serves
  pub restate_serves : (b out left : List ℕ) (r : Answer) → RestateAnswer b out r left → Accepted b → length (restated b) ≤ length out
      → r ≡ Answer.Given (length (restated b))
  -- N9: the restated sheet then stands in front, and the bytes behind it keep their values
  pub restate_writes : (b out left : List ℕ) (k : ℕ) → RestateAnswer b out (Answer.Given k) left
      → (k ≡ length (restated b)) × (left ≡ restated b ++ drop k out)
  -- O5: a refused call leaves the output as it came
  pub refused_untouched : (b out left : List ℕ) (r : Answer) (k i s : ℕ) → RestateAnswer b out r left → TellsRefusal r k i s → left ≡ out

-- D2: accepted exactly when the steps are a step execution as published, within the limits; the end sets pick out exactly the global states
-- in which interleaving executions with these actions can end, in whatever order w within the steps.
pub record Demand2 : Type 1 where
  pub check_accepts : (b : List ℕ) (r : Answer) → CheckAnswer b r → SaysAccepted r ↔ Accepted b
  pub accepted_exactly : (b : List ℕ) → Accepted b ↔ (InLimits b × ((F : Determinized) × ExecutionTo b F))
  pub picked_exactly : (b : List ℕ) (r : EndSets) → EndSetsAnswer b r → Accepted b → (w : List ℕ) → Linearization (action_sets b) w
      → (t : Global) → Picked (system_in b) (λ j q. member (get_or r.sets j 0) q ≡ true) t ↔ Reaches (system_in b) w t

-- D3, whole (C5): of the bytes that calls of restate wrote.
pub record Demand3 : Type 1 where
  pub written_accepted : (b w : List ℕ) → RestateWrote b w → Accepted b
  -- N5: restated as the same bytes exactly when swaps of independent neighbours turn one action list into the other, over the same tables
  pub same_bytes : (b c w v : List ℕ) → RestateWrote b w → RestateWrote c v → (w ≡ v) ↔ RelatedSheets b c
  -- what was written is accepted, over the same tables, related to its sheet, and a process execution
  pub written_related : (b w : List ℕ) → RestateWrote b w → RelatedSheets b w
  pub written_process : (b w : List ℕ) → RestateWrote b w → ProcessIn w
  -- E5: with the same end set for every component
  pub written_ends : (b w : List ℕ) → RestateWrote b w → (r s : EndSets) → EndSetsAnswer b r → EndSetsAnswer w s → s.sets ≡ r.sets
  -- N10: no accepted sheet so related has fewer steps, counted in the bytes as written
  pub fewest_steps : (b c w : List ℕ) → RelatedSheets b c → RestateWrote b w → step_count w ≤ step_count c
  pub written_count : (b w : List ℕ) → RestateWrote b w → step_count w ≡ length (restated_steps b)
  pub written_no_longer : (b w : List ℕ) → RestateWrote b w → length w ≤ length b
  -- restating it again, into any output as long as it is, writes its own bytes
  pub written_again : (b w out left : List ℕ) (r : Answer) → RestateWrote b w → RestateAnswer w out r left → length w ≤ length out
      → (r ≡ Answer.Given (length w)) × (take (length w) left ≡ w)

-- What the other calls answer for an accepted sheet (N7, E5, A4, A5).
pub record AnswerDemand : Type 1 where
  -- N7: the process check: yes exactly of process executions, else one past the first step that offends
  pub process_exactly : (b : List ℕ) (r : Answer) → ProcessAnswer b r → (r ≡ Answer.Given 0) ↔ (Accepted b × ProcessIn b)
  pub offends_first : (b : List ℕ) (r : Answer) (i : ℕ) → ProcessAnswer b r
      → (r ≡ Answer.Given (i + 1)) ↔ (Accepted b × IsFirstOffence (dependent (tables b)) (map members (steps b)) i)
  -- E5: sixteen end sets, 0 for a component that the sheet does not have; all 0 for a refused sheet
  pub ends_told : (b : List ℕ) (r : EndSets) → EndSetsAnswer b r → Accepted b → (j : ℕ) → j < most_components
      → get_or r.sets j 0 ≡ cond (ltb j (component_count b)) (end_set b j) 0
  pub ends_refused : (b : List ℕ) (r : EndSets) (k i s : ℕ) → EndSetsAnswer b r → SheetRefusal b k i s
      → r.sets ≡ replicate most_components 0
  -- A4: the figure of an accepted sheet, which is exactly one number
  pub figure_told : (b : List ℕ) (r : Answer) (f : ℕ) → FigureAnswer b r → (r ≡ Answer.Given f) ↔ (Accepted b × IsFigure b f)
  pub figure_one : (b : List ℕ) → (f : ℕ) × IsFigure b f × ((g : ℕ) → IsFigure b g → g ≡ f)
  -- A5: 1 for stuck, else 0
  pub stuck_told : (b : List ℕ) (r : Answer) → StuckAnswer b r → Accepted b → r ≡ Answer.Given (bit (stuck b))
