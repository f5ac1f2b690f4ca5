-- Laws of the definitions to which the calls are tied, by which the demands of the calls are proved (desk/specs/Demands and the demands of the
-- crates above it). Each law says again, in other words, what a definition computes. `proofs/Laws.antt` proves each record.
-- Assumes nothing.
use Rattle.std.specs.Prelude.{◌≡◌, ◌≢◌, ◌↔◌, ◌⊎◌, true, false, List, [], ◌∷◌, ◌++◌, map, ℕ, ◌+◌, ◌-◌, ◌*◌, ◌<◌, ◌≤◌, length, take, drop}
use Rattle.std.proofs.Math.Option.{none, some}
use Rattle.sets.specs.Bits.{members}
use Rattle.systems.specs.Lts.{IsLts}
use Rattle.systems.specs.Interleaving.{Global, Reaches}
use Rattle.systems.specs.StepExecution.{Determinized, Linearization, Picked}
use Rattle.systems.specs.ProcessExecution.{ProcessCondition}
use Rattle.systems.specs.Tables.{lts_of}
use Rattle.systems.specs.Independence.{dependent}
use Rattle.systems.specs.Running.{enabled}
use Rattle.systems.specs.Checking.{flat}
use Rattle.sheet.specs.Numbers.{AreBytes}
use Rattle.sheet.specs.Bounds.{trailer_size}
use Rattle.sheet.specs.Layout.{component_count, action_count, front, tables, step_count, steps}
use Rattle.sheet.specs.Limits.{InLimits}
use Rattle.sheet.specs.Verdict.{Verdict, verdict, IsVerdict, Accepted}
use Rattle.answers.specs.Outcomes.{given, refused, after}
use Rattle.answers.specs.Ends.{end_set, end_sets}
use Rattle.answers.specs.Restated.{restated_steps, restated}
use Rattle.answers.specs.Related.{SameTables, RelatedSheets}
use Rattle.answers.specs.Restating.{restating, output_after}
use Rattle.traces.specs.Offences.{IsFirstOffence}
use Rattle.answers.specs.ProcessCheck.{process_check}
use Rattle.answers.specs.TwoSheets.{of_two}
use Rattle.answers.specs.SameWork.{same_work}
use Rattle.answers.specs.Leaner.{winner, step_section, leaner}
use Rattle.answers.specs.Figure.{distance, FigureOf, IsFigure, figure, figure_outcome}
use Rattle.answers.specs.Stuck.{stuck}
use Rattle.answers.specs.Report.{refused_word, line, summary_line, step_lines, end_lines, report, reporting}
use Rattle.answers.specs.FirstRefusal.{SheetRefusal, RestateRefusal, ReportRefusal, TwoSheetRefusal, AtMostOne, RefusesBy}
use Rattle.answers.specs.SheetExecution.{system_in, action_sets, ExecutionTo, ProcessIn}

-- D1: a result, or the one refusal that is due
pub record RefusalLaws : Type 1 where
  -- O1: the verdict is the first refusal in the printed order, or accepted when none holds; nothing else is
  pub first_refusal : (b : List ℕ) → IsVerdict b (verdict b)
  pub only_refusal : (b : List ℕ) (v : Verdict) → IsVerdict b v → v ≡ verdict b
  -- the outcome of a call is a refusal exactly where one is due: of one sheet
  pub sheet_refused : {A : Type 0} (b : List ℕ) (x : A) → RefusesBy (SheetRefusal b) (after (verdict b) (given x))
  -- of restating and of the report: also R13
  pub restate_refused : (b : List ℕ) (room : ℕ) → RefusesBy (RestateRefusal b room) (restating b room)
  pub report_refused : (b : List ℕ) (room : ℕ) → RefusesBy (ReportRefusal b room) (reporting b room)
  -- of two sheets (O6), with the sheet that it is about (O7), and R14
  pub two_refused : {A : Type 0} (b c : List ℕ) (x : A) → RefusesBy (TwoSheetRefusal b c) (of_two b c x)
  -- at most one is
  pub one_of_sheet : (b : List ℕ) → AtMostOne (SheetRefusal b)
  pub one_of_restate : (b : List ℕ) (room : ℕ) → AtMostOne (RestateRefusal b room)
  pub one_of_report : (b : List ℕ) (room : ℕ) → AtMostOne (ReportRefusal b room)
  pub one_of_two : (b c : List ℕ) → AtMostOne (TwoSheetRefusal b c)

-- D1, R13, O5, N9: restating into lent bytes
pub record OutputLaws : Type 0 where
  -- R13: an output as long as the restated sheet serves
  pub long_enough : (b : List ℕ) (room : ℕ) → Accepted b → length (restated b) ≤ room → restating b room ≡ given (length (restated b))
  -- O5: a refused call leaves the output as it came
  pub refused_untouched : (b out : List ℕ) (k i s : ℕ) → restating b (length out) ≡ refused k i s → output_after b out ≡ out
  -- N9: the restated sheet stands in front, and the bytes behind it stay
  pub written : (b out : List ℕ) (k : ℕ) → restating b (length out) ≡ given k → take k (output_after b out) ≡ restated b
  pub behind_kept : (b out : List ℕ) (k : ℕ) → restating b (length out) ≡ given k → drop k (output_after b out) ≡ drop k out

-- D2: accepted sheets and end sets
pub record ExecutionLaws : Type 1 where
  -- accepted exactly when the steps are a step execution as published (Q6), within the limits
  pub accepted_exactly : (b : List ℕ) → Accepted b ↔ (InLimits b × ((F : Determinized) × ExecutionTo b F))
  -- E5: the published step execution ends in the end sets, and nowhere else
  pub ends_published : (b : List ℕ) → Accepted b → ExecutionTo b (end_sets b)
  pub ends_only : (b : List ℕ) → Accepted b → (F : Determinized) → ExecutionTo b F
      → (j : ℕ) → j < component_count b → (q : ℕ) → F j q ↔ end_sets b j q
  -- M4: the end sets pick exactly the states reached, for every chosen order w within the steps
  pub picked_exactly : (b : List ℕ) → Accepted b → (w : List ℕ) → Linearization (action_sets b) w
      → (t : Global) → Picked (system_in b) (end_sets b) t ↔ Reaches (system_in b) w t
  -- the flat list (N2) is such an order, and some global state is picked: neither side is empty
  pub some_order : (b : List ℕ) → Accepted b → Linearization (action_sets b) (flat (steps b))
  pub some_picked : (b : List ℕ) → Accepted b → (t : Global) × Picked (system_in b) (end_sets b) t
  -- Q1: each component of an accepted sheet is an LTS as published
  pub components_lts : (b : List ℕ) → Accepted b → (j : ℕ) → j < component_count b → IsLts (lts_of (tables b) j)

-- D3, N8: the restated sheet of an accepted sheet
pub record RestatedLaws : Type 1 where
  -- N5: the same bytes exactly for related sheets
  pub same_bytes : (b c : List ℕ) → Accepted b → Accepted c → (restated b ≡ restated c) ↔ RelatedSheets b c
  -- what is written are bytes
  pub restated_bytes : (b : List ℕ) → AreBytes b → Accepted b → AreBytes (restated b)
  -- N4, N5: accepted, over the same tables, related to its sheet
  pub restated_related : (b : List ℕ) → Accepted b → RelatedSheets b (restated b)
  -- Q8: a process execution
  pub restated_process : (b : List ℕ) → Accepted b → ProcessIn (restated b)
  -- E5: with the same end sets
  pub restated_ends : (b : List ℕ) → Accepted b → (j : ℕ) → j < component_count b → end_set (restated b) j ≡ end_set b j
  -- N10: its steps, counted in its bytes; it is no longer than its sheet
  pub restated_count : (b : List ℕ) → Accepted b → step_count (restated b) ≡ length (restated_steps b)
  pub restated_no_longer : (b : List ℕ) → Accepted b → length (restated b) ≤ length b
  -- N10: no related sheet has fewer steps
  pub fewest_steps : (b c : List ℕ) → RelatedSheets b c → step_count (restated b) ≤ step_count c
  -- restated again it is the same
  pub restated_again : (b : List ℕ) → Accepted b → restated (restated b) ≡ restated b
  -- N8: no other related sheet meets the process condition
  pub restated_only : (b c : List ℕ) → AreBytes c → RelatedSheets b c → ProcessCondition (system_in c) (action_sets c) → c ≡ restated b

-- A1 to A5, N7, P2 to P5: the other answers
pub record AnswerLaws : Type 1 where
  -- N7: the process check says yes just of process executions (Q8), and else tells the first step that offends
  pub process_exactly : (b : List ℕ) → (process_check b ≡ given none) ↔ (Accepted b × ProcessIn b)
  pub offends_first : (b : List ℕ) (i : ℕ)
      → (process_check b ≡ given (some i)) ↔ (Accepted b × IsFirstOffence (dependent (tables b)) (map members (steps b)) i)
  -- A1: same work: yes just of related sheets, no just of accepted sheets over the same tables that are not related
  pub same_exactly : (b c : List ℕ) → (same_work b c ≡ given true) ↔ RelatedSheets b c
  pub other_exactly : (b c : List ℕ) → (same_work b c ≡ given false) ↔ (Accepted b × Accepted c × SameTables b c × (¬ RelatedSheets b c))
  -- A3: the leaner sheet: the one with fewer restated steps, the first in a tie
  pub first_wins : (b c : List ℕ) → (winner b c ≡ given 0)
      ↔ (Accepted b × Accepted c × SameTables b c × (length (restated_steps b) ≤ length (restated_steps c)))
  pub second_wins : (b c : List ℕ) → (winner b c ≡ given 1)
      ↔ (Accepted b × Accepted c × SameTables b c × (length (restated_steps c) < length (restated_steps b)))
  -- A2: its step section; nothing for a refused pair
  pub first_section : (b c : List ℕ) → winner b c ≡ given 0 → leaner b c ≡ step_section b
  pub second_section : (b c : List ℕ) → winner b c ≡ given 1 → leaner b c ≡ step_section c
  pub no_section : (b c : List ℕ) (k i s : ℕ) → winner b c ≡ refused k i s → leaner b c ≡ []
  -- A2: the step section stands between the bytes before S and the trailer
  pub section_between : (b : List ℕ) → Accepted b → front b ++ (step_section b ++ drop (length b - trailer_size) b) ≡ b
  -- A4: there is exactly one figure, and it is the computed one
  pub figure_exactly : (b : List ℕ) (f : ℕ) → (f ≡ figure b) ↔ IsFigure b f
  -- A4: it is what an accepted sheet gets
  pub figure_given : (b : List ℕ) (f : ℕ) → (figure_outcome b ≡ given f) ↔ (Accepted b × IsFigure b f)
  -- G4: a distance is what has to be added to the less number
  pub distance_exactly : (x d : ℕ) → (distance x (x + d) ≡ d) × (distance (x + d) x ≡ d)
  -- A4: of a actions in s restated steps, every other number g is farther off than the figure f; or just as far, and then f is even
  pub figure_nearest : (b : List ℕ) (g : ℕ) →
      let a = length (flat (steps b)) in
      let s = length (restated_steps b) in
      let f = figure b in
      0 < s → g ≢ f
      → (distance (10 * a) (f * s) < distance (10 * a) (g * s))
      ⊎ ((distance (10 * a) (f * s) ≡ distance (10 * a) (g * s)) × ((half : ℕ) × (f ≡ 2 * half)))
  -- A4: without steps it is 0
  pub figure_zero : (b : List ℕ) → length (restated_steps b) ≡ 0 → figure b ≡ 0
  -- A4: the worked numbers: 12.5 goes down, 17.5 goes up
  pub figure_printed : FigureOf 5 4 12 × FigureOf 7 4 18
  -- A5: stuck exactly where the end sets enable none of the actions
  pub stuck_exactly : (b : List ℕ) → (stuck b ≡ true) ↔ ((a : ℕ) → a < action_count b → enabled (tables b) (end_set b) a ≡ false)
  -- P2 to P5: what is printed: number and step index of a refusal; else the line of four numbers, the restated steps, the end sets
  pub refused_text : (b : List ℕ) (k i : ℕ) → verdict b ≡ Verdict.refused k i → report b ≡ line refused_word (k ∷ i ∷ [])
  pub accepted_text : (b : List ℕ) → Accepted b → report b ≡ summary_line b ++ (step_lines b ++ end_lines b)
