-- The answers on one sheet: the refusal of a refused sheet, the value of an accepted one; the entries of the end sets; and the report in lent
-- bytes. `proofs/OutcomeLaws.antt` proves each record.
-- Assumes nothing.
use Rattle.std.specs.Prelude.{◌≡◌, List, map, ℕ, ◌<◌, ◌≤◌, length, take, drop, get_or}
use Rattle.sets.specs.Bits.{members}
use Rattle.traces.specs.Offences.{first_offence}
use Rattle.systems.specs.Independence.{dependent}
use Rattle.sheet.specs.Bounds.{most_components}
use Rattle.sheet.specs.Layout.{component_count, tables, steps}
use Rattle.sheet.specs.Verdict.{Verdict, verdict, Accepted}
use Rattle.answers.specs.Outcomes.{Outcome, given, refused, sizes_of, read_outcome}
use Rattle.answers.specs.Ends.{end_set, end_array, ends_outcome}
use Rattle.answers.specs.ProcessCheck.{process_check}
use Rattle.answers.specs.Figure.{figure, figure_outcome}
use Rattle.answers.specs.Stuck.{stuck, stuck_outcome}
use Rattle.answers.specs.Report.{report, reporting, report_output}

-- the refusal of a refused sheet, with its step index; of an accepted one the value (O1, O4)
pub record OfAccepted {A : Type 0} (outcome : List ℕ → Outcome A) (value : List ℕ → A) : Type 0 where
  pub of_refused : (b : List ℕ) (k i : ℕ) → verdict b ≡ Verdict.refused k i → outcome b ≡ refused k i 0
  pub of_accepted : (b : List ℕ) → Accepted b → outcome b ≡ given (value b)

-- S6, E5, N7, A4, A5: the sizes, the end sets, the process check, the figure, stuck
pub record OneSheet : Type 0 where
  pub sizes_told_fact : OfAccepted (λ b. read_outcome b (verdict b)) sizes_of
  pub ends_told : OfAccepted ends_outcome end_array
  pub process_told_fact : OfAccepted process_check (λ b. first_offence (dependent (tables b)) (map members (steps b)))
  pub figure_told : OfAccepted figure_outcome figure
  pub stuck_told : OfAccepted stuck_outcome stuck

-- E5: sixteen entries: the end set of each component, and 0 beyond the last one
pub record EndEntries (b : List ℕ) : Type 0 where
  pub sixteen : length (end_array b) ≡ most_components
  pub of_component : (j : ℕ) → j < most_components → j < component_count b → get_or (end_array b) j 0 ≡ end_set b j
  pub of_none : (j : ℕ) → j < most_components → component_count b ≤ j → get_or (end_array b) j 0 ≡ 0

-- R13, P1: the report of any sheet, accepted or not: 13 where it is longer than the output, which then stays as it came; else its length,
-- the text in front, and the bytes behind it as they were
pub record ReportLaws (b out : List ℕ) : Type 0 where
  pub too_long : length out < length (report b) → (reporting b (length out) ≡ refused 13 0 0) × (report_output b out ≡ out)
  pub told : length (report b) ≤ length out → reporting b (length out) ≡ given (length (report b))
  pub printed : length (report b) ≤ length out → take (length (report b)) (report_output b out) ≡ report b
  pub behind : length (report b) ≤ length out → drop (length (report b)) (report_output b out) ≡ drop (length (report b)) out
