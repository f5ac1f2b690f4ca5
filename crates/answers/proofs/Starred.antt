-- X2, C3: the starred cases of document 01 and the text that is printed for its worked example, by one computed test.
-- Assumes nothing.
use mathlib.Core.Path.{◌≡◌, refl}
use mathlib.Core.Bool.{true, ◌&&◌}
use mathlib.Core.List.{Memᴰ}
use Rattle.sets.specs.Lists.{all_of, upward, below}
use Rattle.sets.specs.Bits.{members, members_from}
use Rattle.sets.proofs.Bools.{and_true}
use Rattle.sets.proofs.Lists.{all_of_elim}
use Rattle.systems.specs.Independence.{shares, dependent}
use Rattle.systems.specs.Running.{rounds, closure, start, enabled, fire}
use Rattle.systems.specs.Checking.{not_actions, not_apart, not_enabled, step_fault}
use Rattle.sheet.specs.Numbers.{field}
use Rattle.sheet.specs.Layout.{records_at, transitions_at, steps_at, component_count, action_count, closing, front, states_of}
use Rattle.sheet.specs.Layout.{filler_of, initial_of, alphabet_of, transition_bytes, tables_of, tables, step_count, steps}
use Rattle.sheet.specs.Refusals.{same_numbers, length_wrong, mark_wrong, counts_wrong, offsets_wrong, record_wrong, records_wrong}
use Rattle.sheet.specs.Refusals.{action_unused, transition_wrong, transitions_wrong, order_wrong, too_many_actions}
use Rattle.sheet.specs.Verdict.{steps_verdict, verdict}
use Rattle.sheet.specs.Writing.{trailer, sheet_of}
use Rattle.sheet.proofs.Limits.{same_numbers_fact}
use Rattle.answers.specs.Ends.{end_set}
use Rattle.answers.specs.Restated.{restated_steps, restated}
use Rattle.answers.specs.Figure.{figure}
use Rattle.answers.specs.Stuck.{stuck}
use Rattle.answers.specs.Report.{summary_line, step_lines, end_lines, report}
use Rattle.answers.specs.Pair.{pair_tables, pair_sheet}
use Rattle.answers.specs.Starred.{Trial, starred, holds, worked_sheet, printed}

all_come_out : (all_of holds starred && same_numbers (report worked_sheet) printed) ≡ true
unfolding upward below members members_from shares dependent rounds closure start enabled fire not_actions not_apart not_enabled step_fault field records_at
    transitions_at steps_at component_count action_count closing front states_of filler_of initial_of alphabet_of transition_bytes tables_of tables step_count
    steps length_wrong mark_wrong counts_wrong offsets_wrong record_wrong records_wrong action_unused transition_wrong transitions_wrong order_wrong
    too_many_actions steps_verdict verdict trailer sheet_of end_set restated_steps restated pair_tables pair_sheet figure stuck summary_line step_lines end_lines
    report
all_come_out = refl

both : (all_of holds starred ≡ true) × (same_numbers (report worked_sheet) printed ≡ true)
both = (and_true (all_of holds starred) (same_numbers (report worked_sheet) printed)).0 all_come_out

-- X2, C3: each trial of the table comes out as the table says
pub starred_hold : (c : Trial) → Memᴰ c starred → holds c ≡ true
starred_hold c m = all_of_elim holds starred both.0 c m

-- X1, P1, P3 to P5: the text for the worked example
pub pair_report : report worked_sheet ≡ printed
pair_report = (same_numbers_fact (report worked_sheet) printed).0 both.1
