-- The worked answers come out as their table says, by one computed test.
-- Assumes nothing.
use mathlib.Core.Path.{◌≡◌, refl, ap}
use mathlib.Core.Bool.{true, ◌&&◌, false≢true}
use mathlib.Core.List.{List, Memᴰ}
use Prim.Native.Nat.{ℕ}
use lib.Dec.{eqb}
use Rattle.sets.specs.Lists.{all_of, upward, below}
use Rattle.sets.specs.Bits.{members, members_from}
use Rattle.sets.proofs.Bools.{and_true, eqb_true}
use Rattle.sets.proofs.Lists.{all_of_elim}
use Rattle.systems.specs.Independence.{shares, dependent}
use Rattle.systems.specs.Running.{rounds, closure, start, enabled, fire}
use Rattle.systems.specs.Checking.{not_actions, not_apart, not_enabled, step_fault}
use Rattle.sheet.specs.Numbers.{field}
use Rattle.sheet.specs.Layout.{records_at, transitions_at, steps_at, component_count, action_count, closing, front, states_of}
use Rattle.sheet.specs.Layout.{filler_of, initial_of, alphabet_of, transition_bytes, tables_of, tables, step_count, steps}
use Rattle.sheet.specs.Refusals.{length_wrong, mark_wrong, counts_wrong, offsets_wrong, record_wrong, records_wrong}
use Rattle.sheet.specs.Refusals.{action_unused, transition_wrong, transitions_wrong, order_wrong, too_many_actions}
use Rattle.sheet.specs.Verdict.{steps_verdict, verdict}
use Rattle.sheet.specs.Writing.{trailer, sheet_of}
use Rattle.sheet.proofs.Limits.{same_numbers_fact}
use Rattle.answers.specs.Outcomes.{Outcome, given, refused}
use Rattle.answers.specs.LentOutput.{length_or13}
use Rattle.answers.specs.Ends.{end_set, ends_outcome}
use Rattle.answers.specs.Restated.{restated_steps, restated}
use Rattle.answers.specs.Restating.{restating}
use Rattle.answers.specs.ProcessCheck.{process_check}
use Rattle.answers.specs.TwoSheets.{tables_differ, of_two}
use Rattle.answers.specs.SameWork.{same_work}
use Rattle.answers.specs.Leaner.{winner, step_section, leaner}
use Rattle.answers.specs.Figure.{figure, figure_outcome}
use Rattle.answers.specs.Stuck.{stuck, stuck_outcome}
use Rattle.answers.specs.Report.{summary_line, step_lines, end_lines, report, reporting, report_output}
use Rattle.answers.specs.Pair.{pair_tables, pair_sheet}
use Rattle.answers.specs.Worked.{Worked, worked, same_outcome, comes_out}

all_come_out : all_of comes_out worked ≡ true
unfolding upward below members members_from shares dependent rounds closure start enabled fire not_actions not_apart not_enabled step_fault field records_at
    transitions_at steps_at component_count action_count closing front states_of filler_of initial_of alphabet_of transition_bytes tables_of tables step_count
    steps length_wrong mark_wrong counts_wrong offsets_wrong record_wrong records_wrong action_unused transition_wrong transitions_wrong order_wrong
    too_many_actions steps_verdict verdict trailer sheet_of end_set restated_steps restated pair_tables pair_sheet figure stuck summary_line step_lines end_lines
    report length_or13 ends_outcome restating process_check tables_differ of_two same_work winner step_section leaner figure_outcome stuck_outcome reporting
    report_output
all_come_out = refl

same_outcome_fact : (o p : Outcome (List ℕ)) → same_outcome o p ≡ true → o ≡ p
same_outcome_fact (given xs) (given ys) e = ap given ((same_numbers_fact xs ys).0 e)
same_outcome_fact (given xs) (refused k i s) e = absurd (false≢true e)
same_outcome_fact (refused k i s) (given ys) e = absurd (false≢true e)
same_outcome_fact (refused k i s) (refused l j t) e =
    let h = (and_true (eqb k l && eqb i j) (eqb s t)).0 e in
    let g = (and_true (eqb k l) (eqb i j)).0 h.0 in
    let p = (eqb_true k l).0 g.0 in
    let q = (eqb_true i j).0 g.1 in
    let r = (eqb_true s t).0 h.1 in
    cc

-- S6, E5, N7, N8, R13, R14, O6, O7, A1 to A5, P1 to P5: each answer of the table is what the table says
pub worked_hold : (r : Worked) → Memᴰ r worked → r.found ≡ r.due
worked_hold r m = same_outcome_fact r.found r.due (all_of_elim comes_out worked all_come_out r m)
