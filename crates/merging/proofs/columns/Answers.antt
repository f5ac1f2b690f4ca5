-- V3, V4, O9, O5: the refusal of the trailer or of the tables and steps, with the output as it came; else what the columns answer for the
-- accepted sheet.
use Rattle.std.proofs.Common.{refl, ap}
use Rattle.sheet.specs.Layout.{component_count, action_count, transitions_at, steps_at}
use Rattle.sheet.specs.Verdict.{verdict}
use Rattle.answers.specs.Outcomes.{number_of, outcome_of}
use Rattle.answers.proofs.Passing.{stopped_by}
use Rattle.columns.specs.Calls.{ColumnsAnswer}
use Rattle.desk.proofs.verdict.Judging.{trailer_stopped, trailer_verdict_fact}
use Rattle.merging.proofs.columns.Goals as goal

pub returns-in_default : goal.returns-in_default
returns-in_default c =
    let b = c.args.sheet.now in
    let told = c.read_trailer-read.result in
    let stop = trailer_stopped b told c.in_default.not-Accepted c.read_trailer-read.ensures in
    ColumnsAnswer.sheet_refused (number_of stop.refusal) stop.index (trailer_verdict_fact b told c.in_default.not-Accepted stop)
    (ap outcome_of stop.answer_told) refl

pub returns-in_default-judged : goal.returns-in_default-judged
returns-in_default-judged c =
    let b = c.args.sheet.now in
    let told = c.judge_tables-judged.result in
    let stop =
    stopped_by told c.in_default-judged.not-Accepted (verdict b) (component_count b) (action_count b) (transitions_at b) (steps_at b)
    c.judge_tables-judged.ensures.answer_told in
    ColumnsAnswer.sheet_refused (number_of stop.refusal) stop.index stop.verdict_told (ap outcome_of stop.answer_told) refl
