-- `restate::restate` meets its contract (N8, N9, R13, O5): the refusal of the trailer or of the tables and steps, with the output as it
-- came; else what the accepted sheet is restated as.
-- Assumes nothing.
use mathlib.Core.Path.{◌≡◌, ap, subst}
use mathlib.Core.List.{List}
use Prim.Native.Nat.{ℕ}
use Rattle.sheet.specs.Layout.{component_count, action_count, transitions_at, steps_at, tables, steps}
use Rattle.sheet.specs.Sections.{steps_in}
use Rattle.sheet.specs.Verdict.{verdict, accepted, trailer_verdict}
use Rattle.answers.specs.Restated.{normal, with_steps, restated}
use Rattle.answers.proofs.Passing.{stopped_by}
use Rattle.desk.specs.Calls.{RestateAnswer}
use Rattle.desk.proofs.verdict.Judging.{trailer_stopped, trailer_verdict_fact}
use Rattle.desk.proofs.restatable.PackedSheets.{own_runs, own_normal}
use Rattle.desk.proofs.restatable.RestateAnswers.{restate_refused, restate_with}
use Rattle.desk.proofs.restate.restate.Goals as goal

pub returns-in_default : goal.returns-in_default
returns-in_default c =
    let b = c.args.sheet.now in
    let a = c.read_trailer-read.result in
    let stop = trailer_stopped b a c.in_default.not-Accepted c.read_trailer-read.ensures in
    restate_refused b _ a (trailer_verdict b accepted) stop (trailer_verdict_fact b a c.in_default.not-Accepted stop)

pub returns-in_default-judged : goal.returns-in_default-judged
returns-in_default-judged c =
    let b = c.args.sheet.now in
    let a = c.judge_tables-judged.result in
    let stop =
    stopped_by a c.in_default-judged.not-Accepted (verdict b) (component_count b) (action_count b) (transitions_at b) (steps_at b)
    c.judge_tables-judged.ensures.answer_told in
    restate_refused b _ a (verdict b) stop stop.verdict_told

pub restate_steps-requires : goal.restate_steps-requires
restate_steps-requires c =
    let e = c.step_section.ensures in
    rw c.of-restatable.ensures (own_runs _ c.of-accepted.result.judged.sheet.sheet_accepted _ e.steps e.short)

-- the sheet with its own steps packed is the restated one
own_restated : (b section : List ℕ) → steps_in section ≡ steps b → with_steps b (normal (tables b) (steps_in section)) ≡ restated b
unfolding restated
own_restated b section e = ap (with_steps b) (own_normal b section e)

pub returns : goal.returns
returns c =
    let into = rw c.of-restatable.ensures at c.restate_steps.ensures in
    subst (λ (b : List ℕ). RestateAnswer b c.args.out.now c.restate_steps.result c.restate_steps.new.out) c.of-accepted.ensures.0
    (restate_with c.of-accepted.result.judged.sheet.sheet_accepted (own_restated _ _ c.step_section.ensures.steps) into)
