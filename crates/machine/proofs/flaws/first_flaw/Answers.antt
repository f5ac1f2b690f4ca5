-- The step that is looked at has the flaw that is told, or none (R10, R11, O3).
use Rattle.std.proofs.Common.{sym, ap, ◌∙◌, arith, below_more}
use Rattle.sheet.proofs.Sections.{steps_in_length, steps_in_at}
use Rattle.machine.specs.flaws.Flaws.{flaw_of}
use Rattle.machine.proofs.flaws.first_flaw.Goals as goal

pub loop-index-preserved : goal.loop-index-preserved
loop-index-preserved c = λ T A e.
    let at = steps_in_at c.args.steps.now c.loop-index.index (omega arith) in
    below_more _ _ (c.loop-index.invariant T A e) (ap (flaw_of T) (at ∙ sym c.step_at.ensures) ∙ c.in_default.ensures T A e)

pub returns-in-Some : goal.returns-in-Some
returns-in-Some c T A e =
    let at = steps_in_at c.args.steps.now c.loop-index.index (omega arith) in
    record {
      inside = let size = steps_in_length c.args.steps.now in omega arith;
      none_earlier = c.loop-index.invariant T A e;
      told = c.in-Some.ensures T A e ∙ ap (flaw_of T) (c.step_at.ensures ∙ sym at);
    }

pub returns : goal.returns
returns c T A e i h = c.loop-index.invariant T A e i (let size = steps_in_length c.args.steps.now in omega arith)
