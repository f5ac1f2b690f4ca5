-- Each participant is one of the components that a sheet may have, and its entry is raised to one past the largest (N8).
use Rattle.std.proofs.Common.{◌≡◌, get_or, max, arith, rules}
use Rattle.sets.proofs.Walks.{left_less}
use Rattle.normal_form.proofs.levels.Raising.{level_room}
use Rattle.normal_form.proofs.levels.Walking.{first_below, raised_none, raised_more, largest_more, largest_none}
use Rattle.normal_form.proofs.levels.Levels.take.Goals as goal

pub bounds-self-j : goal.bounds-self-j
bounds-self-j c = first_below c.loop-j.invariant.small c.in-Some.ensures.steps

pub loop-j-preserved : goal.loop-j-preserved
loop-j-preserved c =
    let less = left_less c.in-Some.ensures.steps in
    let larger : c.max-level.result ≡ max c.loop-j.level (get_or c.args.self.now.last c.in-Some.j 0) = search rules in
    record { small = omega arith; largest_left = largest_more _ _ _ _ c.in-Some.ensures.steps larger c.loop-j.invariant.largest_left }

pub overflow_add-self : goal.overflow_add-self
overflow_add-self c =
    let told = largest_none _ _ _ _ c.in-None.ensures.steps.0 c.loop-j.invariant.largest_left in
    omega (arith, level_room c.requires.0 _ _ _ c.requires.1)

pub bounds-self-i : goal.bounds-self-i
bounds-self-i c = first_below c.loop-i.invariant.small c.in-Some-i.ensures.steps

pub loop-i-preserved : goal.loop-i-preserved
loop-i-preserved c =
    let less = left_less c.in-Some-i.ensures.steps in
    record {
      small = omega arith;
      raised = λ after M. c.loop-i.invariant.raised after (raised_more _ _ after (omega (arith, first_below c.loop-i.invariant.small c.in-Some-i.ensures.steps)) c.in-Some-i.ensures.steps M);
    }

pub returns : goal.returns
returns c =
    record {
      found = largest_none _ _ _ _ c.in-None.ensures.steps.0 c.loop-j.invariant.largest_left;
      raised = c.loop-i.invariant.raised _ (raised_none _ _ _ c.in-None-i.ensures.steps.0);
    }
