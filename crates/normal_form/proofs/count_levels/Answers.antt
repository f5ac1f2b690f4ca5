-- The action that is taken counts for the steps up to its level (N8).
use Rattle.std.proofs.Common.{◌≡◌, ◌+◌, ap, max, refl, arith, rules}
use Rattle.systems.specs.Checking.{flat}
use Rattle.normal_form.proofs.Holding.{put_counted}
use Rattle.normal_form.proofs.Words.{from_zeros, next_below, next_placed, step_placed, foata_held}
use Rattle.normal_form.proofs.count_levels.Goals as goal

pub loop-step-init : goal.loop-step-init
loop-step-init c =
    simp (c.none-levels.ensures, c.into_iter-step-iterator.ensures.into_iter_gives, c.of-step-items.ensures)
    (from_zeros _ _ _ _ c.requires.1)

pub loop-step-preserved : goal.loop-step-preserved
loop-step-preserved c = step_placed _ c.loop-a.invariant c.in-None-a.ensures.steps.0

pub overflow_add-take : goal.overflow_add-take
overflow_add-take c = omega (arith, next_below _ c.loop-a.invariant c.in-Some-a.ensures.steps c.requires.0 c.take.ensures)

pub loop-a-preserved : goal.loop-a-preserved
loop-a-preserved c =
    let larger : c.max-steps.result ≡ max c.loop-a.steps (c.take.result + 1) = search rules in
    next_placed _ c.loop-a.invariant c.in-Some-a.ensures.steps c.requires.0 c.take.ensures
    (λ ss few. put_counted c.in-Some-a.a c.take.result _ _ larger ss)

pub returns : goal.returns
returns c T order O over = foata_held c.loop-step.invariant (ap flat c.in-None.ensures.steps.0) refl T order O over
