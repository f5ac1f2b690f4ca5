-- The action that is taken is put into the step of its level (N8).
use Rattle.std.proofs.Common.{◌≡◌, ◌+◌, ap, max, arith, rules}
use Rattle.std.proofs.Math.ListN.{set}
use Rattle.systems.specs.Checking.{flat}
use Rattle.normal_form.proofs.Holding.{put_holds, holds_none}
use Rattle.normal_form.proofs.Words.{from_zeros, next_below, next_placed, step_placed, foata_held}
use Rattle.normal_form.proofs.pack.Goals as goal

pub loop-step-init : goal.loop-step-init
loop-step-init c =
    simp (c.none-levels.ensures, c.into_iter-step-iterator.ensures.into_iter_gives, c.of-step-items.ensures)
    (from_zeros _ _ _ _ c.requires.1)

pub loop-step-preserved : goal.loop-step-preserved
loop-step-preserved c = step_placed _ c.loop-a.invariant c.in-None-a.ensures.steps.0

pub offset_bounds-packed-at : goal.offset_bounds-packed-at
offset_bounds-packed-at c = omega (arith, next_below _ c.loop-a.invariant c.in-Some-a.ensures.steps c.requires.0 c.take-at.ensures)

pub bounds-packed-at : goal.bounds-packed-at
bounds-packed-at c = omega (arith, next_below _ c.loop-a.invariant c.in-Some-a.ensures.steps c.requires.0 c.take-at.ensures)

pub offset_bounds-packed-at-in-loop-a : goal.offset_bounds-packed-at-in-loop-a
offset_bounds-packed-at-in-loop-a c = omega (arith, next_below _ c.loop-a.invariant c.in-Some-a.ensures.steps c.requires.0 c.take-at.ensures)

pub bounds-packed-at-in-loop-a : goal.bounds-packed-at-in-loop-a
bounds-packed-at-in-loop-a c = omega (arith, next_below _ c.loop-a.invariant c.in-Some-a.ensures.steps c.requires.0 c.take-at.ensures)

pub overflow_add-at : goal.overflow_add-at
overflow_add-at c = omega (arith, next_below _ c.loop-a.invariant c.in-Some-a.ensures.steps c.requires.0 c.take-at.ensures)

pub loop-a-preserved : goal.loop-a-preserved
loop-a-preserved c =
    let below = next_below _ c.loop-a.invariant c.in-Some-a.ensures.steps c.requires.0 c.take-at.ensures in
    let larger : c.max-steps.result ≡ max c.loop-a.steps (c.take-at.result + 1) = search rules in
    next_placed _ c.loop-a.invariant c.in-Some-a.ensures.steps c.requires.0 c.take-at.ensures
    (λ ss. put_holds c.in-Some-a.a c.take-at.result _ _ larger ss c.loop-a.packed _ (omega arith)
    (ap (set c.loop-a.packed c.take-at.result) c.with.ensures))

pub returns : goal.returns
returns c T order O over empty = foata_held c.loop-step.invariant (ap flat c.in-None.ensures.steps.0) (holds_none _ empty) T order O over
