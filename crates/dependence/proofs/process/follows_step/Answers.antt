-- N6: every action of the step is to be in the union of the alphabets that have an action of the step before.
use Rattle.systems.specs.Independence.{dependent}
use Rattle.dependence.proofs.process.Meeting.{follows_union}
use Rattle.dependence.proofs.process.follows_step.Goals as goal

pub returns : goal.returns
returns c =
    λ T order A known.
    follows_union (dependent T) c.args.before c.args.step c.actions_met-met.result c.ranges.step.fits
    (λ b m. c.actions_met-met.ensures T order A b (known b m))
