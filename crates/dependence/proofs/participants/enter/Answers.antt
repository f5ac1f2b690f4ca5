-- What is left to be entered after a turn, and nothing at the end (N3).
use Rattle.std.proofs.Common.{rules}
use Rattle.dependence.proofs.participants.Entering.{entered_none, entered_more}
use Rattle.dependence.proofs.participants.enter.Goals as goal

pub loop-a-preserved : goal.loop-a-preserved
loop-a-preserved c =
    λ after E. c.loop-a.invariant after (entered_more c.loop-a.a-iterator.left c.in-Some.a c.next.new.self.left _ c.loop-a.found after
    (search rules) c.in-Some.ensures.steps c.with.result c.with.ensures E)

pub returns : goal.returns
returns c = c.loop-a.invariant _ (entered_none _ _ _ c.in-None.ensures.steps.0 (search rules))
