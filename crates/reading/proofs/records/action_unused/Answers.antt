-- `records::action_unused`, which serves R6: the alphabets lack an action exactly when their union lacks it.
-- Assumes nothing.
use Rattle.sets.proofs.AllBelow.{below_exact}
use Rattle.sets.proofs.Members.{lacks_below}
use Rattle.reading.proofs.records.action_unused.Goals as goal

pub returns : goal.returns
returns c = rw c.below-all.ensures (lacks_below c.actions_used.result _ c.args.m _ c.actions_used.ensures.exact (below_exact c.args.m))
