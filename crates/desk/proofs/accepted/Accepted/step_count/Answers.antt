-- `Accepted::step_count` meets its contract (S7).
-- Assumes nothing.
use Rattle.desk.proofs.AcceptedFacts.{steps_counted}
use Rattle.desk.proofs.accepted.Accepted.step_count.Goals as goal

pub returns : goal.returns
returns c = steps_counted _ _ c.args.self.now.judged.sheet _ c.step_section.ensures.bytes
