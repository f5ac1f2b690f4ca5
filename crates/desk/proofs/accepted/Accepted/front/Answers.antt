-- `Accepted::front` meets its contract (S2).
-- Assumes nothing.
use Rattle.desk.proofs.AcceptedFacts.{front_told}
use Rattle.desk.proofs.accepted.Accepted.front.Goals as goal

pub returns : goal.returns
returns c = front_told _ _ c.args.self.now.judged.sheet
