-- `Accepted::transition_section` meets its contract (S3, S4): with the components it is what the machine is handed.
-- Assumes nothing.
use Rattle.desk.proofs.AcceptedFacts.{sheet_system}
use Rattle.desk.proofs.accepted.Accepted.transition_section.Goals as goal

pub returns : goal.returns
returns c = let j = c.args.self.now.judged in sheet_system _ _ j.sheet j.decoded
