-- `Accepted::of` keeps the type's fact (N1, S3, E5): the sheet is accepted, with these sizes, and the room has its components and end sets.
-- Assumes nothing.
use Rattle.desk.proofs.AcceptedFacts.{judged_sheet}
use Rattle.desk.proofs.accepted.Accepted.of.Goals as goal

pub invariant_of-result : goal.invariant_of-result
invariant_of-result c = record { judged = judged_sheet c.requires }
