-- `Restatable::of` keeps the type's fact (N3): the components of each action stand in the array.
-- Assumes nothing.
use Rattle.sheet.proofs.Sections.{decoded_alphabets}
use Rattle.desk.proofs.restatable.Restatable.of.Goals as goal

pub participants_of-requires : goal.participants_of-requires
participants_of-requires c = (c.args.accepted.now.judged.decoded.few, c.requires)

pub invariant_of-result : goal.invariant_of-result
invariant_of-result c = record { entered = c.participants_of.ensures _ (decoded_alphabets c.args.accepted.now.judged.decoded) }
