-- `trailer::length_wrong`, which serves R1: the length is tested against both bounds.
-- Assumes nothing.
use Rattle.sheet.specs.Refusals.{length_wrong}
use Rattle.reading.proofs.trailer.length_wrong.Goals as goal

pub returns : goal.returns
unfolding length_wrong
returns c = c.out_of_range.ensures
