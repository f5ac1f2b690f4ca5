-- `trailer::mark_wrong`, which serves R2: the library compares the bytes at the end with the mark.
-- Assumes nothing.
use Rattle.std.proofs.Common.{ap, ◌∙◌}
use Rattle.std.specs.Prelude.{not}
use Rattle.reading.proofs.trailer.Trailer.{mark_tested}
use Rattle.reading.proofs.trailer.mark_wrong.Goals as goal

pub returns : goal.returns
returns c = ap not c.ends_with.ensures.value ∙ mark_tested c.args.sheet.now
