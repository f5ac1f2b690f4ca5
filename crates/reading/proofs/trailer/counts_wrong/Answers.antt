-- `trailer::counts_wrong`, which serves R3: the two counts are the bytes that are read.
-- Assumes nothing.
use Rattle.std.proofs.Common.{sym}
use Rattle.reading.proofs.trailer.Trailer.{counts_read}
use Rattle.reading.proofs.trailer.counts_wrong.Goals as goal

pub returns : goal.returns
returns c =
    rw (c.out_of_range.ensures, c.out_of_range-2.ensures) (sym (counts_read c.args.sheet.now c.from.result c.from-2.result c.from.ensures c.from-2.ensures))
