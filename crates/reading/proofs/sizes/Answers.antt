-- `reading::sizes`, which serves S6: the numbers are those that stand in the trailer.
-- Assumes nothing.
use Rattle.sheet.specs.Layout.{transitions_at, steps_at}
use Rattle.reading.proofs.trailer.Trailer.{components_read, actions_read}
use Rattle.reading.proofs.sizes.Goals as goal

pub returns : goal.returns
unfolding transitions_at steps_at
returns c = cc (components_read c.args.sheet.now, actions_read c.args.sheet.now, c.number.ensures.0, c.number-2.ensures.0)
