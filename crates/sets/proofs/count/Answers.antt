-- S1, F7: the set bits of a number below 2 ^ 64 are its elements, at most 64.
use lib.Count.{ones-le}
use Rattle.sets.proofs.Members.{ones_members}
use Rattle.sets.proofs.count.Goals as goal

pub returns : goal.returns
returns c = (ones_members c.args.x c.ranges.x.fits, ones-le 64 c.args.x c.ranges.x.fits)
