-- T1, F7: the trailing zeros of a number that is not 0 are its lowest element, and
-- `x & (x - 1)` is the number without it.
use Rattle.std.proofs.Common.{rules}
use Rattle.sets.proofs.LowestBit.{lowest_taken}
use Rattle.sets.proofs.take_lowest.Goals as goal

pub returns : goal.returns
returns c = lowest_taken c.args.left.now c.requires (search rules)
