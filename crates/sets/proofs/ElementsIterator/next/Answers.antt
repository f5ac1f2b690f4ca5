-- What is left has one element less (T2).
use Rattle.std.proofs.Common.{rules, length, ap}
use Rattle.sets.proofs.Walks.{taken_first}
use Rattle.sets.proofs.ElementsIterator.next.Goals as goal

pub returns-clause-goes : goal.returns-clause-goes
returns-clause-goes c = let e = ap length (taken_first c.take_lowest.ensures) in search rules
