-- B7: the set has the rows passed in which the component takes part.
use Rattle.rows.proofs.entries.Taken.{TakenBefore}
use Rattle.rows.proofs.entries.alphabet_of.Given as goal

abbrev pub invariant-loop-g : goal.invariant-loop-g
invariant-loop-g l = TakenBefore l.rows.bytes.now l.j l.set l.g
