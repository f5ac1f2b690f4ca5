-- N3: the components before the index have been entered.
use Rattle.dependence.proofs.participants.Entering.{EnteredBelow}
use Rattle.dependence.proofs.participants.participants_of.Given as goal

abbrev pub invariant-loop-j : goal.invariant-loop-j
invariant-loop-j l = EnteredBelow l.components l.j l.found
