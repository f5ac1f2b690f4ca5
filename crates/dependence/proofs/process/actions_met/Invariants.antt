-- N6: the union so far is that of the alphabets before the index.
use Rattle.dependence.proofs.Dependence.{UnionMet}
use Rattle.dependence.proofs.process.actions_met.Given as goal

abbrev pub invariant-loop-component : goal.invariant-loop-component
invariant-loop-component l = UnionMet l.components l.component-index l.set l.met
