-- R11: nothing is found in the alphabets before the index; of the actions of one alphabet at most one has been seen.
use Rattle.std.specs.Int.Bits.{bit_and}
use Rattle.sheet.specs.Sections.{alphabet_at}
use Rattle.dependence.proofs.clash.Clashing.{SeenSoFar, NoClashBefore}
use Rattle.dependence.proofs.clash.clashes.Given as goal

abbrev pub invariant-components : goal.invariant-components
invariant-components l = NoClashBefore l.components l.step l.component-index l.found

abbrev pub invariant-loop : goal.invariant-loop
invariant-loop l = SeenSoFar (bit_and l.step (alphabet_at l.components l.component-index)) l.found l.iterator'.left l.seen
