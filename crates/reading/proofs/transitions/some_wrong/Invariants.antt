-- `transitions::some_wrong`, which serves R7: some transition is wrong exactly when one that is left is;
-- and at hand is the record of the current component.
-- Assumes nothing.
use Rattle.std.proofs.Common.{◌≡◌, get_or}
use Rattle.sets.specs.Lists.{any_of}
use Rattle.systems.specs.Tables.{Tables}
use Rattle.sheet.specs.Refusals.{transition_wrong}
use Rattle.sheet.specs.Sections.{transitions_in, no_component, Decoded}
use Rattle.numbers.specs.transitions.Transitions.{transitions_left}
use Rattle.reading.proofs.transitions.some_wrong.Given as goal

abbrev pub invariant-loop-transition : goal.invariant-loop-transition
invariant-loop-transition l = record {
  hand : l.component ≡ get_or l.components l.current no_component;
  left : (T : Tables) → Decoded T l.components
      → any_of (transition_wrong T) (transitions_in l.section) ≡ any_of (transition_wrong T) (transitions_left l.transition-iterator);
}
