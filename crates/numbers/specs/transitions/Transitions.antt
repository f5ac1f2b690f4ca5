-- S4: the transitions of a section, one after another.
-- Assumes nothing.
use Rattle.std.specs.Prelude.{List}
use Rattle.systems.specs.Tables.{Transition}
use Rattle.sheet.specs.Sections.{transitions_in}
use Rattle.numbers.specs.declared.transitions.Transition.{Transition as TransitionRead}
use Rattle.numbers.specs.declared.transitions.Transitions.{Transitions}

-- a transition as the tables have it
abbrev pub told : TransitionRead → Transition
told t = record { component = t.component; source = t.source; label = t.label; target = t.target }

-- the transitions that are still to come, the first in front
abbrev pub transitions_left : Transitions → List Transition
transitions_left s = transitions_in s.section.now
