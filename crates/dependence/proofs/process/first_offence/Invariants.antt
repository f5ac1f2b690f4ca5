-- N7: the steps that are left decide, and their actions are actions of the tables.
use Rattle.std.proofs.Common.{◌+◌}
use Rattle.systems.specs.Tables.{Tables, InOrder, WordOver}
use Rattle.systems.specs.Checking.{flat}
use Rattle.systems.specs.Independence.{dependent}
use Rattle.sheet.specs.Sections.{steps_in, Alphabets}
use Rattle.numbers.specs.Steps.{steps_left}
use Rattle.dependence.proofs.process.Checking.{LeftDecides}
use Rattle.dependence.proofs.process.first_offence.Given as goal

abbrev pub invariant-loop-k : goal.invariant-loop-k
invariant-loop-k l =
    (T : Tables) → InOrder T → Alphabets T l.components → WordOver T (flat (steps_in l.section))
    → LeftDecides (dependent T) (steps_in l.section) l.before (l.k-iterator.count + 1) (steps_left l.k-iterator.iter)
    × WordOver T (flat (steps_left l.k-iterator.iter))
