-- The actions that are still to be placed: those of the steps that are left, and within a step those of its own that are left (N8).
use Rattle.std.proofs.Common.{◌++◌, replicate}
use Rattle.sets.specs.Bits.{members}
use Rattle.systems.specs.Checking.{flat}
use Rattle.sheet.specs.Bounds.{most_components, most_in_steps}
use Rattle.sheet.specs.Sections.{steps_in}
use Rattle.normal_form.specs.Words.{Counted}
use Rattle.normal_form.proofs.Words.{StillToPlace}
use Rattle.normal_form.proofs.count_levels.Given as goal

abbrev pub invariant-loop-step : goal.invariant-loop-step
invariant-loop-step l =
    StillToPlace (most_in_steps) l.participants (flat (steps_in l.section)) (flat (steps_in l.step-iterator.section.now))
    (replicate most_components 0) l.levels.last (Counted 0) (Counted l.steps)

abbrev pub invariant-loop-a : goal.invariant-loop-a
invariant-loop-a l =
    StillToPlace (most_in_steps) l.participants (flat (steps_in l.section)) (members l.a-iterator.left ++ flat (steps_in l.step-iterator.section.now))
    (replicate most_components 0) l.levels.last (Counted 0) (Counted l.steps)
