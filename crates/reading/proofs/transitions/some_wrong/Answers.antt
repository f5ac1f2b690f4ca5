-- `transitions::some_wrong`, which serves R7: all transitions are left.
-- Assumes nothing.
use Rattle.std.proofs.Common.{◌≡◌, ap}
use Rattle.sets.specs.Lists.{any_of}
use Rattle.sheet.specs.Refusals.{transition_wrong}
use Rattle.sheet.specs.Sections.{transitions_in}
use Rattle.numbers.specs.transitions.Transitions.{transitions_left}
use Rattle.reading.proofs.transitions.some_wrong.Goals as goal

pub loop-transition-init : goal.loop-transition-init
loop-transition-init c =
    let all : transitions_in c.args.section.now ≡ transitions_left c.into_iter-transition-iterator.result = cc in
    record { hand = c.record_at-component.ensures; left = λ T D. ap (any_of (transition_wrong T)) all }
