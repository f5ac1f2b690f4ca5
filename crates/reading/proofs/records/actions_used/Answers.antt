-- `records::actions_used`, which serves R6: one alphabet more.
-- Assumes nothing.
use Rattle.std.proofs.Common.{sym, ap, ◌∙◌, get_or}
use Rattle.std.specs.Prelude.{Bool, ◌||◌}
use Rattle.sets.specs.Bits.{member}
use Rattle.sets.proofs.Lists.{any_of_below_zero, any_of_below_more}
use Rattle.sets.proofs.Members.{member_zero, member_or}
use Rattle.sheet.specs.Sections.{no_component, alphabet_at}
use Rattle.reading.proofs.records.actions_used.Goals as goal

pub loop-component-init : goal.loop-component-init
loop-component-init c a = member_zero a ∙ sym (any_of_below_zero (λ j. member (alphabet_at c.args.components.now j) a))

pub loop-component-preserved : goal.loop-component-preserved
loop-component-preserved c a =
    let l = c.args.components.now in
    let i = c.loop-component.component-index in
    member_or c.loop-component.all (get_or l i no_component).alphabet a
    ∙ ap (λ (t : Bool). t || member (alphabet_at l i) a) (c.loop-component.invariant a)
    ∙ sym (any_of_below_more (λ j. member (alphabet_at l j) a) i)
