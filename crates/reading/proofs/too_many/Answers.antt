-- `reading::too_many`, which serves R9: 16 steps cannot have too many actions, and those of more steps are counted.
-- Assumes nothing.
use Rattle.std.proofs.Common.{sym, ◌∙◌, arith}
use Rattle.sets.proofs.Bools.{ltb_false}
use Rattle.sheet.specs.Bounds.{most_in_steps}
use Rattle.sheet.proofs.Sections.{short_few}
use Rattle.reading.proofs.too_many.Goals as goal

pub returns-else-section-gt128 : goal.returns-else-section-gt128
returns-else-section-gt128 c =
    let few = short_few c.args.section.now (omega arith) in
    (ltb_false 128 _).1 (omega arith) ∙ sym ((ltb_false most_in_steps _).1 few)
