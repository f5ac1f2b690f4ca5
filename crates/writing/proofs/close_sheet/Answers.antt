-- S6: behind what stands in front the rest comes back with the trailer.
use Rattle.std.proofs.Common.{refl, ap, ◌∙◌, ◌++◌, ℕ}
use Rattle.sets.specs.Lists.{over}
use Rattle.sheet.specs.Writing.{trailer, sheet_of}
use Rattle.writing.proofs.Lending.{lent_over}
use Rattle.writing.proofs.close_sheet.Goals as goal

pub returns : goal.returns
unfolding sheet_of
returns c front rest e h =
    let a = c.args in
    lent_over front (trailer a.s a.n a.m) rest h e refl c.write.ensures
    ∙ ap (λ (at : ℕ). over (front ++ trailer at a.n a.m) rest) e
