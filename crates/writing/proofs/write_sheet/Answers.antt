-- S2, N9: behind the copied bytes stands what the writer of the steps left in the rest.
use Rattle.std.proofs.Common.{refl, ap, ◌∙◌, ◌++◌, ℕ}
use Rattle.sets.specs.Lists.{over}
use Rattle.sheet.specs.Writing.{step_bytes, trailer, sheet_of}
use Rattle.writing.proofs.Lending.{lent_over}
use Rattle.writing.proofs.write_sheet.Goals as goal

pub returns : goal.returns
unfolding sheet_of
returns c =
    let a = c.args in
    let copied = c.put_bytes-s.ensures in
    lent_over a.front.now (step_bytes a.steps.now ++ trailer c.put_bytes-s.result a.n a.m) a.out.now copied.1 copied.0 refl c.write_steps.ensures
    ∙ ap (λ (at : ℕ). over (a.front.now ++ (step_bytes a.steps.now ++ trailer at a.n a.m)) a.out.now) copied.0
