-- R15: each turn reads one component, until one does not stand.
use Rattle.std.proofs.Common.{◌≡◌, length, arith, refl}
use Rattle.rows.proofs.components.Reading.{read_none, read_more, read_all, read_out}
use Rattle.rows.proofs.components.read_components.Goals as goal

pub loop-part-init : goal.loop-part-init
loop-part-init c = read_none _ _ c.requires.1

pub loop-part-preserved : goal.loop-part-preserved
loop-part-preserved c = read_more _ _ _ _ _ _ c.loop-part.invariant (omega arith) c.in_ok-at.ensures refl

pub returns-in_err-at : goal.returns-in_err-at
returns-in_err-at c =
    rw c.from_residual.ensures (read_out _ _ _ c.loop-part.part-index _ c.loop-part.invariant (omega arith) c.in_err-at.ensures)

pub returns : goal.returns
returns c =
    let long : c.loop-part.part-index ≡ length c.loop-part.part-items = omega arith in
    read_all _ _ _ (rw long at c.loop-part.invariant)
