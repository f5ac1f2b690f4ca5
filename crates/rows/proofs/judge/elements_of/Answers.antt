-- B9: one alphabet more.
use Rattle.std.proofs.Common.{arith}
use Rattle.rows.proofs.judge.Elements.{count_none, count_more}
use Rattle.rows.proofs.judge.elements_of.Goals as goal

pub loop-part-init : goal.loop-part-init
loop-part-init c = record { most = omega arith; counted = count_none _ }

pub loop-part-preserved : goal.loop-part-preserved
loop-part-preserved c =
    let l = c.loop-part in
    record { most = omega arith; counted = count_more _ l.part-index l.sum c.count.result l.invariant.counted c.count.ensures.0 }
