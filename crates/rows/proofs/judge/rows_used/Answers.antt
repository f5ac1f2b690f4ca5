-- R16: one alphabet more.
use Rattle.rows.proofs.judge.Alphabets.{union_none, union_more}
use Rattle.rows.proofs.judge.rows_used.Goals as goal

pub loop-part-init : goal.loop-part-init
loop-part-init c = union_none _

pub loop-part-preserved : goal.loop-part-preserved
loop-part-preserved c = union_more _ c.loop-part.part-index c.loop-part.all c.loop-part.invariant
