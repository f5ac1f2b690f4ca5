-- B7: one row more, and all of them.
use Rattle.std.proofs.Common.{arith}
use Rattle.rows.proofs.entries.Taken.{taken_more, taken_all}
use Rattle.rows.proofs.entries.alphabet_of.Goals as goal

pub loop-g-preserved : goal.loop-g-preserved
loop-g-preserved c = taken_more _ _ _ _ _ _ c.loop-g.invariant c.number.ensures c.with_row-set.ensures

pub returns : goal.returns
returns c = taken_all _ _ _ _ _ _ c.args.rows.stand (omega arith) (omega arith) c.loop-g.invariant
