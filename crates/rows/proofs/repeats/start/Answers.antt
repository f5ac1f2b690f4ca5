-- R16: every set has all rows before its own.
use Rattle.std.proofs.Common.{arith}
use Rattle.rows.proofs.repeats.Before.{started}
use Rattle.rows.proofs.repeats.start.Goals as goal

pub returns : goal.returns
returns c = started _ (λ g h. c.loop-g.invariant g (omega arith))
