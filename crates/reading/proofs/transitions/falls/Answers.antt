-- `transitions::falls`, which serves R8: one more string is compared with the one before.
-- Assumes nothing.
use Rattle.std.proofs.Common.{arith, ◌-◌, ◌<◌, ◌≤◌, length}
use Rattle.reading.proofs.transitions.Order.{falls_next}
use Rattle.reading.proofs.transitions.falls.Goals as goal

pub loop-k-preserved : goal.loop-k-preserved
loop-k-preserved c =
    let l = c.loop-k in
    let low : 1 ≤ l.k = l.invariant.0 in
    let here : l.k < length c.args.strings.now = c.loop-k-test.true in (
      omega arith,
      falls_next c.args.strings.now (l.k - 1) l.k _ _ _ l.falls _ (omega arith) (omega arith) here c.key-in-loop-k.ensures.1 c.key.ensures.1 (c.told-strings (l.k - 1) (omega arith))
          (c.told-strings l.k here) c.key.ensures.0 c.key-in-loop-k.ensures.0 l.invariant.1,
    )
