-- `reading::decode`, which serves S3: one record more, and all records.
-- Assumes nothing.
use Rattle.std.proofs.Common.{◌≡◌, ◌≢◌, arith, ◌<◌, length, get_or-set_other, get_or-set_same, below_more}
use Rattle.reading.proofs.records.Decoding.{base_next, all_decoded}
use Rattle.reading.proofs.decode.Goals as goal

pub loop-j-preserved : goal.loop-j-preserved
loop-j-preserved c =
    let l = c.loop-j in
    let d = c.decoded.ensures in
    let low : l.j < length l.components = omega arith in (
      omega (arith, base_next c.args.section.now l.j),
      omega arith,
      below_more _ _
          (λ k h. let other : k ≢ l.j = omega arith in rw get_or-set_other (l.invariant.2 k h))
          (rw get_or-set_same (rw l.invariant.0 at d)),
    )

pub returns : goal.returns
returns c m =
    let l = c.loop-j in
    let last : l.j ≡ length c.args.components.now = omega arith in
    all_decoded c.args.section.now l.components (length c.args.components.now) m l.auto.components (omega arith) (rw last at l.invariant.2)
