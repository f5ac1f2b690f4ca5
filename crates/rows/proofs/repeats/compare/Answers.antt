-- R16: one row more is compared, and all of them.
use Rattle.std.proofs.Common.{arith, refl, ◌∙◌}
use Rattle.rows.proofs.repeats.Agreeing.{compared_none, compared_more, compared_all}
use Rattle.rows.proofs.repeats.compare.Goals as goal

pub loop-g-init : goal.loop-g-init
loop-g-init c = compared_none _ _ _ _ _ c.requires.1 c.requires.2 refl

pub loop-g-preserved : goal.loop-g-preserved
loop-g-preserved c =
    let l = c.loop-g in
    let few = c.args.rows.stand.few_rows in
    let x = c.from-number in
    rw c.with.ensures
    (compared_more _ _ _ l.g x.result l.same l.seen l.invariant (omega arith) few (x.ensures ∙ c.number.ensures) (omega arith))

pub returns : goal.returns
returns c = compared_all _ _ _ _ _ _ c.loop-g.invariant (omega arith)
