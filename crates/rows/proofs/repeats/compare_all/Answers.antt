-- R16: once no earlier row is left, or all components are compared, it is told whether a row repeats one.
use Rattle.std.proofs.Common.{arith, sym, ◌∙◌}
use Rattle.rows.proofs.repeats.Repeated.{none_left, repeats_told}
use Rattle.rows.proofs.repeats.compare_all.Goals as goal

pub returns-then-not-some_left : goal.returns-then-not-some_left
returns-then-not-some_left c =
    let none = sym c.some_left.ensures ∙ c.if-not-some_left.true in
    none_left _ _ _ _ _ c.args.rows.stand (omega arith) c.loop-j.invariant (omega arith) none

pub returns : goal.returns
returns c =
    c.some_left-2.ensures
    ∙ repeats_told _ _ _ _ _ c.args.rows.stand (omega arith) c.loop-j.invariant (omega arith) (omega arith)
