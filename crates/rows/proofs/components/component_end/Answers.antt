-- R15: a component stands where its length, its counts and all its states do.
use Rattle.std.proofs.Common.{arith, ◌∙◌}
use Rattle.sets.proofs.Bools.{not_both}
use Rattle.rows.proofs.components.Standing.{rest_at, stands}
use Rattle.rows.proofs.components.component_end.Goals as goal

pub returns-then-not-all_below : goal.returns-then-not-all_below
returns-then-not-all_below c =
    let stand = stands c.args.product.now c.args.at _ c.from-size.ensures c.in-len3-up.len_at_least (omega arith) c.if-states-initial.false in
    λ s. not_both (c.all_below.ensures.1 (stand.1 s)) c.if-not-all_below.true

pub returns : goal.returns
returns c =
    let stand = stands c.args.product.now c.args.at _ c.from-size.ensures c.in-len3-up.len_at_least (omega arith) c.if-states-initial.false in
    let count = c.from-size.ensures ∙ rest_at c.args.product.now c.args.at 2 in
    (stand.0 (c.all_below.ensures.0 c.if-not-all_below.false), omega arith)
