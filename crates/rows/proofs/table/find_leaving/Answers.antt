-- B9: one row more is entered, and all of them.
use Rattle.rows.proofs.table.Leaving.{leaving_none, leaving_more, leaving_all}
use Rattle.rows.proofs.table.find_leaving.Goals as goal

pub loop-g-init : goal.loop-g-init
loop-g-init c =
    rw (c.into_iter-g-iterator.ensures.into_iter_gives, c.of-g-items.ensures)
    (leaving_none _ _ _ _ c.args.column.told.alphabet_told c.requires)

pub transition_at-at-requires : goal.transition_at-at-requires
transition_at-at-requires c = c.loop-g.invariant.mine _ c.in-Some.ensures.steps.own

pub loop-g-preserved : goal.loop-g-preserved
loop-g-preserved c =
    rw (c.with.ensures, c.from-q.ensures)
    (leaving_more _ _ _ _ c.loop-g.invariant c.in-Some.ensures.steps c.transition_at-at.ensures)

pub returns : goal.returns
returns c = leaving_all _ _ _ _ c.loop-g.invariant c.in-None.ensures.steps.0
