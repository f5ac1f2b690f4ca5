-- R15: a number out of range is found, or no row has one.
use Rattle.std.proofs.Common.{arith, below_more, sym, ◌∙◌}
use Rattle.rows.proofs.entries.Columns.{number_told_fact, column_found, column_passed}
use Rattle.rows.proofs.entries.column_out.Goals as goal

pub returns-then-number_out : goal.returns-then-number_out
returns-then-number_out c =
    let told = number_told_fact _ _ _ _ _ c.number.ensures c.requires.1 in
    column_found _ _ _ _ _ c.args.rows.stand (omega arith) (sym told ∙ sym c.number_out.ensures ∙ c.if-number_out.true)

pub loop-g-preserved : goal.loop-g-preserved
loop-g-preserved c =
    let told = number_told_fact _ _ _ _ _ c.number.ensures c.requires.1 in
    below_more _ _ c.loop-g.invariant (sym told ∙ sym c.number_out.ensures ∙ c.if-number_out.false)

pub returns : goal.returns
returns c = column_passed _ _ _ _ _ c.args.rows.stand (omega arith) c.loop-g.invariant
