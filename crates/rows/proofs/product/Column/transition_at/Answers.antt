-- B5, B9: the number of a row stands in the bytes, and tells which of the component's transitions it is.
use Rattle.std.proofs.Common.{arith, refl, ◌∙◌}
use Rattle.rows.proofs.table.Places.{row_below, transition_there}
use Rattle.rows.proofs.product.Column.transition_at.Goals as goal

pub number-number-requires : goal.number-number-requires
number-number-requires c =
    let s = c.args.self in
    let row = row_below s.told c.args.g c.requires in
    let low = s.told.component_below in
    let n = s.rows.stand.n_told in
    let m = s.rows.stand.m_told in
    (omega arith, omega arith)

pub overflow_add-result : goal.overflow_add-result
overflow_add-result c =
    let there = transition_there c.args.self.told c.args.g c.requires _ _ c.number-number.ensures refl in
    let i = there.inside in
    omega arith

pub overflow_add-result-2 : goal.overflow_add-result-2
overflow_add-result-2 c =
    let there = transition_there c.args.self.told c.args.g c.requires _ _ c.number-number.ensures refl in
    let i = there.inside in
    omega arith

pub returns : goal.returns
returns c = transition_there c.args.self.told c.args.g c.requires _ _ (c.from.ensures ∙ c.number-number.ensures) refl
