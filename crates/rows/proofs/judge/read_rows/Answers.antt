-- R15: each look refuses only what is malformed, and what passes them all is not.
use Rattle.std.proofs.Common.{refl, sym, ◌∙◌}
use Rattle.rows.proofs.judge.Looking.{read_by, components_refuse, end_inside, length_refuse, rows_stand, begins_left, numbers_pass, numbers_refuse}
use Rattle.rows.proofs.judge.read_rows.Goals as goal

pub returns-in_err-end : goal.returns-in_err-end
returns-in_err-end c =
    rw c.from_residual.ensures (components_refuse (read_by _ _ _ _ c.read_components.auto.parts c.requires) c.in_err-end.ensures)

pub overflow_sub-product : goal.overflow_sub-product
overflow_sub-product c = end_inside (read_by _ _ _ _ c.read_components.auto.parts c.requires) c.in_ok-end.ensures

pub returns-then-product-end : goal.returns-then-product-end
returns-then-product-end c =
    length_refuse (read_by _ _ _ _ c.read_components.auto.parts c.requires) c.in_ok-end.ensures c.if-product-end.true

pub invariant_of-rows : goal.invariant_of-rows
invariant_of-rows c = record {
  stand = rows_stand (read_by _ _ _ _ c.read_components.auto.parts c.requires) c.in_ok-end.ensures c.if-product-end.false;
}

pub returns-then-numbers_out : goal.returns-then-numbers_out
returns-then-numbers_out c =
    numbers_refuse (read_by _ _ _ _ c.read_components.auto.parts c.requires) c.in_ok-end.ensures
    (sym c.numbers_out.ensures ∙ c.if-numbers_out.true)

pub returns : goal.returns
returns c =
    let r = read_by _ _ _ _ c.read_components.auto.parts c.requires in
    let a = c.in_ok-end.ensures in
    (numbers_pass r a c.if-product-end.false (sym c.numbers_out.ensures ∙ c.if-numbers_out.false), refl, begins_left r a)
