-- B9: the transitions that leave one state more are written, and those of all states.
use Rattle.std.proofs.Common.{arith, refl, ◌∙◌}
use Rattle.writing.proofs.Sections.{to_write_all, to_write_lent, to_write_more, to_write_end}
use Rattle.products.specs.ProductBytes.{product_of}
use Rattle.rows.specs.table.Parts.{state_part}
use Rattle.rows.proofs.table.Places.{record_inside, states_there, states_few}
use Rattle.rows.proofs.table.Leaving.{of_states}
use Rattle.rows.proofs.table.Upward.{left_all, left_next, left_none}
use Rattle.rows.proofs.table.write_states.Goals as goal

pub bounds-column-column : goal.bounds-column-column
bounds-column-column c = let i = record_inside c.args.column.told in omega arith

pub loop-q-init : goal.loop-q-init
loop-q-init c =
    let b = c.args.column.rows.bytes.now in
    let j = c.args.column.j in
    to_write_all _ _ _ (of_states (product_of b) j ∙ left_all (state_part b j) ((product_of b).component j).states) c.requires.1

pub bounds-leaving-from : goal.bounds-leaving-from
bounds-leaving-from c =
    let there = states_there c.args.column.told in
    let few = states_few c.args.column.told in
    let long = c.requires.0.size in
    omega arith

pub write_leaving-used-requires : goal.write_leaving-used-requires
write_leaving-used-requires c =
    let b = c.args.column.rows.bytes.now in
    let j = c.args.column.j in
    let q = c.loop-q.q in
    let there = states_there c.args.column.told in
    let few = states_few c.args.column.told in (
      rw c.from.ensures (c.requires.0.each q (omega arith)),
      to_write_lent c.loop-q.invariant (state_part b j q) _ (left_next (state_part b j) ((product_of b).component j).states q (omega arith)),
    )

pub loop-q-preserved : goal.loop-q-preserved
loop-q-preserved c =
    let b = c.args.column.rows.bytes.now in
    let j = c.args.column.j in
    let q = c.loop-q.q in
    let there = states_there c.args.column.told in
    to_write_more c.loop-q.invariant (state_part b j q) _ (left_next (state_part b j) ((product_of b).component j).states q (omega arith)) refl
    c.write_leaving-used.ensures.1 c.write_leaving-used.ensures.0

pub returns : goal.returns
returns c =
    let b = c.args.column.rows.bytes.now in
    let j = c.args.column.j in
    let there = states_there c.args.column.told in
    to_write_end c.loop-q.invariant (left_none (state_part b j) ((product_of b).component j).states c.loop-q.q (omega arith))
