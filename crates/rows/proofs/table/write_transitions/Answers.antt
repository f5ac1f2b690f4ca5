-- B9: the transitions of one component more are written, and those of all.
use Rattle.std.proofs.Common.{arith, refl, ◌∙◌}
use Rattle.writing.proofs.Sections.{to_write_all, to_write_lent, to_write_more, to_write_end}
use Rattle.products.specs.ProductBytes.{product_of}
use Rattle.rows.specs.table.Parts.{component_part}
use Rattle.rows.proofs.table.Places.{components_told}
use Rattle.rows.proofs.table.Leaving.{of_components}
use Rattle.rows.proofs.table.Upward.{left_all, left_next, left_none}
use Rattle.rows.proofs.table.write_transitions.Goals as goal

pub loop-j-init : goal.loop-j-init
loop-j-init c =
    let b = c.args.product.now.rows.bytes.now in
    to_write_all _ _ _ (of_components (product_of b) ∙ left_all (component_part b) (product_of b).components) c.requires

pub write_component-used-requires : goal.write_component-used-requires
write_component-used-requires c =
    let b = c.args.product.now.rows.bytes.now in
    let j = c.loop-j.j in
    let n = components_told b _ c.args.product.now.read.begins_left.size in
    rw (c.column.ensures.0, c.column.ensures.1)
    (to_write_lent c.loop-j.invariant (component_part b j) _ (left_next (component_part b) (product_of b).components j (omega arith)))

pub loop-j-preserved : goal.loop-j-preserved
loop-j-preserved c =
    let b = c.args.product.now.rows.bytes.now in
    let j = c.loop-j.j in
    let n = components_told b _ c.args.product.now.read.begins_left.size in
    let wrote = rw (c.column.ensures.0, c.column.ensures.1) at c.write_component-used.ensures in
    to_write_more c.loop-j.invariant (component_part b j) _ (left_next (component_part b) (product_of b).components j (omega arith)) refl
    wrote.1 wrote.0

pub returns : goal.returns
returns c =
    let b = c.args.product.now.rows.bytes.now in
    let n = components_told b _ c.args.product.now.read.begins_left.size in
    to_write_end c.loop-j.invariant (left_none (component_part b) (product_of b).components c.loop-j.j (omega arith))
