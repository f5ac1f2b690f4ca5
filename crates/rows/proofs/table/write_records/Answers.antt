-- B8: one record more is written, and all of them.
use Rattle.std.proofs.Common.{arith, refl, ap, ◌∙◌, ℕ}
use Rattle.sets.specs.Bits.{with}
use Rattle.writing.proofs.Sections.{to_write_all, to_write_lent, to_write_more, to_write_end}
use Rattle.products.specs.ProductBytes.{product_of}
use Rattle.products.specs.ProductSheet.{record_bytes}
use Rattle.rows.proofs.table.Places.{components_told, column_told, record_inside, initial_few, record_by, record_next}
use Rattle.rows.proofs.table.Upward.{left_all, left_none}
use Rattle.rows.proofs.table.write_records.Goals as goal

pub loop-part-init : goal.loop-part-init
loop-part-init c =
    let b = c.args.product.now.rows.bytes.now in
    to_write_all _ _ _ (left_all (record_bytes (product_of b)) (product_of b).components) c.requires

pub bounds-product-part : goal.bounds-product-part
bounds-product-part c = let i = record_inside (column_told _ _ c.args.product.now.read c.loop-part.part-index c.loop-part-test.true) in omega arith

pub overflow_add-part : goal.overflow_add-part
overflow_add-part c = let i = record_inside (column_told _ _ c.args.product.now.read c.loop-part.part-index c.loop-part-test.true) in omega arith

pub bounds-product-part-in-loop-part : goal.bounds-product-part-in-loop-part
bounds-product-part-in-loop-part c =
    let i = record_inside (column_told _ _ c.args.product.now.read c.loop-part.part-index c.loop-part-test.true) in
    omega arith

pub with-initial-requires : goal.with-initial-requires
with-initial-requires c = let f = initial_few (column_told _ _ c.args.product.now.read c.loop-part.part-index c.loop-part-test.true) in omega arith

pub write_record-used-requires : goal.write_record-used-requires
write_record-used-requires c =
    let p = c.args.product.now in
    let x = c.with-initial.result in
    let e = c.with-initial.ensures ∙ ap (λ (i : ℕ). with i 0) c.from.ensures in
    let part = column_told _ _ p.read c.loop-part.part-index c.loop-part-test.true in
    to_write_lent c.loop-part.invariant (record_by part x) _ (record_next part x e)

pub loop-part-preserved : goal.loop-part-preserved
loop-part-preserved c =
    let p = c.args.product.now in
    let x = c.with-initial.result in
    let e = c.with-initial.ensures ∙ ap (λ (i : ℕ). with i 0) c.from.ensures in
    let part = column_told _ _ p.read c.loop-part.part-index c.loop-part-test.true in
    to_write_more c.loop-part.invariant (record_by part x) _ (record_next part x e) refl
    c.write_record-used.ensures.1 c.write_record-used.ensures.0

pub returns : goal.returns
returns c =
    let b = c.args.product.now.rows.bytes.now in
    let n = components_told b _ c.args.product.now.read.begins_left.size in
    to_write_end c.loop-part.invariant
    (left_none (record_bytes (product_of b)) (product_of b).components c.loop-part.part-index (omega arith))
