-- B8: the records of the components from this one on are still to be written.
use Rattle.writing.proofs.Sections.{StillToWrite}
use Rattle.products.specs.ProductBytes.{product_of}
use Rattle.products.specs.ProductSheet.{record_bytes}
use Rattle.rows.specs.table.Parts.{record_part}
use Rattle.rows.proofs.table.Upward.{left_from}
use Rattle.rows.proofs.table.write_records.Given as goal

abbrev pub invariant-loop-part : goal.invariant-loop-part
invariant-loop-part l =
    let b = l.product.rows.bytes.now in
    StillToWrite (record_part b) (left_from (record_bytes (product_of b)) (product_of b).components l.part-index) l.fn.out l.out l.used
