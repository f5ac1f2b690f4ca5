-- B9: the transitions of the components from j on are still to be written.
use Rattle.writing.proofs.Sections.{StillToWrite}
use Rattle.products.specs.ProductBytes.{product_of}
use Rattle.rows.specs.table.Parts.{component_part, transition_part}
use Rattle.rows.proofs.table.Upward.{left_from}
use Rattle.rows.proofs.table.write_transitions.Given as goal

abbrev pub invariant-loop-j : goal.invariant-loop-j
invariant-loop-j l =
    let b = l.product.rows.bytes.now in
    StillToWrite (transition_part b) (left_from (component_part b) (product_of b).components l.j) l.fn.out l.out l.used
