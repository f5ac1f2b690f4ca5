-- B9: the transitions that leave the states from q on are still to be written.
use Rattle.writing.proofs.Sections.{StillToWrite}
use Rattle.products.specs.ProductBytes.{product_of}
use Rattle.rows.specs.table.Parts.{state_part, component_part}
use Rattle.rows.proofs.table.Upward.{left_from}
use Rattle.rows.proofs.table.write_states.Given as goal

abbrev pub invariant-loop-q : goal.invariant-loop-q
invariant-loop-q l =
    let b = l.column.rows.bytes.now in
    StillToWrite (component_part b l.column.j) (left_from (state_part b l.column.j) ((product_of b).component l.column.j).states l.q) l.fn.out l.out l.used
