-- B9: of the rows those that are left are still to be written.
use Rattle.sets.specs.Bits.{members}
use Rattle.writing.proofs.Sections.{StillToWrite}
use Rattle.rows.specs.table.Parts.{state_part}
use Rattle.rows.proofs.table.Leaving.{Within, text}
use Rattle.rows.proofs.table.write_leaving.Given as goal

abbrev pub invariant-loop-g : goal.invariant-loop-g
invariant-loop-g l = record {
  within : Within l.g-iterator.left l.fn.rows;
  written : StillToWrite (state_part l.column.rows.bytes.now l.column.j l.q) (text l.column.rows.bytes.now l.column.j l.q (members l.g-iterator.left))
      l.fn.out l.out l.used;
}
