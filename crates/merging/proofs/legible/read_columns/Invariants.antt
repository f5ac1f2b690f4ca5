-- R18: the columns before the index are read.
use Rattle.merging.specs.legible.Reading.{labels_of}
use Rattle.merging.proofs.legible.Reading.{ReadUpTo}
use Rattle.merging.proofs.legible.read_columns.Given as goal

abbrev pub invariant-loop-j : goal.invariant-loop-j
invariant-loop-j l = ReadUpTo l.columns l.components (labels_of l.left) l.behind l.j
