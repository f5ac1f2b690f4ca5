-- R15: the components passed stand, and the next one begins at `at`.
use Rattle.rows.proofs.components.Reading.{ReadUpTo}
use Rattle.rows.proofs.components.read_components.Given as goal

abbrev pub invariant-loop-part : goal.invariant-loop-part
invariant-loop-part l = ReadUpTo l.product l.part-items l.at l.part-index
