-- B9: of the rows those that are left are still to be entered.
use Rattle.rows.proofs.table.Leaving.{LeavingSoFar}
use Rattle.rows.proofs.table.find_leaving.Given as goal

abbrev pub invariant-loop-g : goal.invariant-loop-g
invariant-loop-g l = LeavingSoFar l.column.rows.bytes.now l.column.j l.g-iterator.left l.leaving
