-- The elements that are left are still to be written (P4, P5).
use Rattle.sets.specs.Bits.{members}
use Rattle.answers.specs.Report.{part}
use Rattle.report.proofs.text.Appending.{StillToWrite}
use Rattle.report.proofs.text.Text.members.Given as goal

abbrev pub invariant-loop-i : goal.invariant-loop-i
invariant-loop-i l = StillToWrite part (members l.fn.x) (members l.i-iterator.left) l.fn.self l.self
