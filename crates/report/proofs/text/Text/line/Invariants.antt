-- Of the numbers those from the index on are still to be written, behind the word and those before them (P1).
use Rattle.std.proofs.Common.{◌++◌, drop}
use Rattle.answers.specs.Report.{part}
use Rattle.report.proofs.text.Appending.{StillToWrite}
use Rattle.report.proofs.text.Text.line.Given as goal

abbrev pub invariant-loop-x : goal.invariant-loop-x
invariant-loop-x l = StillToWrite part l.xs (drop l.x-index l.xs) (l.fn.self ++ l.word) l.self
