-- The lines of the steps from the index on are still to be written (P4).
use Rattle.std.proofs.Common.{drop}
use Rattle.sets.specs.Bits.{members}
use Rattle.answers.specs.Report.{line, step_word}
use Rattle.report.proofs.text.Appending.{StillToWrite}
use Rattle.report.proofs.text.Text.steps.Given as goal

abbrev pub invariant-loop-step : goal.invariant-loop-step
invariant-loop-step l = StillToWrite (λ x. line step_word (members x)) l.steps (drop l.step-index l.steps) l.fn.self l.self
