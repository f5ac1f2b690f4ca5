-- The lines of the components from the index on are still to be written (P5).
use Rattle.std.proofs.Common.{◌∷◌, ◌-◌, length, get_or}
use Rattle.sets.specs.Lists.{below, upward}
use Rattle.sets.specs.Bits.{members}
use Rattle.answers.specs.Report.{line, end_word}
use Rattle.report.proofs.text.Appending.{StillToWrite}
use Rattle.report.proofs.text.Text.ends.Given as goal

abbrev pub invariant-loop-j : goal.invariant-loop-j
invariant-loop-j l =
    StillToWrite (λ j. line end_word (j ∷ members (get_or l.fn.sets j 0))) (below (length l.fn.sets)) (upward l.j (length l.fn.sets - l.j)) l.fn.self l.self
