-- P2 to P5: what the report of a refused and of an accepted sheet consists of.
-- Assumes nothing.
use mathlib.Core.Path.{◌≡◌}
use mathlib.Core.List.{List, [], ◌∷◌, ◌++◌}
use Prim.Native.Nat.{ℕ}
use Rattle.sheet.specs.Verdict.{Verdict, verdict, Accepted}
use Rattle.answers.specs.Report.{refused_word, line, summary_line, step_lines, end_lines, report}

-- P2: a refused sheet gets one line, with the number of the refusal and the step index
pub report_refused : (b : List ℕ) (k i : ℕ) → verdict b ≡ Verdict.refused k i → report b ≡ line refused_word (k ∷ i ∷ [])
unfolding report
report_refused b k i e = rw e

-- P3 to P5: an accepted sheet gets the summary line, the lines of the restated steps and those of the end sets
pub report_accepted : (b : List ℕ) → Accepted b → report b ≡ summary_line b ++ (step_lines b ++ end_lines b)
unfolding report
report_accepted b acc = rw acc
