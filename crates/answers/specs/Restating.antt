-- Restating into lent bytes: what is answered, and every byte of the output afterwards (N9; document 01, the restated sheet).
-- Assumes nothing.
use Rattle.std.specs.Prelude.{List, ℕ, length}
use Rattle.sheet.specs.Verdict.{verdict}
use Rattle.answers.specs.Outcomes.{Outcome, after}
use Rattle.answers.specs.LentOutput.{length_or13, output_by}
use Rattle.answers.specs.Restated.{restated}

-- how many bytes are written for the sheet b into an output of `size` bytes: refusals 1 to 12 first, then 13
unfoldable pub restating : List ℕ → ℕ → Outcome ℕ
restating b size = after (verdict b) (length_or13 (restated b) size)

-- the output afterwards
unfoldable pub output_after : List ℕ → List ℕ → List ℕ
output_after b out = output_by (restating b (length out)) (restated b) out
