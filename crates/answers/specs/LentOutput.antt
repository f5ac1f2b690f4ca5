-- A text handed over in bytes that the caller lends: refusal 13, and every byte of the output afterwards (R13, O5, N9; document 01,
-- refusal 13 and the restated sheet). Every call that writes uses this.
-- Assumes nothing.
use Rattle.std.specs.Prelude.{Bool, true, false, List, ℕ, ltb, length}
use Rattle.sets.specs.Lists.{over}
use Rattle.answers.specs.Outcomes.{Outcome, given, refused}

-- refusal 13 where the output is too short, else the length k (R13)
abbrev pub unless_short : Bool → ℕ → Outcome ℕ
unless_short true k = refused 13 0 0
unless_short false k = given k

-- R13: how many bytes are written into an output of `size` bytes: all of the text, or 13 where it is longer than the output
unfoldable pub length_or13 : List ℕ → ℕ → Outcome ℕ
length_or13 text size = unless_short (ltb size (length text)) (length text)

-- O5, N9: the output afterwards: the text in front and the bytes behind it as they were, or all as it came
abbrev pub output_by : Outcome ℕ → List ℕ → List ℕ → List ℕ
output_by (given k) text out = over text out
output_by (refused k i s) text out = out
