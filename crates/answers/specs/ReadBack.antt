-- P1 to P5: the printed text read back: its lines, and the words of each line. What is printed is said here without how it is made. The
-- words fix the text, and each number is printed as its decimal, which `Decimals` fixes: so no line, no number, no digit, no space and no
-- line feed of any report is left out, changed or added.
-- Assumes nothing.
use Rattle.std.specs.Prelude.{◌≡◌, cond, List, [], ◌∷◌, ◌++◌, map, ℕ, eqb, length}
use Rattle.sets.specs.Lists.{below}
use Rattle.sets.specs.Bits.{members}
use Rattle.sheet.specs.Layout.{component_count, step_count}
use Rattle.sheet.specs.Verdict.{Verdict, verdict, Accepted}
use Rattle.answers.specs.Outcomes.{bit}
use Rattle.answers.specs.Ends.{end_set}
use Rattle.answers.specs.Restated.{restated_steps}
use Rattle.answers.specs.Figure.{figure}
use Rattle.answers.specs.Stuck.{stuck}
use Rattle.answers.specs.Report.{decimal, accepted_word, refused_word, step_word, end_word, report}

-- one character before the first word of the first line
abbrev before : ℕ → List (List (List ℕ)) → List (List (List ℕ))
before c [] = ((c ∷ []) ∷ []) ∷ []
before c ([] ∷ ls) = ((c ∷ []) ∷ []) ∷ ls
before c ((w ∷ ws) ∷ ls) = ((c ∷ w) ∷ ws) ∷ ls

-- an empty word before the first line
abbrev space : List (List (List ℕ)) → List (List (List ℕ))
space [] = ([] ∷ []) ∷ []
space (l ∷ ls) = ([] ∷ l) ∷ ls

-- P1: the lines of a text, of each line its words: a line feed, 10, parts two lines, and a space, 32, parts two words. Where a text ends in
-- a line feed, nothing stands behind it: the last line is one empty word
unfoldable pub words_of : List ℕ → List (List (List ℕ))
words_of [] = ([] ∷ []) ∷ []
words_of (c ∷ cs) = cond (eqb c 10) (([] ∷ []) ∷ words_of cs) (cond (eqb c 32) (space (words_of cs)) (before c (words_of cs)))

-- a line: its first word, and the numbers that the others tell (P1)
pub record Line : Type 0 where
  pub word : List ℕ
  pub numbers : List ℕ

-- the words of a line: the first, and each number in decimal (P1)
abbrev pub line_words : Line → List (List ℕ)
line_words l = l.word ∷ map decimal l.numbers

-- the words of a text of such lines, where each ends in a line feed and nothing stands behind the last one (P1)
abbrev pub lines_words : List Line → List (List (List ℕ))
lines_words ls = map line_words ls ++ (([] ∷ []) ∷ [])

-- P1 to P5: what is read in the text of any sheet
pub record TextReads : Type 0 where
  -- P1: no two texts have the same words
  pub words_fix : (s t : List ℕ) → words_of s ≡ words_of t → s ≡ t
  -- P2: of a refused sheet one line, with number and step index
  pub refused_read : (b : List ℕ) (k i : ℕ) → verdict b ≡ Verdict.refused k i
      → words_of (report b) ≡ lines_words (record { word = refused_word; numbers = k ∷ i ∷ [] } ∷ [])
  -- P3 to P5: of an accepted one the steps, the restated steps, the figure and whether it is stuck; then each restated step; then each
  -- component with its end set
  pub accepted_read : (b : List ℕ) → Accepted b
      → words_of (report b)
      ≡ lines_words
      (record { word = accepted_word; numbers = step_count b ∷ length (restated_steps b) ∷ figure b ∷ bit (stuck b) ∷ [] }
      ∷ (map (λ x. record { word = step_word; numbers = members x }) (restated_steps b)
      ++ map (λ j. record { word = end_word; numbers = j ∷ members (end_set b j) }) (below (component_count b))))
