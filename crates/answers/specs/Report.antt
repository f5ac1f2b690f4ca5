-- The whole text that the program prints, byte for byte (P1 to P5; document 01, around the restated sheet). A line is a word and numbers in
-- decimal, each behind one space, and ends in a line feed.
-- Assumes nothing.
use Rattle.std.specs.Prelude.{List, [], ◌∷◌, ◌++◌, map, ℕ, zero, suc, ◌+◌, ◌/◌, ◌%◌, length}
use Rattle.sets.specs.Lists.{append_all, below}
use Rattle.sets.specs.Bits.{members}
use Rattle.sheet.specs.Layout.{component_count, step_count}
use Rattle.sheet.specs.Verdict.{Verdict, accepted, refused, verdict}
use Rattle.answers.specs.Outcomes.{Outcome, bit}
use Rattle.answers.specs.LentOutput.{length_or13, output_by}
use Rattle.answers.specs.Ends.{end_set}
use Rattle.answers.specs.Restated.{restated_steps}
use Rattle.answers.specs.Figure.{figure}
use Rattle.answers.specs.Stuck.{stuck}

-- the decimal digits of x, none for 0, before the text so far; at most k of them (P1)
abbrev pub digits_before : ℕ → ℕ → List ℕ → List ℕ
digits_before zero x text = text
digits_before (suc k) zero text = text
digits_before (suc k) (suc x) text = digits_before k (suc x / 10) ((48 + suc x % 10) ∷ text)

-- P1: a number in decimal; a number has at most as many digits as it counts, so none is left out
abbrev pub decimal : ℕ → List ℕ
decimal zero = 48 ∷ []
decimal (suc x) = digits_before (suc x) (suc x) []

-- P3: the word accepted
abbrev pub accepted_word : List ℕ
accepted_word = 97 ∷ 99 ∷ 99 ∷ 101 ∷ 112 ∷ 116 ∷ 101 ∷ 100 ∷ []

-- P2: the word refused
abbrev pub refused_word : List ℕ
refused_word = 114 ∷ 101 ∷ 102 ∷ 117 ∷ 115 ∷ 101 ∷ 100 ∷ []

-- P4: the word step
abbrev pub step_word : List ℕ
step_word = 115 ∷ 116 ∷ 101 ∷ 112 ∷ []

-- P5: the word end
abbrev pub end_word : List ℕ
end_word = 101 ∷ 110 ∷ 100 ∷ []

-- P1: a space and the number
abbrev pub part : ℕ → List ℕ
part x = 32 ∷ decimal x

-- P1: a line: its word, its numbers, a line feed
abbrev pub line : List ℕ → List ℕ → List ℕ
line word xs = word ++ (append_all (map part xs) ++ (10 ∷ []))

-- P3: the first line of an accepted sheet, K C F D: its steps, its restated steps, the figure, and 1 for stuck or 0
unfoldable pub summary_line : List ℕ → List ℕ
summary_line b = line accepted_word (step_count b ∷ length (restated_steps b) ∷ figure b ∷ bit (stuck b) ∷ [])

-- a line for each of some steps, with its actions, rising (P4)
abbrev pub step_texts : List ℕ → List ℕ
step_texts xs = append_all (map (λ x. line step_word (members x)) xs)

-- a line for each of some components: its index and the states of the set that it holds, rising (P5)
abbrev pub end_texts : (ℕ → ℕ) → List ℕ → List ℕ
end_texts held js = append_all (map (λ j. line end_word (j ∷ members (held j))) js)

-- P4: the lines of the restated steps
unfoldable pub step_lines : List ℕ → List ℕ
step_lines b = step_texts (restated_steps b)

-- P5: the lines of all components, with their end sets
unfoldable pub end_lines : List ℕ → List ℕ
end_lines b = end_texts (end_set b) (below (component_count b))

-- the line of a refused sheet (P2); of an accepted one the text that is given
abbrev pub report_by : Verdict → List ℕ → List ℕ
report_by (refused k i) text = line refused_word (k ∷ i ∷ [])
report_by accepted text = text

-- P2: one line with number and step index for a refused sheet; the three kinds of lines for an accepted one
unfoldable pub report : List ℕ → List ℕ
report b = report_by (verdict b) (summary_line b ++ (step_lines b ++ end_lines b))

-- so many bytes serve for every text, so that 13 is never told (R13): report_serves (report/Demands)
abbrev pub report_room : ℕ
report_room = 16384

-- how many bytes are printed for the sheet b into an output of `size` bytes, or 13 (R13)
unfoldable pub reporting : List ℕ → ℕ → Outcome ℕ
reporting b size = length_or13 (report b) size

-- the output afterwards (O5)
unfoldable pub report_output : List ℕ → List ℕ → List ℕ
report_output b out = output_by (reporting b (length out)) (report b) out
