-- A word of actions, each a step of its own, over the tables of an accepted sheet: run and restated (V3, R19); and what is answered of columns
-- that were read.
-- Assumes nothing.
use Rattle.std.specs.Prelude.{◌≡◌, List, map, ℕ, ◌*◌, ◌≤◌, length}
use Rattle.std.proofs.Math.Option.{none}
use Rattle.systems.specs.Tables.{WordOver}
use Rattle.systems.specs.Running.{start}
use Rattle.systems.specs.Checking.{first_fault}
use Rattle.sheet.specs.Bounds.{step_size, most_steps, most_in_steps}
use Rattle.sheet.specs.Layout.{tables}
use Rattle.sheet.specs.Sections.{steps_in}
use Rattle.answers.specs.declared.Answer.{Answer}
use Rattle.answers.specs.Outcomes.{refused, outcome_of}
use Rattle.answers.specs.Restated.{with_steps}
use Rattle.desk.specs.Calls.{RestateAnswer}
use Rattle.columns.specs.ColumnRefusals.{ColumnsIn}
use Rattle.columns.specs.Merging.{single}
use Rattle.columns.specs.Calls.{ColumnsAnswer}

-- the section has a word over the actions of the sheet b, each a step of its own (S5); it is not too long (L5, L6)
pub record WordGiven (b section : List ℕ) : Type 0 where
  pub word : List ℕ
  pub word_over : WordOver (tables b) word
  pub word_few : length word ≤ most_in_steps
  pub section_told : steps_in section ≡ map single word
  pub section_short : length section ≤ step_size * most_steps

-- R19, V3: 19 where the section has a fault, and the output as it came; else what restating the sheet with the section answers and writes
pub data WordAnswer (b section out : List ℕ) (r : Answer) (after : List ℕ) : Type 0 where
  -- R19: a step cannot be executed
  faulty : (¬ (first_fault (tables b) (start (tables b)) 0 (steps_in section) ≡ none)) → outcome_of r ≡ refused 19 0 0 → after ≡ out
      → WordAnswer b section out r after
  -- V3, R13
  runs : first_fault (tables b) (start (tables b)) 0 (steps_in section) ≡ none → RestateAnswer (with_steps b (steps_in section)) out r after
      → WordAnswer b section out r after

-- R18, V2: some bytes hold these columns for the sheet b
abbrev pub SomeColumns : List ℕ → List (List ℕ) → Type 0
SomeColumns b cs = (d : List ℕ) × ColumnsIn b d cs

-- V3, R19, R13: what is answered of any bytes that hold these columns
abbrev pub MergedAnswer : List ℕ → List (List ℕ) → List ℕ → Answer → List ℕ → Type 0
MergedAnswer b cs out r after = (d : List ℕ) → ColumnsIn b d cs → ColumnsAnswer b d out r after
