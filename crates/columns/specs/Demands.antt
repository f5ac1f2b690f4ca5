-- The demands of document 02, request 3, sentence by sentence (V1 to V5, R13, R18, R19, O9). Each speaks of any sheet, columns, answer and
-- output of which the call's promise holds (specs/Calls: the `ensures` of `merging::columns`). That the call ends and keeps its promise for
-- every input is what the check of its code proves. For C: oatmist/specs/Demands.
-- Assumes nothing.
use Rattle.std.specs.Prelude.{◌≡◌, ◌↔◌, Bool, ℕ, ◌<◌, ◌≤◌, length, take, drop, get_or}
use mathlib.Core.List.{List, [], ◌++◌, Memᴰ}
use Rattle.sets.specs.Lists.{append_all}
use Rattle.traces.specs.Words.{Dependence, Related}
use Rattle.traces.specs.Projections.{Covers, AllDependent, SameProjections}
use Rattle.systems.specs.Tables.{WordOver}
use Rattle.systems.specs.Running.{start}
use Rattle.systems.specs.Checking.{Runs}
use Rattle.sheet.specs.Bounds.{longest, most_in_steps}
use Rattle.sheet.specs.Layout.{component_count, tables, steps}
use Rattle.sheet.specs.Verdict.{Accepted}
use Rattle.answers.specs.declared.Answer.{Answer}
use Rattle.answers.specs.Outcomes.{TellsRefusal}
use Rattle.answers.specs.FirstRefusal.{AtMostOne, NumberOr}
use Rattle.answers.specs.Related.{SameTables, RelatedSheets}
use Rattle.answers.specs.Restated.{restated}
use Rattle.answers.specs.SheetExecution.{ProcessIn}
use Rattle.columns.specs.Columns.{column, columns}
use Rattle.columns.specs.ColumnBytes.{columns_bytes}
use Rattle.columns.specs.ColumnRefusals.{ColumnsIn, Legible, HasColumns, Executable}
use Rattle.columns.specs.Calls.{ColumnsAnswer, ColumnsRefusal}

-- w is what a call wrote for the sheet b and the columns in d (V3)
pub record ColumnsWrote (b d w : List ℕ) : Type 0 where
  pub lent : List ℕ
  pub left : List ℕ
  pub count : ℕ
  pub call : ColumnsAnswer b d lent (Answer.Given count) left
  pub bytes : w ≡ take count left

-- D1, of columns: how many bytes were written, or the one refusal that is due (O9); and every byte of the output afterwards
pub record ColumnsDemand : Type 0 where
  -- the first of 1 to 12, 18, 19 and 13 that holds, exactly where one holds; else a number
  pub columns_answers : (b d out left : List ℕ) (r : Answer) → ColumnsAnswer b d out r left
      → NumberOr (ColumnsRefusal b d (length out)) r
  pub at_most_one : (b d : List ℕ) (room : ℕ) → AtMostOne (ColumnsRefusal b d room)
  -- C1: the promise leaves nothing to choice
  pub answer_fixed : (b d out left kept : List ℕ) (r s : Answer) → ColumnsAnswer b d out r left → ColumnsAnswer b d out s kept
      → (r ≡ s) × (left ≡ kept)
  -- R19: told exactly where no accepted sheet with the tables of b has the columns cs
  pub nineteen_exactly : (b d out left : List ℕ) (r : Answer) → ColumnsAnswer b d out r left → Accepted b
      → (cs : List (List ℕ)) → ColumnsIn b d cs → TellsRefusal r 19 0 0 ↔ (¬ Executable b cs)
  -- R19: never because of a limit: where a list of actions has the columns and each is enabled when its turn comes, some accepted sheet has
  -- them
  pub limits_never : (b d : List ℕ) → Accepted b → (cs : List (List ℕ)) → ColumnsIn b d cs → (w : List ℕ) → WordOver (tables b) w
      → ((j : ℕ) → j < component_count b → column (tables b) w j ≡ get_or cs j []) → Runs (tables b) (start (tables b)) w → Executable b cs
  -- R18: told exactly where the bytes are no columns
  pub eighteen_exactly : (b d out left : List ℕ) (r : Answer) → ColumnsAnswer b d out r left → Accepted b
      → TellsRefusal r 18 0 0 ↔ (¬ Legible b d)
  -- R13: an output of exactly the length of the restated form serves, of whichever sheet has the columns; 16,650 bytes always do
  pub columns_serves : (b d out left : List ℕ) (r : Answer) → ColumnsAnswer b d out r left → Accepted b
      → (cs : List (List ℕ)) → ColumnsIn b d cs → (c : List ℕ) → HasColumns b cs c → length (restated c) ≤ length out
      → r ≡ Answer.Given (length (restated c))
  pub columns_serves_room : (b d out left : List ℕ) (r : Answer) → ColumnsAnswer b d out r left → Accepted b
      → (cs : List (List ℕ)) → ColumnsIn b d cs → (c : List ℕ) → HasColumns b cs c → longest ≤ length out
      → r ≡ Answer.Given (length (restated c))
  -- V3: what is written is the restated form of every accepted sheet over the tables that has the columns, and there is one; the bytes
  -- behind it keep their values
  pub columns_writes : (b d out left : List ℕ) (k : ℕ) → ColumnsAnswer b d out (Answer.Given k) left
      → (cs : List (List ℕ)) → ColumnsIn b d cs → (c : List ℕ) → HasColumns b cs c
      → (k ≡ length (restated c)) × (left ≡ restated c ++ drop k out)
  pub some_has : (b d out left : List ℕ) (k : ℕ) → ColumnsAnswer b d out (Answer.Given k) left
      → Accepted b × ((cs : List (List ℕ)) × ColumnsIn b d cs × Executable b cs)
  -- O5: a refused call leaves the output as it came
  pub refused_untouched : (b d out left : List ℕ) (r : Answer) (k i s : ℕ) → ColumnsAnswer b d out r left → TellsRefusal r k i s → left ≡ out
  -- V4: the steps of the sheet play no part
  pub steps_play_no_part : (b c d out left : List ℕ) (r : Answer) → Accepted b → Accepted c → SameTables b c
      → ColumnsAnswer b d out r left → ColumnsAnswer c d out r left

-- V2, V3, V5: of the bytes that calls wrote, and of the columns of sheets.
pub record WrittenDemand : Type 1 where
  -- V3: what was written is an accepted process execution over the tables of the sheet (Q8), and its own columns are the given ones
  pub written_accepted : (b d w : List ℕ) → ColumnsWrote b d w → Accepted w
  pub written_tables : (b d w : List ℕ) → ColumnsWrote b d w → SameTables b w
  pub written_process : (b d w : List ℕ) → ColumnsWrote b d w → ProcessIn w
  pub written_columns : (b d w : List ℕ) → ColumnsWrote b d w → d ≡ columns_bytes (columns w)
  -- D3: it is its own restated form
  pub written_again : (b d w : List ℕ) → ColumnsWrote b d w → restated w ≡ w
  -- V5: accepted sheets over the same tables have the same columns exactly when they are related
  pub same_columns : (b c : List ℕ) → Accepted b → Accepted c → SameTables b c → (columns b ≡ columns c) ↔ RelatedSheets b c
  -- V3: the columns of an accepted sheet that hold few enough labels (R18) give back its restated form
  pub own_columns : (b out left : List ℕ) (r : Answer) → Accepted b → length (append_all (columns b)) ≤ most_in_steps
      → length (restated b) ≤ length out → ColumnsAnswer b (columns_bytes (columns b)) out r left
      → (r ≡ Answer.Given (length (restated b))) × (take (length (restated b)) left ≡ restated b)
  -- V3: where all columns are empty, some sheet has them, and what is written is the sheet without steps
  pub no_labels_had : (b d : List ℕ) → Accepted b → (cs : List (List ℕ)) → ColumnsIn b d cs → ((j : ℕ) → get_or cs j [] ≡ []) → Executable b cs
  pub no_labels : (b d w : List ℕ) → ColumnsWrote b d w → (cs : List (List ℕ)) → ColumnsIn b d cs → ((j : ℕ) → get_or cs j [] ≡ [])
      → steps w ≡ []

-- V5: what carries it, for any dependence
pub record ProjectionDemand : Type 0 where
  -- over any alphabets that cover it: words whose projections to each alphabet are the same are related by swaps
  pub projections_tell : (dep : ℕ → ℕ → Bool) → Dependence dep → (count : ℕ) (has : ℕ → ℕ → Bool) (m : ℕ) → Covers dep count has m
      → (u v : List ℕ) → ((a : ℕ) → Memᴰ a u → a < m) → ((a : ℕ) → Memᴰ a v → a < m)
      → SameProjections count has u v → Related dep u v
  -- over any alphabets of which none has two independent actions: no swap changes a projection
  pub projections_kept : (dep : ℕ → ℕ → Bool) (count : ℕ) (has : ℕ → ℕ → Bool) → AllDependent dep count has → (u v : List ℕ)
      → Related dep u v → SameProjections count has u v
