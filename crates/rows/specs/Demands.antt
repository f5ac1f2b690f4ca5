-- The demands of document 02, request 1, sentence by sentence (B1 to B10, R13, R15 to R17, O8). Each speaks of any product, answer and
-- output of which the call's promise holds (specs/Calls: the `ensures` of `rows`). That the call ends and keeps its promise for every input
-- is what the check of its code proves. For C: oatmist/specs/Demands.
-- Assumes nothing.
use Rattle.std.specs.Prelude.{◌≡◌, ◌↔◌, true, false, ℕ, ◌<◌, ◌≤◌, length, take, drop}
use mathlib.Core.List.{List, [], ◌∷◌, ◌++◌, Memᴰ}
use Rattle.std.proofs.Math.Option.{some}
use Rattle.sets.specs.Bits.{member, set_of}
use Rattle.systems.specs.Tables.{Transition}
use Rattle.systems.specs.Interleaving.{Global, ExecutionThrough}
use Rattle.systems.specs.Independence.{dependent}
use Rattle.sheet.specs.Layout.{component_count, action_count, tables, steps}
use Rattle.sheet.specs.Verdict.{Accepted}
use Rattle.answers.specs.declared.Refusal.{Refusal}
use Rattle.answers.specs.declared.Answer.{Answer}
use Rattle.answers.specs.FirstRefusal.{AtMostOne, NumberOr}
use Rattle.answers.specs.SheetExecution.{system_in}
use Rattle.products.specs.Product.{Product, Fired, TakesPart, Independent}
use Rattle.products.specs.ProductBytes.{product_of}
use Rattle.products.specs.ProductRefusals.{WellFormed, BadRow, IdleComponent}
use Rattle.products.specs.ProductSheet.{product_sheet}
use Rattle.rows.specs.Calls.{RowsAnswer, RowsRefusal}

-- R15, R16, R17: none of the three holds of the product
pub record NoneHolds (b : List ℕ) : Type 0 where
  pub well_formed : WellFormed b
  pub no_bad_row : ¬ BadRow (product_of b)
  pub no_idle_component : ¬ IdleComponent (product_of b)

-- so many bytes serve for every product, so that 13 is never told (R13): rows_serves_room below
abbrev pub rows_room : ℕ
rows_room = 4362

-- w is what a call of rows wrote for the product b (B6)
pub record RowsWrote (b w : List ℕ) : Type 0 where
  pub lent : List ℕ
  pub left : List ℕ
  pub count : ℕ
  pub call : RowsAnswer b lent (Answer.Given count) left
  pub bytes : w ≡ take count left

-- B9: the transition is the one that a row names for one of the components; its label is the number of the row
pub record RowNames (P : Product) (t : Transition) : Type 0 where
  pub number : ℕ
  pub component_below : t.component < P.components
  pub row_below : t.label < P.rows
  pub named : P.takes t.label t.component ≡ some number
  pub source_told : t.source ≡ (P.component t.component).source number
  pub target_told : t.target ≡ (P.component t.component).target number

-- D1, of products given by rows: how many bytes were written, or the one refusal that is due (O8); and every byte of the output afterwards
pub record RowsDemand : Type 0 where
  -- the first of 15, 16, 17 and 13 that holds, exactly where one holds; else a number
  pub rows_answers : (b out left : List ℕ) (r : Answer) → RowsAnswer b out r left → NumberOr (RowsRefusal b (length out)) r
  pub at_most_one : (b : List ℕ) (room : ℕ) → AtMostOne (RowsRefusal b room)
  -- R13: an output of exactly the length serves
  pub rows_serves : (b out left : List ℕ) (r : Answer) → RowsAnswer b out r left → NoneHolds b
      → length (product_sheet (product_of b)) ≤ length out → r ≡ Answer.Given (length (product_sheet (product_of b)))
  -- R13: an output of rows_room bytes always serves
  pub rows_serves_room : (b out left : List ℕ) (r : Answer) → RowsAnswer b out r left → NoneHolds b → rows_room ≤ length out
      → r ≡ Answer.Given (length (product_sheet (product_of b)))
  -- B6: the sheet stands in front, and the bytes behind it keep their values
  pub rows_writes : (b out left : List ℕ) (k : ℕ) → RowsAnswer b out (Answer.Given k) left
      → (k ≡ length (product_sheet (product_of b))) × (left ≡ product_sheet (product_of b) ++ drop k out)
  -- O5: a refused call leaves the output as it came
  pub refused_untouched : (b out left : List ℕ) (r : Refusal) (i s : ℕ) → RowsAnswer b out (Answer.Refused r i s) left → left ≡ out

-- B3, B4, B7 to B10: of the bytes that calls of rows wrote.
pub record WrittenDemand : Type 0 where
  -- a sheet is written only where none of 15, 16 and 17 holds, and it is the sheet of the definition
  pub written_due : (b w : List ℕ) → RowsWrote b w → NoneHolds b
  pub written_sheet : (b w : List ℕ) → RowsWrote b w → w ≡ product_sheet (product_of b)
  -- B10: the desk accepts it, and it has no steps
  pub written_accepted : (b w : List ℕ) → RowsWrote b w → Accepted w
  pub written_no_steps : (b w : List ℕ) → RowsWrote b w → steps w ≡ []
  -- B7, B8: its components are those of the product, with their states and their one initial state; its actions are the rows
  pub written_counts : (b w : List ℕ) → RowsWrote b w
      → (component_count w ≡ (product_of b).components) × (action_count w ≡ (product_of b).rows)
  pub written_states : (b w : List ℕ) → RowsWrote b w → (j : ℕ) → j < (product_of b).components
      → (tables w).states j ≡ ((product_of b).component j).states
  pub written_initial : (b w : List ℕ) → RowsWrote b w → (j : ℕ) → j < (product_of b).components
      → (tables w).initial j ≡ set_of (((product_of b).component j).initial ∷ [])
  -- B7: action g is in the alphabet of each component that is not idle in row g, and in no other
  pub written_alphabets : (b w : List ℕ) → RowsWrote b w → (g j : ℕ) → j < (product_of b).components
      → (member ((tables w).alphabet j) g ≡ true) ↔ ((g < (product_of b).rows) × TakesPart (product_of b) g j)
  -- B9: its transitions are those that the rows name, and no others
  pub written_transitions : (b w : List ℕ) → RowsWrote b w → (t : Transition)
      → Memᴰ t (tables w).transitions ↔ RowNames (product_of b) t
  -- B3: a list of rows can be fired through these states exactly when it is an interleaving execution of the sheet (001, definition 2),
  -- with these actions and the same global state after each
  pub fired_exactly : (b w : List ℕ) → RowsWrote b w → (gs : List ℕ) (ts : List Global)
      → Fired (product_of b) gs ts ↔ ExecutionThrough (system_in w) gs ts
  -- B4: two rows are independent in the sense of 002 exactly when the two actions are independent by the sheet
  pub independent_exactly : (b w : List ℕ) → RowsWrote b w → (g h : ℕ) → g < (product_of b).rows → h < (product_of b).rows
      → Independent (product_of b) g h ↔ (dependent (tables w) g h ≡ false)
