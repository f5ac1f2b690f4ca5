-- The refusals of columns, each by its own condition (R18, R19; document 02, request 3).
-- Assumes nothing.
use Rattle.std.specs.Prelude.{◌≡◌, true, ℕ, ◌<◌, ◌≤◌, length, get_or}
use mathlib.Core.List.{List, [], Memᴰ}
use Rattle.sets.specs.Lists.{append_all}
use Rattle.sets.specs.Bits.{member}
use Rattle.sheet.specs.Bounds.{most_in_steps}
use Rattle.sheet.specs.Layout.{component_count, tables}
use Rattle.sheet.specs.Verdict.{Accepted}
use Rattle.answers.specs.Related.{SameTables}
use Rattle.columns.specs.Columns.{columns}
use Rattle.columns.specs.ColumnBytes.{columns_bytes}

-- R18: what it asks, of n components with these alphabets: the bytes d are filled by the columns cs, one for each component; these hold at
-- most 1,024 labels together (L6), and each label is in the alphabet of its component
pub record FilledBy (d : List ℕ) (n : ℕ) (alphabet : ℕ → ℕ) (cs : List (List ℕ)) : Type 0 where
  pub filled : d ≡ columns_bytes cs
  pub one_each : length cs ≡ n
  pub few : length (append_all cs) ≤ most_in_steps
  pub own : (j : ℕ) → j < n → (a : ℕ) → Memᴰ a (get_or cs j []) → member (alphabet j) a ≡ true

-- R18: of the components of the sheet b
abbrev pub ColumnsIn : List ℕ → List ℕ → List (List ℕ) → Type 0
ColumnsIn b d cs = FilledBy d (component_count b) (tables b).alphabet cs

-- R18 does not hold: the bytes d are filled by such columns
abbrev pub Legible : List ℕ → List ℕ → Type 0
Legible b d = (cs : List (List ℕ)) × ColumnsIn b d cs

-- R19: c is an accepted sheet over the tables of b, and its columns are cs
pub record HasColumns (b : List ℕ) (cs : List (List ℕ)) (c : List ℕ) : Type 0 where
  pub accepted : Accepted c
  pub same_tables : SameTables b c
  pub same_columns : columns c ≡ cs

-- R19 does not hold: some accepted sheet over the tables of b has the columns cs
abbrev pub Executable : List ℕ → List (List ℕ) → Type 0
Executable b cs = (c : List ℕ) × HasColumns b cs c
