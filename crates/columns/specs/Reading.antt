-- V2, R18: columns as they are read from bytes, and a test whether bytes are columns. That the columns read are the only ones, and that the
-- test decides R18, are theorems (`columns_read`, `legible_exact`).
-- Assumes nothing.
use Rattle.std.specs.Prelude.{Bool, ◌&&◌, List, [], ◌∷◌, ℕ, zero, suc, leb, length, take, drop, get_or}
use Rattle.sets.specs.Lists.{all_of, append_all, below}
use Rattle.sets.specs.Bits.{member}
use Rattle.sheet.specs.Bounds.{most_in_steps}
use Rattle.sheet.specs.Numbers.{number}
use Rattle.sheet.specs.Layout.{component_count, tables}
use Rattle.sheet.specs.Refusals.{same_numbers}
use Rattle.columns.specs.ColumnBytes.{columns_bytes}

-- V2: the first column in some bytes: as many labels as the first two bytes tell, or all where there are fewer
abbrev pub first_column : List ℕ → List ℕ
first_column d = take (number (take 2 d)) (drop 2 d)

-- V2: the bytes behind it
abbrev pub behind_first : List ℕ → List ℕ
behind_first d = drop (number (take 2 d)) (drop 2 d)

-- V2: the first n columns
abbrev pub read_columns : ℕ → List ℕ → List (List ℕ)
read_columns zero d = []
read_columns (suc n) d = first_column d ∷ read_columns n (behind_first d)

-- R18, L6: the columns have few enough labels together
abbrev pub few_labels : List (List ℕ) → Bool
few_labels cs = leb (length (append_all cs)) most_in_steps

-- R18: every label of every column is in the alphabet of its component
abbrev pub labels_own : List ℕ → List (List ℕ) → Bool
labels_own b cs = all_of (λ j. let x = (tables b).alphabet j in all_of (member x) (get_or cs j [])) (below (component_count b))

-- R18: the bytes are those of the columns, these have few enough labels, and each is in its alphabet
abbrev pub are_columns : List ℕ → List ℕ → List (List ℕ) → Bool
are_columns b d cs = same_numbers (columns_bytes cs) d && (few_labels cs && labels_own b cs)

-- R18: this holds of the columns that are read in the bytes
unfoldable pub legible : List ℕ → List ℕ → Bool
legible b d = are_columns b d (read_columns (component_count b) d)
