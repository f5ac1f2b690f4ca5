-- V2: columns in bytes (document 02, request 3): for each component in turn how many labels it has, in two bytes, the low byte in front;
-- then the labels, a byte each.
-- Assumes nothing.
use Rattle.std.specs.Prelude.{List, ◌++◌, map, ℕ, length}
use Rattle.sets.specs.Lists.{append_all}
use Rattle.sheet.specs.Numbers.{bytes}

-- V2: how many bytes the number of labels has
abbrev pub count_size : ℕ
count_size = 2

-- V2: the bytes of one column
abbrev pub column_bytes : List ℕ → List ℕ
column_bytes c = bytes count_size (length c) ++ c

-- V2: the bytes of all columns, one behind another
abbrev pub columns_bytes : List (List ℕ) → List ℕ
columns_bytes cs = append_all (map column_bytes cs)
