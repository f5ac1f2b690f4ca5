-- Worked columns, written out byte by byte: the columns of some sheets, which bytes are columns for them, and columns that no sheet has
-- (V1, V2, R18, R19). Each number of the definitions is met at its edge: 256 and more labels, component 15, action 63, 1,024 labels together.
-- Sets are written as binary numerals, bit a for action a.
-- Assumes nothing.
use Rattle.std.specs.Prelude.{List, [], ◌∷◌, ◌++◌, ℕ, length, take, replicate}
use Rattle.answers.specs.Outcomes.{given, bit}
use Rattle.sheet.specs.Writing.{sheet_of}
use Rattle.answers.specs.Pair.{record_bytes, pair_sheet}
use Rattle.answers.specs.Starred.{worked_sheet}
use Rattle.answers.specs.Worked.{Worked, loop_sheet, widest_sheet}
use Rattle.columns.specs.Columns.{columns}
use Rattle.columns.specs.ColumnBytes.{column_bytes, columns_bytes}
use Rattle.columns.specs.Reading.{legible}

-- ---- columns that a sheet has, and columns that none has (R19)

-- two components that both have the actions 0 and 1, with one state each, and can always do them
abbrev pub circle_sheet : List ℕ
circle_sheet =
    sheet_of
    (record_bytes 1 0b1 0b11 ++ (record_bytes 1 0b1 0b11 ++ (0 ∷ 0 ∷ 0 ∷ 0 ∷ 0 ∷ 0 ∷ 1 ∷ 0 ∷ 1 ∷ 0 ∷ 0 ∷ 0 ∷ 1 ∷ 0 ∷ 1 ∷ 0 ∷ []))) 2 2 []

-- each waits for the other: 0 1 and 1 0
abbrev pub circle_columns : List (List ℕ)
circle_columns = (0 ∷ 1 ∷ []) ∷ (1 ∷ 0 ∷ []) ∷ []

-- over Pair, the action 2 that both have stands twice in one column and once in the other
abbrev pub often_columns : List (List ℕ)
often_columns = (0 ∷ 2 ∷ 0 ∷ 2 ∷ []) ∷ (1 ∷ 2 ∷ 1 ∷ []) ∷ []

-- over Pair, the action 2 comes first in both columns, and neither component can begin with it
abbrev pub early_columns : List (List ℕ)
early_columns = (2 ∷ []) ∷ (2 ∷ []) ∷ []

-- over Pair, the columns of the worked example
abbrev pub pair_columns : List (List ℕ)
pair_columns = (0 ∷ 2 ∷ 0 ∷ []) ∷ (1 ∷ 2 ∷ []) ∷ []

-- ---- the table

-- numbers and bytes as they are to be
abbrev same : List ℕ → List ℕ → Worked
same x y = record { found = given x; due = given y }

-- the columns of the sheet, in bytes
abbrev has : List ℕ → List ℕ → Worked
has b d = same (columns_bytes (columns b)) d

-- the bytes are columns for Pair, in which component 0 has the actions 0 and 2 and component 1 has 1 and 2; they are not
abbrev fits : List ℕ → Worked
fits d = same (bit (legible (pair_sheet []) d) ∷ []) (1 ∷ [])

abbrev fails : List ℕ → Worked
fails d = same (bit (legible (pair_sheet []) d) ∷ []) (0 ∷ [])

-- V2: the two bytes of a number, k times the action 0, and what follows
abbrev many : ℕ → ℕ → ℕ → List ℕ → List ℕ
many low high k rest = low ∷ high ∷ (replicate k 0 ++ rest)

-- the rows, behind the rule that they show (V1, V2, R18)
abbrev pub worked_columns : List Worked
worked_columns =
    -- V1: {0} {1} {2} {0}: component 0 has 0 2 0, component 1 has 1 2
    has worked_sheet (3 ∷ 0 ∷ 0 ∷ 2 ∷ 0 ∷ 2 ∷ 0 ∷ 1 ∷ 2 ∷ [])
    -- V5: the same of {0,1} {2} {0} and of {1} {0} {2} {0}
    ∷ has (pair_sheet (0b11 ∷ 0b100 ∷ 0b1 ∷ [])) (3 ∷ 0 ∷ 0 ∷ 2 ∷ 0 ∷ 2 ∷ 0 ∷ 1 ∷ 2 ∷ [])
    ∷ has (pair_sheet (0b10 ∷ 0b1 ∷ 0b100 ∷ 0b1 ∷ [])) (3 ∷ 0 ∷ 0 ∷ 2 ∷ 0 ∷ 2 ∷ 0 ∷ 1 ∷ 2 ∷ [])
    -- V1: an action as often as it stands there; and in its order: 2 1 1 2 2
    ∷ has (loop_sheet (0b101 ∷ 0b10 ∷ 0b11 ∷ 0b100 ∷ 0b100 ∷ [])) (2 ∷ 0 ∷ 0 ∷ 0 ∷ 5 ∷ 0 ∷ 2 ∷ 1 ∷ 1 ∷ 2 ∷ 2 ∷ [])
    -- V2: without steps every column is empty, and has its two bytes
    ∷ has (pair_sheet []) (0 ∷ 0 ∷ 0 ∷ 0 ∷ [])
    -- V1: component 15 has the action 63, and the others nothing
    ∷ has widest_sheet (replicate 30 0 ++ (1 ∷ 0 ∷ 63 ∷ []))
    -- V2: 255, 256 and 258 labels, the low byte in front
    ∷ same (take 3 (column_bytes (replicate 255 7))) (255 ∷ 0 ∷ 7 ∷ [])
    ∷ same (take 3 (column_bytes (replicate 256 7))) (0 ∷ 1 ∷ 7 ∷ [])
    ∷ same (take 3 (column_bytes (replicate 258 7))) (2 ∷ 1 ∷ 7 ∷ [])
    ∷ same (length (column_bytes (replicate 258 7)) ∷ []) (260 ∷ [])
    -- R18: the bytes of the first row; one byte less, one byte more
    ∷ fits (3 ∷ 0 ∷ 0 ∷ 2 ∷ 0 ∷ 2 ∷ 0 ∷ 1 ∷ 2 ∷ [])
    ∷ fails (3 ∷ 0 ∷ 0 ∷ 2 ∷ 0 ∷ 2 ∷ 0 ∷ 1 ∷ [])
    ∷ fails (3 ∷ 0 ∷ 0 ∷ 2 ∷ 0 ∷ 2 ∷ 0 ∷ 1 ∷ 2 ∷ 2 ∷ [])
    -- R18: empty columns have their two bytes too; nothing follows the last
    ∷ fits (0 ∷ 0 ∷ 0 ∷ 0 ∷ [])
    ∷ fails []
    ∷ fails (0 ∷ [])
    ∷ fails (0 ∷ 0 ∷ [])
    ∷ fails (0 ∷ 0 ∷ 0 ∷ [])
    ∷ fails (0 ∷ 0 ∷ 0 ∷ 0 ∷ 0 ∷ [])
    ∷ fails (0 ∷ 0 ∷ 0 ∷ 0 ∷ 0 ∷ 0 ∷ [])
    -- R18: a number of labels that points behind the bytes
    ∷ fails (2 ∷ 0 ∷ 0 ∷ [])
    ∷ fails (0 ∷ 0 ∷ 2 ∷ 0 ∷ 1 ∷ [])
    ∷ fails (255 ∷ 255 ∷ 0 ∷ 0 ∷ [])
    -- R18: each component has its own actions: 0 alone, 1 alone, 2 both
    ∷ fits (1 ∷ 0 ∷ 0 ∷ 0 ∷ 0 ∷ [])
    ∷ fails (0 ∷ 0 ∷ 1 ∷ 0 ∷ 0 ∷ [])
    ∷ fits (0 ∷ 0 ∷ 1 ∷ 0 ∷ 1 ∷ [])
    ∷ fails (1 ∷ 0 ∷ 1 ∷ 0 ∷ 0 ∷ [])
    ∷ fits (1 ∷ 0 ∷ 2 ∷ 1 ∷ 0 ∷ 2 ∷ [])
    -- R18: no component has 3, 64, 254 or the internal 255; a later label is looked at too
    ∷ fails (1 ∷ 0 ∷ 3 ∷ 0 ∷ 0 ∷ [])
    ∷ fails (1 ∷ 0 ∷ 64 ∷ 0 ∷ 0 ∷ [])
    ∷ fails (1 ∷ 0 ∷ 254 ∷ 0 ∷ 0 ∷ [])
    ∷ fails (1 ∷ 0 ∷ 255 ∷ 0 ∷ 0 ∷ [])
    ∷ fails (3 ∷ 0 ∷ 0 ∷ 2 ∷ 1 ∷ 0 ∷ 0 ∷ [])
    -- R18: that no sheet has the columns does not matter here: 2 once and never
    ∷ fits (1 ∷ 0 ∷ 2 ∷ 0 ∷ 0 ∷ [])
    -- R18, L6: 1,024 labels together, and 1,025
    ∷ fits (many 0 4 1024 (0 ∷ 0 ∷ []))
    ∷ fails (many 1 4 1025 (0 ∷ 0 ∷ []))
    ∷ fits (many 255 3 1023 (1 ∷ 0 ∷ 1 ∷ []))
    ∷ fails (many 0 4 1024 (1 ∷ 0 ∷ 1 ∷ []))
    -- R18: the action 63 for component 15 and for component 14; 62 for component 15
    ∷ same (bit (legible widest_sheet (replicate 30 0 ++ (1 ∷ 0 ∷ 63 ∷ []))) ∷ []) (1 ∷ [])
    ∷ same (bit (legible widest_sheet (replicate 28 0 ++ (1 ∷ 0 ∷ 63 ∷ 0 ∷ 0 ∷ []))) ∷ []) (0 ∷ [])
    ∷ same (bit (legible widest_sheet (replicate 30 0 ++ (1 ∷ 0 ∷ 62 ∷ []))) ∷ []) (0 ∷ [])
    ∷ []
