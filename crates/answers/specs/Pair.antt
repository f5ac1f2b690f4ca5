-- X1: Pair, the system of document 01's sheets to try, as bytes.
-- Assumes nothing.
use Rattle.std.specs.Prelude.{List, [], ◌∷◌, ◌++◌, ℕ}
use Rattle.sheet.specs.Numbers.{bytes}
use Rattle.sheet.specs.Writing.{sheet_of}

-- S3: a record, of 16 bytes: the number of states, three bytes of zero, the set of initial states and the alphabet
abbrev pub record_bytes : ℕ → ℕ → ℕ → List ℕ
record_bytes states initial alphabet = states ∷ 0 ∷ 0 ∷ 0 ∷ (bytes 4 initial ++ bytes 8 alphabet)

-- its two records, of 2 and of 3 states, and its five transitions, the fourth of them internal
unfoldable pub pair_tables : List ℕ
pair_tables =
    record_bytes 2 0b1 0b101 ++ (record_bytes 3 0b1 0b110
    ++ (0 ∷ 0 ∷ 0 ∷ 1
    ∷ 0 ∷ 1 ∷ 2 ∷ 0
    ∷ 1 ∷ 0 ∷ 1 ∷ 1
    ∷ 1 ∷ 1 ∷ 255 ∷ 2
    ∷ 1 ∷ 2 ∷ 2 ∷ 0
    ∷ []))

-- Pair, with 2 components and 3 actions, and these steps
unfoldable pub pair_sheet : List ℕ → List ℕ
pair_sheet xs = sheet_of pair_tables 2 3 xs
