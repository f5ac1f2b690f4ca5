-- How a sheet is written: records and transitions as they are, the steps, and a trailer to fit (S2, N9).
-- Assumes nothing.
use Rattle.std.specs.Prelude.{List, ◌∷◌, ◌++◌, map, ℕ, ◌*◌, length}
use Rattle.sets.specs.Lists.{append_all}
use Rattle.sheet.specs.Bounds.{record_size, step_size}
use Rattle.sheet.specs.Numbers.{bytes}
use Rattle.sheet.specs.Layout.{mark}

-- S5: the bytes of the steps, eight for each
abbrev pub step_bytes : List ℕ → List ℕ
step_bytes xs = append_all (map (bytes step_size) xs)

-- S6: C, T, S, n, m and the closing mark, where the steps begin at the offset `at`
unfoldable pub trailer : ℕ → ℕ → ℕ → List ℕ
trailer at n m = bytes 2 0 ++ (bytes 2 (record_size * n) ++ (bytes 2 at ++ (n ∷ m ∷ mark)))

-- S2, N9: the sheet with these bytes before its steps, n components, m actions and the steps xs
unfoldable pub sheet_of : List ℕ → ℕ → ℕ → List ℕ → List ℕ
sheet_of before n m xs = before ++ (step_bytes xs ++ trailer (length before) n m)
