-- The parts of the sheet that a product becomes, as bytes, one for each writer (B8, B9); and what a writer leaves (F4).
-- Assumes nothing.
use Rattle.std.specs.Prelude.{◌≡◌, List, map, ℕ, ◌≤◌, length}
use Rattle.sets.specs.Lists.{append_all, below, over}
use Rattle.products.specs.ProductBytes.{product_of}
use Rattle.products.specs.ProductSheet.{record_bytes, transitions_from, transitions_of, sheet_transitions}

-- B8: the records of the components
abbrev pub record_part : List ℕ → List ℕ
record_part b = append_all (map (record_bytes (product_of b)) (below (product_of b).components))

-- B9: the transitions of component j that leave the state q
abbrev pub state_part : List ℕ → ℕ → ℕ → List ℕ
state_part b j q = append_all (transitions_from (product_of b) j q)

-- B9: all of component j
abbrev pub component_part : List ℕ → ℕ → List ℕ
component_part b j = append_all (transitions_of (product_of b) j)

-- B9: all of them
abbrev pub transition_part : List ℕ → List ℕ
transition_part b = append_all (sheet_transitions (product_of b))

-- F4: the part is no longer than the output
abbrev pub RoomFor : List ℕ → List ℕ → Type 0
RoomFor part out = length part ≤ length out

-- F4: the part stands in front of the output, and bytes behind it are as they were; the writer gives back how many bytes it wrote
abbrev pub Wrote : List ℕ → List ℕ → List ℕ → ℕ → Type 0
Wrote part before after r = (r ≡ length part) × (after ≡ over part before)
