-- V1: the columns of an execution: for each component in turn its own actions in order (document 02, request 3).
-- Assumes nothing.
use Rattle.std.specs.Prelude.{List, map, ℕ}
use Rattle.sets.specs.Lists.{below}
use Rattle.sets.specs.Bits.{member}
use Rattle.traces.specs.Projections.{projection}
use Rattle.systems.specs.Tables.{Tables}
use Rattle.systems.specs.Checking.{flat}
use Rattle.sheet.specs.Layout.{component_count, tables, steps}

-- V1: the column of component j: a word of actions cut down to the alphabet of the component
abbrev pub column : Tables → List ℕ → ℕ → List ℕ
column T w j = projection (member (T.alphabet j)) w

-- V1: the columns of a sheet: its flat list (N2) cut down to each alphabet, component after component
unfoldable pub columns : List ℕ → List (List ℕ)
columns b = map (column (tables b) (flat (steps b))) (below (component_count b))
