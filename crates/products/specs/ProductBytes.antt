-- A product as bytes (B5; document 02, request 1): component count, row count; of each component in turn its state count, initial state
-- and transition count and then its transitions, source and target in a byte each; then the rows, one byte a component.
-- Each definition is total: behind the end it reads 0.
-- Assumes nothing.
use Rattle.std.specs.Prelude.{Bool, true, false, List, ℕ, zero, suc, ◌+◌, ◌*◌, eqb, get_or}
use Rattle.std.proofs.Math.Option.{Option, none, some}
use Rattle.products.specs.Product.{Component, Product}

-- the number of a row's byte that stands for idle
abbrev pub idle : ℕ
idle = 255

unfoldable pub components_in : List ℕ → ℕ
components_in b = get_or b 0 0

unfoldable pub rows_in : List ℕ → ℕ
rows_in b = get_or b 1 0

-- where the bytes of component j begin: behind the two counts, and behind those of the components before it
unfoldable pub component_at : List ℕ → ℕ → ℕ
component_at b zero = 2
component_at b (suc j) = component_at b j + 3 + 2 * get_or b (component_at b j + 2) 0

-- where the rows begin
unfoldable pub rows_at : List ℕ → ℕ
rows_at b = component_at b (components_in b)

-- the component whose bytes begin there
abbrev pub component_of : List ℕ → ℕ → Component
component_of b at =
    record {
      states = get_or b at 0;
      initial = get_or b (at + 1) 0;
      transitions = get_or b (at + 2) 0;
      source = λ t. get_or b (at + 3 + 2 * t) 0;
      target = λ t. get_or b (at + 4 + 2 * t) 0;
    }

-- the byte of row g for component j
unfoldable pub entry : List ℕ → ℕ → ℕ → ℕ
entry b g j = get_or b (rows_at b + components_in b * g + j) 0

abbrev pub unless_idle : Bool → ℕ → Option ℕ
unless_idle true t = none
unless_idle false t = some t

-- B5: the product that stands in the bytes
unfoldable pub product_of : List ℕ → Product
product_of b =
    record {
      components = components_in b;
      component = λ j. component_of b (component_at b j);
      rows = rows_in b;
      takes = λ g j. unless_idle (eqb (entry b g j) idle) (entry b g j);
    }
