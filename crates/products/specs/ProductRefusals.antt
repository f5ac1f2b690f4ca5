-- The refusals of products given by rows, each by its own condition (R15, R16, R17; document 02, request 1).
-- Assumes nothing.
use Rattle.std.specs.Prelude.{◌≡◌, ◌⊎◌, List, ℕ, ◌+◌, ◌*◌, ◌<◌, ◌≤◌, length}
use Rattle.std.proofs.Math.Option.{none, some}
use Rattle.sheet.specs.Bounds.{most_components, most_actions, most_states}
use Rattle.products.specs.Product.{Component, Product}
use Rattle.products.specs.ProductBytes.{components_in, rows_in, rows_at, product_of}

-- R15, of a component: at least one state, no more than a sheet can have; the initial state, every source and every target is one of them
pub record ComponentInRange (C : Component) : Type 0 where
  pub states_low : 1 ≤ C.states
  pub states_high : C.states ≤ most_states
  pub initial_below : C.initial < C.states
  pub source_below : (t : ℕ) → t < C.transitions → C.source t < C.states
  pub target_below : (t : ℕ) → t < C.transitions → C.target t < C.states

-- R15: what it asks of the bytes: counts in range, a length that fits them, and every state and number in range
pub record WellFormed (b : List ℕ) : Type 0 where
  pub components_low : 1 ≤ components_in b
  pub components_high : components_in b ≤ most_components
  pub rows_low : 1 ≤ rows_in b
  pub rows_high : rows_in b ≤ most_actions
  pub length_fits : length b ≡ rows_at b + components_in b * rows_in b
  pub components : (j : ℕ) → j < components_in b → ComponentInRange ((product_of b).component j)
  pub numbers : (g j t : ℕ) → g < rows_in b → j < components_in b → (product_of b).takes g j ≡ some t
      → t < ((product_of b).component j).transitions

-- R16: every component idles in the row
abbrev pub IdleRow : Product → ℕ → Type 0
IdleRow P g = (j : ℕ) → j < P.components → P.takes g j ≡ none

-- R16: the two rows have the same numbers
abbrev pub SameRow : Product → ℕ → ℕ → Type 0
SameRow P g h = (j : ℕ) → j < P.components → P.takes h j ≡ P.takes g j

-- R16: some row is idle throughout, or repeats an earlier one
pub record BadRow (P : Product) : Type 0 where
  pub row : ℕ
  pub below : row < P.rows
  pub bad : IdleRow P row ⊎ ((h : ℕ) × (h < row) × SameRow P row h)

-- R17: some component idles in every row
pub record IdleComponent (P : Product) : Type 0 where
  pub component : ℕ
  pub below : component < P.components
  pub idles : (g : ℕ) → g < P.rows → P.takes g component ≡ none
