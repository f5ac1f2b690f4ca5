-- What the writer of transitions goes by (B9): where the transition of a row stands, and which rows leave which state.
-- Assumes nothing.
use Rattle.std.specs.Prelude.{◌≡◌, true, ◌↔◌, List, ℕ, ◌+◌, ◌<◌, ◌≤◌, length, get_or}
use Rattle.std.proofs.Math.Option.{some}
use Rattle.sets.specs.Bits.{member}
use Rattle.sheet.specs.Bounds.{most_states}
use Rattle.products.specs.Product.{Product}
use Rattle.products.specs.ProductBytes.{product_of}

-- row g has a transition of component j, and its source and target are the bytes at `at`
pub record TransitionAt (b : List ℕ) (j g at : ℕ) : Type 0 where
  pub transition : ℕ
  pub taken : (product_of b).takes g j ≡ some transition
  pub inside : at + 2 ≤ length b
  pub source_told : get_or b at 0 ≡ ((product_of b).component j).source transition
  pub target_told : get_or b (at + 1) 0 ≡ ((product_of b).component j).target transition
  pub source_few : get_or b at 0 < most_states

-- row g has a transition of component j that leaves the state q
abbrev pub Leaves : Product → ℕ → ℕ → ℕ → Type 0
Leaves P j q g = (g < P.rows) × ((t : ℕ) × (P.takes g j ≡ some t) × ((P.component j).source t ≡ q))

-- the set of these rows
abbrev pub LeavingSet : List ℕ → ℕ → ℕ → ℕ → Type 0
LeavingSet b j q x = (g : ℕ) → (member x g ≡ true) ↔ Leaves (product_of b) j q g

-- the table of these sets, one for each state
pub record LeavingRows (b : List ℕ) (j : ℕ) (l : List ℕ) : Type 0 where
  pub size : length l ≡ most_states
  pub each : (q : ℕ) → q < most_states → LeavingSet b j q (get_or l q 0)
