-- What the reader of components tells: whether one stands in the bytes, and where each begins (R15).
-- Assumes nothing.
use Rattle.std.specs.Prelude.{◌≡◌, List, ℕ, ◌+◌, ◌*◌, ◌<◌, ◌≤◌, length, get_or, Option, MatchOption}
use Rattle.rows.specs.declared.product.Part.{Part}
use Rattle.products.specs.ProductBytes.{component_at, component_of}
use Rattle.products.specs.ProductRefusals.{ComponentInRange}
use Rattle.rows.specs.Reading.{begin_at}

abbrev pub AllBelow : ℕ → List ℕ → Type 0
AllBelow k l = (i : ℕ) → i < length l → get_or l i 0 < k

-- a component stands in the bytes from `at` on: they do not end before it does, and its counts and states are in range
pub record Stands (b : List ℕ) (at : ℕ) : Type 0 where
  pub inside : at + (3 + 2 * get_or b (at + 2) 0) ≤ length b
  pub in_range : ComponentInRange (component_of b at)

-- all of them stand there, each part has where its component begins, and the last one ends at `end`
pub record AllRead (b : List ℕ) (l : List Part) (end : ℕ) : Type 0 where
  pub end_told : end ≡ component_at b (length l)
  pub all_stand : (j : ℕ) → j < length l → Stands b (component_at b j)
  pub begins_told : (j : ℕ) → j < length l → begin_at l j ≡ component_at b j

-- a component read for each part: all stand there, or one does not
abbrev pub ComponentsRead : List ℕ → List Part → Option ℕ → Type 0
ComponentsRead b l r = MatchOption r ((j : ℕ) × (j < length l) × (¬ Stands b (component_at b j))) (λ end. AllRead b l end)
