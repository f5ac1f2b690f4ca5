-- T1: the walk over a set (document 02, request 2): the lowest element is taken, then the walk goes on with the set without it. The
-- elements come directly from the set; no list of them is made.
-- Assumes nothing.
use Rattle.std.specs.Prelude.{◌≡◌, ◌↔◌, ◌≢◌, true, List, [], ◌∷◌, ℕ, ◌≤◌, ◌<◌}
use Rattle.sets.specs.Bits.{member}

-- one turn, as `take_lowest` promises it: i is taken from the set x, and y is left
pub record Takes (x i y : ℕ) : Type 0 where
  pub below : i < 64
  pub lowest : (j : ℕ) → member x j ≡ true → i ≤ j
  pub own : member x i ≡ true
  pub rest : (j : ℕ) → (member y j ≡ true) ↔ ((member x j ≡ true) × (j ≢ i))

-- some turns, one after another: they take the elements of the list from the set x, in this order, and z is left
abbrev pub Turns : ℕ → List ℕ → ℕ → Type 0
Turns x [] z = x ≡ z
Turns x (i ∷ is) z = (y : ℕ) × Takes x i y × Turns y is z

-- a whole walk: turns until nothing is left
abbrev pub Walk : ℕ → List ℕ → Type 0
Walk x taken = Turns x taken 0
