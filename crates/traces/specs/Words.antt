-- Words of actions, and the swaps of independent neighbours between them (Q9; source document 002; Mazurkiewicz traces).
-- Everything is over a test of two actions: `dep a b` is true when a and b are dependent. Which actions share a component is one instance.
-- Assumes nothing.
use Rattle.std.specs.Prelude.{◌≡◌, Bool, true, false, List, ◌∷◌, ℕ}

module _ (dep : ℕ → ℕ → Bool) where
  -- What the theory asks of the test: an action depends on itself (N3), and neither of two actions comes first.
  pub record Dependence : Type 0 where
    pub reflexive : (a : ℕ) → dep a a ≡ true
    pub symmetric : (a b : ℕ) → dep a b ≡ dep b a

  -- one swap of independent neighbours
  pub data Swap : List ℕ → List ℕ → Type 0 where
    here : {a b : ℕ} {w : List ℕ} → dep a b ≡ false → Swap (a ∷ b ∷ w) (b ∷ a ∷ w)
    later : {a : ℕ} {u v : List ℕ} → Swap u v → Swap (a ∷ u) (a ∷ v)

  -- N5, Q9: swaps of independent neighbours lead from one word to the other; no swap at all is one way
  pub data Related : List ℕ → List ℕ → Type 0 where
    unchanged : {w : List ℕ} → Related w w
    swap : {u v w : List ℕ} → Swap u v → Related v w → Related u w
