-- Products of transition systems, by their global transitions (B1 to B4; source document 002, products of transition systems, and
-- independence of global transitions). Nothing here knows of sheets. States, transitions, components and rows are numbers from 0 on.
-- Assumes nothing.
use Rattle.std.specs.Prelude.{◌≡◌, List, [], ◌∷◌, ℕ, ◌<◌}
use Rattle.std.proofs.Math.Option.{Option, none, some}

-- B1: a transition system: its states, its transitions, each with source and target, and its initial state
pub record Component : Type 0 where
  pub states : ℕ
  pub transitions : ℕ
  pub source : ℕ → ℕ
  pub target : ℕ → ℕ
  pub initial : ℕ

-- B2: a product: its components, and its global transitions, the rows. In a row each component takes one of its transitions or idles
pub record Product : Type 0 where
  pub components : ℕ
  pub component : ℕ → Component
  pub rows : ℕ
  pub takes : ℕ → ℕ → Option ℕ

-- B3: a global state gives each component a state; what it says at or above the number of components plays no part
abbrev pub Global : Type 0
Global = ℕ → ℕ

-- B3: the two agree on every component
abbrev pub SameState : Product → Global → Global → Type 0
SameState P s t = (j : ℕ) → j < P.components → t j ≡ s j

-- B3: a row can be fired in a state in which each of its transitions leaves the state of its component
abbrev pub CanFire : Product → ℕ → Global → Type 0
CanFire P g s = (j t : ℕ) → j < P.components → P.takes g j ≡ some t → (P.component j).source t ≡ s j

-- B3: where a component is after it, by what the row has for it
abbrev pub state_after : Component → Option ℕ → ℕ → ℕ
state_after C none q = q
state_after C (some t) q = C.target t

-- B3: after it, each component that takes a transition is at its target, and the others are where they were
abbrev pub after : Product → ℕ → Global → Global
after P g s j = state_after (P.component j) (P.takes g j) (s j)

-- B3: the rows of a list are fired one after another from the state s, and the states after them are those of the other list
abbrev pub FiredThrough : Product → Global → List ℕ → List Global → Type 0
FiredThrough P s [] [] = Unit {0}
FiredThrough P s [] (t ∷ ts) = ⊥
FiredThrough P s (g ∷ gs) [] = ⊥
FiredThrough P s (g ∷ gs) (t ∷ ts) = (g < P.rows) × CanFire P g s × SameState P (after P g s) t × FiredThrough P t gs ts

-- B3: from the initial states
abbrev pub Fired : Product → List ℕ → List Global → Type 0
Fired P = FiredThrough P (λ j. (P.component j).initial)

-- B4: the component takes part in the row
abbrev pub TakesPart : Product → ℕ → ℕ → Type 0
TakesPart P g j = (t : ℕ) × (P.takes g j ≡ some t)

-- B4: two rows are independent when no component takes part in both
abbrev pub Independent : Product → ℕ → ℕ → Type 0
Independent P g h = (j : ℕ) → j < P.components → ¬ (TakesPart P g j × TakesPart P h j)
