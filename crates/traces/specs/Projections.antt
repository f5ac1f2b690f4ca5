-- V1: a word cut down to some of its actions, and alphabets that cover a dependence (document 02, request 3). That the cuts of a word tell
-- it up to swaps is a theorem, `projections_related`.
-- Assumes nothing.
use Rattle.std.specs.Prelude.{◌≡◌, Bool, true, List, [], ◌∷◌, ℕ, ◌<◌}
use Rattle.sets.specs.Lists.{keep}

-- V1: the actions of a word that pass a test, in their order
abbrev pub projection : (ℕ → Bool) → List ℕ → List ℕ
projection p [] = []
projection p (a ∷ w) = keep (p a) a (projection p w)

-- so many alphabets, of which `has j a` says that alphabet j has the action a, cover a dependence (N3): of two dependent actions below m some
-- alphabet has both
abbrev pub Covers : (ℕ → ℕ → Bool) → ℕ → (ℕ → ℕ → Bool) → ℕ → Type 0
Covers dep count has m =
    (a b : ℕ) → a < m → b < m → dep a b ≡ true → (j : ℕ) × (j < count) × (has j a ≡ true) × (has j b ≡ true)

-- no alphabet has two actions that are independent (N3)
abbrev pub AllDependent : (ℕ → ℕ → Bool) → ℕ → (ℕ → ℕ → Bool) → Type 0
AllDependent dep count has = (j : ℕ) → j < count → (a b : ℕ) → has j a ≡ true → has j b ≡ true → dep a b ≡ true

-- V1: the two words, cut down to any of the alphabets, are the same
abbrev pub SameProjections : ℕ → (ℕ → ℕ → Bool) → List ℕ → List ℕ → Type 0
SameProjections count has u v = (j : ℕ) → j < count → projection (has j) u ≡ projection (has j) v
