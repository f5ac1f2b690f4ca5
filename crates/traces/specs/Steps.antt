-- Steps as rising lists of actions (Q6, R10, R11), and the process condition on them (N6; source document 001, definition 8).
-- Assumes nothing.
use Rattle.std.specs.Prelude.{◌≡◌, ◌≢◌, Bool, true, false, ◌||◌, List, [], ◌∷◌, ℕ}
use Rattle.sets.specs.Lists.{any_of, all_of, Rising}

module _ (dep : ℕ → ℕ → Bool) where
  -- R11: two actions of the step are dependent
  abbrev pub clash : List ℕ → Bool
  clash [] = false
  clash (a ∷ s) = any_of (dep a) s || clash s

  -- Q6, of one step: it is not empty (R10), its actions are in rising number (N2), and no two of them are dependent (R11)
  pub record Step (s : List ℕ) : Type 0 where
    pub nonempty : s ≢ []
    pub rising : Rising s
    pub apart : clash s ≡ false

  -- Q6: each of the steps is so
  abbrev pub Steps : List (List ℕ) → Type 0
  Steps [] = Unit {0}
  Steps (s ∷ ss) = Step s × Steps ss

  -- N6, of the step t just after s: every action of t is dependent on some action of s
  abbrev pub follows : List ℕ → List ℕ → Bool
  follows s t = all_of (λ a. any_of (dep a) s) t

  -- N6, of the steps behind s: each follows the one just before it
  abbrev pub FollowFrom : List ℕ → List (List ℕ) → Type 0
  FollowFrom s [] = Unit {0}
  FollowFrom s (t ∷ ts) = (follows s t ≡ true) × FollowFrom t ts

  -- N6: the process condition; the first step may be any
  abbrev pub Process : List (List ℕ) → Type 0
  Process [] = Unit {0}
  Process (s ∷ ss) = FollowFrom s ss
