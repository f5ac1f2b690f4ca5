-- N8: the Foata normal form of a word: its actions one after another, each in the earliest step that the dependent actions before it allow.
-- Assumes nothing.
use Rattle.std.specs.Prelude.{Bool, true, false, cond, List, [], ◌∷◌, ℕ, zero, suc, leb}
use Rattle.sets.specs.Lists.{any_of}

-- the action at its place in a rising step
abbrev pub insert_sorted : ℕ → List ℕ → List ℕ
insert_sorted a [] = a ∷ []
insert_sorted a (b ∷ s) = cond (leb a b) (a ∷ b ∷ s) (b ∷ insert_sorted a s)

-- the action put into the step with index k; where there are too few steps, behind as many empty ones as it takes
abbrev pub put_at : ℕ → ℕ → List (List ℕ) → List (List ℕ)
put_at a zero [] = (a ∷ []) ∷ []
put_at a zero (s ∷ ss) = insert_sorted a s ∷ ss
put_at a (suc k) [] = [] ∷ put_at a k []
put_at a (suc k) (s ∷ ss) = s ∷ put_at a k ss

-- one step further where later steps were reached, else 1 where the test passed in the first step
abbrev pub further : Bool → ℕ → ℕ
further p (suc k) = suc (suc k)
further true zero = 1
further false zero = 0

-- one past the index of the last step in which some action passes the test; 0 where there is none
abbrev pub reach : (ℕ → Bool) → List (List ℕ) → ℕ
reach p [] = 0
reach p (s ∷ ss) = further (any_of p s) (reach p ss)

module _ (dep : ℕ → ℕ → Bool) where
  -- the action put into the earliest step that no dependent action bars: just behind the last one that has such an action
  abbrev pub place : List (List ℕ) → ℕ → List (List ℕ)
  place ss a = put_at a (reach (dep a) ss) ss

  -- the actions of a word placed one after another onto steps
  abbrev pub place_all : List (List ℕ) → List ℕ → List (List ℕ)
  place_all ss [] = ss
  place_all ss (a ∷ w) = place_all (place ss a) w

  -- N8: the normal form
  abbrev pub foata : List ℕ → List (List ℕ)
  foata w = place_all [] w
