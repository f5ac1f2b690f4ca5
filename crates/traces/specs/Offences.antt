-- N7: the first step that offends against the process condition: the first that does not follow the one just before it.
-- Assumes nothing.
use Rattle.std.specs.Prelude.{◌≡◌, Bool, true, false, List, [], ◌∷◌, ℕ, suc, ◌+◌, ◌<◌, length, get_or}
use Rattle.std.proofs.Math.Option.{Option, none, some}
use Rattle.traces.specs.Steps.{follows}

abbrev pub offence_or : Bool → ℕ → Option ℕ → Option ℕ
offence_or true i later = later
offence_or false i later = some i

-- the index of the first step that does not follow the one just before it; s stands before the step with index i
abbrev pub offence_from : (ℕ → ℕ → Bool) → List ℕ → ℕ → List (List ℕ) → Option ℕ
offence_from dep s i [] = none
offence_from dep s i (t ∷ ts) = offence_or (follows dep s t) i (offence_from dep t (suc i) ts)

abbrev pub first_offence : (ℕ → ℕ → Bool) → List (List ℕ) → Option ℕ
first_offence dep [] = none
first_offence dep (s ∷ ss) = offence_from dep s 1 ss

-- N7: the answer as one number: 0 where no step offends, else one past the index of the first that does
abbrev pub offending : Option ℕ → ℕ
offending none = 0
offending (some i) = i + 1

-- what the index found is to be: that step does not follow the one just before, and every earlier one does
pub record IsFirstOffence (dep : ℕ → ℕ → Bool) (ss : List (List ℕ)) (i : ℕ) : Type 0 where
  pub before : ℕ
  pub index : i ≡ suc before
  pub step_below : suc before < length ss
  pub offends : follows dep (get_or ss before []) (get_or ss (suc before) []) ≡ false
  pub no_earlier : (k : ℕ) → k < before → follows dep (get_or ss k []) (get_or ss (suc k) []) ≡ true
