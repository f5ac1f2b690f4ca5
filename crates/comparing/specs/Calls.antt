-- What each call on two sheets answers: the promises, one name for each.
-- Assumes nothing.
use Rattle.std.specs.Prelude.{◌≡◌, List, ℕ}
use Rattle.answers.specs.declared.Answer.{Answer}
use Rattle.answers.specs.Outcomes.{values, one_value, bit, outcome_of}
use Rattle.answers.specs.SameWork.{same_work}
use Rattle.answers.specs.Leaner.{winner, leaner}

-- A1: same work: 1 for yes, 0 for no, or the refusal of the pair
abbrev pub SameWorkAnswer : List ℕ → List ℕ → Answer → Type 0
SameWorkAnswer b c r = outcome_of r ≡ values (λ t. one_value (bit t)) (same_work b c)

-- A3: which sheet is leaner, 0 or 1, or the refusal of the pair
abbrev pub WinnerAnswer : List ℕ → List ℕ → Answer → Type 0
WinnerAnswer b c r = outcome_of r ≡ values one_value (winner b c)

-- A2: the part of the leaner sheet that is handed back
abbrev pub LeanerPart : List ℕ → List ℕ → List ℕ → Type 0
LeanerPart b c p = p ≡ leaner b c
