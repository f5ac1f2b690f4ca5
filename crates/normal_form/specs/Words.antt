-- N8: a word placed on steps, action by action, where a list has for each component one past its last step, and something else holds the
-- steps or their number.
-- Assumes nothing.
use Rattle.std.specs.Prelude.{◌≡◌, List, ℕ, ◌+◌, ◌<◌, length, get_or}
use Rattle.traces.specs.Foata.{reach, place_all}
use Rattle.systems.specs.Tables.{Tables, InOrder, WordOver}
use Rattle.systems.specs.Independence.{dependent}
use Rattle.sheet.specs.Bounds.{most_components}
use Rattle.dependence.specs.participants.Participants.{participates, Participants}
use Rattle.normal_form.specs.levels.Levels.{Room}

-- the list has for each component one past its last step in ss
abbrev pub LastSteps : List ℕ → List ℕ → List (List ℕ) → Type 0
LastSteps o last ss = (j : ℕ) → j < most_components → get_or last j 0 ≡ reach (participates o j) ss

-- there are `count` steps
abbrev pub Counted : ℕ → List (List ℕ) → Type 0
Counted count ss = count ≡ length ss

-- The actions of the word w have been placed, one after another. `last` and Held tell of the steps before, last' and Held' of the steps
-- afterwards.
-- `room`: if there was room for these actions and k more, there is now room for k more.
-- `shown`: if some steps were told of before, now these steps with the actions of w placed on them are. This holds for all tables whose
-- participants stand in the array o.
pub record PlacesWord (o w last last' : List ℕ) (Held Held' : List (List ℕ) → Type 0) : Type 0 where
  pub room : (most k : ℕ) → Room most last (length w + k) → Room most last' k
  pub shown : (T : Tables) → InOrder T → Participants T o → WordOver T w → (ss : List (List ℕ)) → LastSteps o last ss → Held ss
      → LastSteps o last' (place_all (dependent T) ss w) × Held' (place_all (dependent T) ss w)
