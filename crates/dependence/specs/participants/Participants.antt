-- N3: the participants of each action, the components whose alphabets have it, in an array.
-- Assumes nothing.
use Rattle.std.specs.Prelude.{◌≡◌, ◌↔◌, ◌⊎◌, Bool, true, List, ℕ, ◌^◌, ◌<◌, length, get_or}
use Rattle.sets.specs.Bits.{member}
use Rattle.systems.specs.Tables.{Tables}
use Rattle.sheet.specs.Bounds.{most_components, most_actions}

-- N3: the component j takes part in the action a
abbrev pub participates : List ℕ → ℕ → ℕ → Bool
participates o j a = member (get_or o a 0) j

-- N3: entry a has the components of T whose alphabets have the action a; there are 64 entries, as many as a sheet may have actions (L2)
pub record Participants (T : Tables) (o : List ℕ) : Type 0 where
  pub size : length o ≡ most_actions
  pub each : (a : ℕ) → a < most_actions → (j : ℕ) → (participates o j a ≡ true) ↔ ((j < T.components) × (member (T.alphabet j) a ≡ true))

-- L1, L2: an array of 64 sets, one for each action that there may be; their elements are components, so below 16
pub record OfSixteen (o : List ℕ) : Type 0 where
  pub size : length o ≡ most_actions
  pub small : (a : ℕ) → get_or o a 0 < 2 ^ most_components

-- N3: the component j was entered for each action of its alphabet, and nothing else was changed; there are 64 entries (L2)
pub record ComponentEntered (alphabet j : ℕ) (before after : List ℕ) : Type 0 where
  pub size : length after ≡ most_actions
  pub each : (a : ℕ) → a < most_actions → (i : ℕ)
      → (participates after i a ≡ true) ↔ ((participates before i a ≡ true) ⊎ ((i ≡ j) × (member alphabet a ≡ true)))
