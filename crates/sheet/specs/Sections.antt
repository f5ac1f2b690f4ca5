-- The sections of a sheet apart: the steps that stand in a step section and the transitions in a transition section; and the records of the
-- components, decoded.
-- Assumes nothing.
use Rattle.std.specs.Prelude.{◌≡◌, List, map, ℕ, zero, suc, ◌+◌, ◌/◌, ◌<◌, ◌≤◌, length, get_or}
use Rattle.systems.specs.Tables.{Transition, Tables}
use Rattle.sheet.specs.declared.Component.{Component}
use Rattle.sheet.specs.Bounds.{transition_size, step_size, most_components}
use Rattle.sheet.specs.Numbers.{number, parts}
use Rattle.sheet.specs.Layout.{transition_of}

-- S5: the steps that stand in the bytes of a step section, 8 bytes each
abbrev pub steps_in : List ℕ → List ℕ
steps_in b = map number (parts step_size (length b / step_size) b)

-- S4: the transitions that stand in the bytes of a transition section, 4 bytes each
abbrev pub transitions_in : List ℕ → List Transition
transitions_in b = map transition_of (parts transition_size (length b / transition_size) b)

-- ---- the records, decoded (S3)

-- where the states of component j begin, when the states of all components are numbered one after another
abbrev pub base_of : Tables → ℕ → ℕ
base_of T zero = 0
base_of T (suc j) = base_of T j + T.states j

-- what a list of decoded records has behind its end
abbrev pub no_component : Component
no_component = record { states = 0; initial = 0; alphabet = 0; base = 0 }

-- the four entries of component j in a list of decoded records: its number of states, its initial set, its alphabet, and where its states begin
abbrev pub states_at : List Component → ℕ → ℕ
states_at l j = (get_or l j no_component).states

abbrev pub initial_at : List Component → ℕ → ℕ
initial_at l j = (get_or l j no_component).initial

abbrev pub alphabet_at : List Component → ℕ → ℕ
alphabet_at l j = (get_or l j no_component).alphabet

abbrev pub base_at : List Component → ℕ → ℕ
base_at l j = (get_or l j no_component).base

-- decoded records, one for each component of T, whose alphabets are those of the components (S3)
pub record Alphabets (T : Tables) (l : List Component) : Type 0 where
  pub count : length l ≡ T.components
  pub each : (j : ℕ) → j < length l → alphabet_at l j ≡ T.alphabet j

-- the decoded records of the components of T, one for each (S3)
pub record Decoded (T : Tables) (l : List Component) : Type 0 where
  pub count : length l ≡ T.components
  pub few : length l ≤ most_components
  pub states_told : (j : ℕ) → j < length l → states_at l j ≡ T.states j
  pub initial_told : (j : ℕ) → j < length l → initial_at l j ≡ T.initial j
  pub alphabet_told : (j : ℕ) → j < length l → alphabet_at l j ≡ T.alphabet j
  pub base_told : (j : ℕ) → j < length l → base_at l j ≡ base_of T j
