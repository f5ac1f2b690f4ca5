-- A sheet whose tables are in order within the limits, said without the refusals (L1 to L7; document 01, the sheet and its limits).
-- Assumes nothing.
use Rattle.std.specs.Prelude.{◌≡◌, ◌≢◌, true, ℕ, ◌+◌, ◌*◌, ◌<◌, ◌≤◌, length, get_or}
use mathlib.Core.List.{List, [], ◌∷◌, Memᴰ}
use Rattle.sets.specs.Bits.{member}
use Rattle.systems.specs.Tables.{Transition, Fits}
use Rattle.systems.specs.Checking.{flat}
use Rattle.sheet.specs.Bounds.{record_size, transition_size, step_size, trailer_size, shortest, longest}
use Rattle.sheet.specs.Bounds.{most_components, most_actions, most_states, most_transitions, most_steps, most_in_steps}
use Rattle.sheet.specs.Layout.{records_at, transitions_at, steps_at, component_count, action_count, closing, mark}
use Rattle.sheet.specs.Layout.{front, states_of, initial_of, alphabet_of, transition_bytes, tables, steps}

-- the record with index j: 1 to 32 states (L3), three zero bytes, an initial set of its states and an alphabet of actions, none empty
pub record RecordInLimits (b : List ℕ) (m j : ℕ) : Type 0 where
  pub states_low : 1 ≤ states_of b j
  pub states_high : states_of b j ≤ most_states
  pub filler_zero : (i : ℕ) → i < 3 → get_or b (record_size * j + 1 + i) 0 ≡ 0
  pub some_initial : initial_of b j ≢ 0
  pub initial_below : (q : ℕ) → member (initial_of b j) q ≡ true → q < states_of b j
  pub some_action : alphabet_of b j ≢ 0
  pub action_below : (a : ℕ) → member (alphabet_of b j) a ≡ true → a < m

-- one byte string stands before another: by the first byte in which they differ (R8)
pub data Before : List ℕ → List ℕ → Type 0 where
  shorter : {y : ℕ} {ys : List ℕ} → Before [] (y ∷ ys)
  here : {x y : ℕ} {xs ys : List ℕ} → x < y → Before (x ∷ xs) (y ∷ ys)
  later : {x y : ℕ} {xs ys : List ℕ} → x ≡ y → Before xs ys → Before (x ∷ xs) (y ∷ ys)

-- each byte string stands before the next one, and x before the first (R8)
abbrev pub AscendingFrom : List ℕ → List (List ℕ) → Type 0
AscendingFrom x [] = Unit {0}
AscendingFrom x (y ∷ ys) = Before x y × AscendingFrom y ys

-- each byte string stands before the next one: they are sorted, and no two are equal (R8)
abbrev pub Ascending : List (List ℕ) → Type 0
Ascending [] = Unit {0}
Ascending (x ∷ xs) = AscendingFrom x xs

-- L1 to L7: a sheet within the limits, laid out as S2 and S6 say, and with tables in order
pub record InLimits (b : List ℕ) : Type 0 where
  -- L7: how long a sheet may be
  pub length_low : shortest ≤ length b
  pub length_high : length b ≤ longest
  pub closed : closing b ≡ mark
  -- L1, L2: how many components and actions it may have
  pub components_low : 1 ≤ component_count b
  pub components_high : component_count b ≤ most_components
  pub actions_low : 1 ≤ action_count b
  pub actions_high : action_count b ≤ most_actions
  -- S2: n records of 16 bytes, up to 2,048 transitions of 4 (L4), up to 1,024 steps of 8 (L5), and the trailer of 10
  pub records_first : records_at b ≡ 0
  pub transitions_next : transitions_at b ≡ record_size * component_count b
  pub steps_next : (k : ℕ) × (k ≤ most_transitions) × (steps_at b ≡ transitions_at b + transition_size * k)
  pub trailer_last : (k : ℕ) × (k ≤ most_steps) × (length b ≡ steps_at b + step_size * k + trailer_size)
  pub records : (j : ℕ) → j < component_count b → RecordInLimits (front b) (action_count b) j
  pub actions_used : (a : ℕ) → a < action_count b → (j : ℕ) × (j < component_count b) × (member ((tables b).alphabet j) a ≡ true)
  pub transitions : (t : Transition) → Memᴰ t (tables b).transitions → Fits (tables b) t
  pub ascending : Ascending (transition_bytes (front b) (component_count b))
  -- L6: how many actions all steps together may have
  pub actions_total : length (flat (steps b)) ≤ most_in_steps
