-- The sheet's layout: the trailer, the three sections, and the tables and steps that they hold (S2 to S7; document 01, the sheet).
-- Each definition is total: of bytes that are no sheet it gives what stands there, or 0 behind the end.
-- Assumes nothing.
use Rattle.std.specs.Prelude.{List, [], ◌∷◌, map, ℕ, ◌+◌, ◌-◌, ◌*◌, ◌/◌, length, take, drop, get_or}
use Rattle.systems.specs.Tables.{Transition, Tables}
use Rattle.sheet.specs.Bounds.{record_size, transition_size, step_size, trailer_size}
use Rattle.sheet.specs.Numbers.{number, field, parts}

-- ---- S6: the trailer, the last ten bytes: C, T and S, where records, transitions and steps begin, in two bytes each; n and m, the
-- numbers of components and actions, in one byte each; the closing mark

-- C
unfoldable pub records_at : List ℕ → ℕ
records_at b = field (length b - trailer_size) 2 b

-- T
unfoldable pub transitions_at : List ℕ → ℕ
transitions_at b = field (length b - 8) 2 b

-- S
unfoldable pub steps_at : List ℕ → ℕ
steps_at b = field (length b - 6) 2 b

-- n
unfoldable pub component_count : List ℕ → ℕ
component_count b = field (length b - 4) 1 b

-- m
unfoldable pub action_count : List ℕ → ℕ
action_count b = field (length b - 3) 1 b

-- the two bytes at the end
unfoldable pub closing : List ℕ → List ℕ
closing b = drop (length b - 2) b

-- the closing mark, which they must be
abbrev pub mark : List ℕ
mark = 0x46 ∷ 0x53 ∷ []

-- ---- the sections (S2 to S5, S7)

-- S2: the bytes before S: the records and the transitions
unfoldable pub front : List ℕ → List ℕ
front b = take (steps_at b) b

-- S3: of the record with index j, 16 bytes: the number of states in one byte, three bytes of zero, the set of initial states in four,
-- the alphabet in eight
unfoldable pub states_of : List ℕ → ℕ → ℕ
states_of b j = field (record_size * j) 1 b

-- S3: its three bytes of zero
unfoldable pub filler_of : List ℕ → ℕ → ℕ
filler_of b j = field (record_size * j + 1) 3 b

-- S3: its set of initial states
unfoldable pub initial_of : List ℕ → ℕ → ℕ
initial_of b j = field (record_size * j + 4) 4 b

-- S3: its alphabet
unfoldable pub alphabet_of : List ℕ → ℕ → ℕ
alphabet_of b j = field (record_size * j + 8) 8 b

-- S4: the four bytes of each transition; they stand behind n records
unfoldable pub transition_bytes : List ℕ → ℕ → List (List ℕ)
transition_bytes b n = parts transition_size ((length b - record_size * n) / transition_size) (drop (record_size * n) b)

-- S4: which component, from which state, by which label, to which state
abbrev pub transition_of : List ℕ → Transition
transition_of d = record { component = get_or d 0 0; source = get_or d 1 0; label = get_or d 2 0; target = get_or d 3 0 }

-- the tables that stand in the bytes before S, with n components and m actions (S2 to S4)
unfoldable pub tables_of : List ℕ → ℕ → ℕ → Tables
tables_of b n m =
    record {
      components = n;
      actions = m;
      states = states_of b;
      initial = initial_of b;
      alphabet = alphabet_of b;
      transitions = map transition_of (transition_bytes b n);
    }

-- S2: the tables of a sheet
unfoldable pub tables : List ℕ → Tables
tables b = tables_of (front b) (component_count b) (action_count b)

-- S7, N10: how many steps a sheet has
unfoldable pub step_count : List ℕ → ℕ
step_count b = (length b - trailer_size - steps_at b) / step_size

-- S5: the steps, each a set of actions in eight bytes
unfoldable pub steps : List ℕ → List ℕ
steps b = map number (parts step_size (step_count b) (drop (steps_at b) b))
