-- S1 to S6: one sheet byte for byte: what is written, and what is read from it.
-- A component of 3 states, two of them initial, with 10 actions; two transitions; one step, of the action 9. Then a sheet with the highest
-- numbers that there are: component 15, state 31 and action 63.
-- Assumes nothing.
use mathlib.Core.Path.{◌≡◌, refl}
use mathlib.Core.List.{List, [], ◌∷◌, ◌++◌}
use Prim.Native.Nat.{ℕ}
use Rattle.sets.specs.Bits.{members, members_from}
use Rattle.systems.specs.Tables.{Tables, internal}
use Rattle.systems.specs.Running.{rounds, closure, start, fire, fire_all}
use Rattle.systems.specs.Checking.{flat}
use Rattle.sheet.specs.Numbers.{field}
use Rattle.sheet.specs.Layout.{records_at, transitions_at, steps_at, component_count, action_count, closing, front, states_of, filler_of}
use Rattle.sheet.specs.Layout.{initial_of, alphabet_of, transition_bytes, transition_of, tables_of, tables, step_count, steps}
use Rattle.sheet.specs.Writing.{trailer, sheet_of}
use Rattle.sheet.specs.LimitCases.{widest_front, widest}

-- 24 bytes: the record, then the two transitions
abbrev before : List ℕ
before =
    3 ∷ 0 ∷ 0 ∷ 0
    ∷ 0b11 ∷ 0 ∷ 0 ∷ 0
    ∷ 0xff ∷ 0x03 ∷ 0 ∷ 0 ∷ 0 ∷ 0 ∷ 0 ∷ 0
    ∷ 0 ∷ 0 ∷ 9 ∷ 2
    ∷ 0 ∷ 1 ∷ 255 ∷ 0
    ∷ []

-- the 8 bytes of the step, then the trailer
abbrev behind : List ℕ
behind =
    0 ∷ 2 ∷ 0 ∷ 0 ∷ 0 ∷ 0 ∷ 0 ∷ 0
    ∷ 0 ∷ 0 ∷ 16 ∷ 0 ∷ 24 ∷ 0 ∷ 1 ∷ 10 ∷ 0x46 ∷ 0x53
    ∷ []

-- S1, S2: what is written, section behind section, of each number the low byte in front
pub example_written : sheet_of before 1 10 (512 ∷ []) ≡ before ++ behind
unfolding sheet_of trailer
example_written = refl

-- S5: the step that is read from it
pub example_steps : steps (before ++ behind) ≡ 512 ∷ []
unfolding steps step_count steps_at field
example_steps = refl

-- S3, S4, S6: the tables that are read from it
pub record ExampleTables (T : Tables) : Type 0 where
  pub components_one : T.components ≡ 1
  pub actions_ten : T.actions ≡ 10
  pub states_three : T.states 0 ≡ 3
  pub initial_two : T.initial 0 ≡ 0b11
  pub alphabet_ten : T.alphabet 0 ≡ 0b11_1111_1111
  pub transitions_two :
      T.transitions
      ≡ record { component = 0; source = 0; label = 9; target = 2 } ∷ record { component = 0; source = 1; label = internal; target = 0 } ∷ []

-- S3, S4, S6: the tables of the first sheet are these
pub example_tables : ExampleTables (tables (before ++ behind))
unfolding tables tables_of front steps_at component_count action_count states_of initial_of alphabet_of transition_bytes field
example_tables =
    record {
      components_one = refl;
      actions_ten = refl;
      states_three = refl;
      initial_two = refl;
      alphabet_ten = refl;
      transitions_two = refl;
    }

-- ---- each field at its place

-- a record and a trailer whose bytes count upwards from 1
abbrev counted : List ℕ
counted = 1 ∷ 2 ∷ 3 ∷ 4 ∷ 5 ∷ 6 ∷ 7 ∷ 8 ∷ 9 ∷ 10 ∷ 11 ∷ 12 ∷ 13 ∷ 14 ∷ 15 ∷ 16 ∷ 17 ∷ 18 ∷ 19 ∷ 20 ∷ 21 ∷ 22 ∷ 23 ∷ 24 ∷ 25 ∷ 26 ∷ []

-- S1, S3, S6: which bytes each field has, the low byte in front
pub record EachField (b : List ℕ) : Type 0 where
  pub state_count : states_of b 0 ≡ 1
  pub filler : filler_of b 0 ≡ 0x04_0302
  pub initial_set : initial_of b 0 ≡ 0x0807_0605
  pub alphabet_set : alphabet_of b 0 ≡ 0x100f_0e0d_0c0b_0a09
  pub offset_c : records_at b ≡ 0x1211
  pub offset_t : transitions_at b ≡ 0x1413
  pub offset_s : steps_at b ≡ 0x1615
  pub count_n : component_count b ≡ 23
  pub count_m : action_count b ≡ 24
  pub last_two : closing b ≡ 25 ∷ 26 ∷ []

-- S1, S3, S6: each field is so
pub each_field : EachField counted
unfolding field states_of filler_of initial_of alphabet_of records_at transitions_at steps_at component_count action_count closing
each_field =
    record {
      state_count = refl;
      filler = refl;
      initial_set = refl;
      alphabet_set = refl;
      offset_c = refl;
      offset_t = refl;
      offset_s = refl;
      count_n = refl;
      count_m = refl;
      last_two = refl;
    }

-- Where no bytes are, each of the four bytes of a transition counts as 0. No rule says so: O2 lets us choose, since R4 comes before R7.
pub nothing_there : transition_of [] ≡ record { component = 0; source = 0; label = 0; target = 0 }
nothing_there = refl

-- ---- component 15, state 31, action 63

-- S1, S2: what is written, section behind section
pub widest_written : sheet_of widest_front 16 64 (0x8000_0000_0000_0000 ∷ []) ≡ widest
unfolding sheet_of trailer
widest_written = refl

-- S5: the step that is read from it
pub widest_steps : steps widest ≡ 0x8000_0000_0000_0000 ∷ []
unfolding steps step_count steps_at field
widest_steps = refl

-- S3, S4, S6: the tables that are read from it
pub record WidestTables (T : Tables) : Type 0 where
  pub components_16 : T.components ≡ 16
  pub actions_64 : T.actions ≡ 64
  pub states_small : T.states 14 ≡ 1
  pub states_last : T.states 15 ≡ 32
  pub initial_small : T.initial 14 ≡ 0b1
  pub initial_last : T.initial 15 ≡ 0x8004_0201
  pub alphabet_small : T.alphabet 14 ≡ 0b1
  pub alphabet_last : T.alphabet 15 ≡ 0xffff_ffff_ffff_fffe
  pub transitions_last :
      T.transitions
      ≡ record { component = 15; source = 31; label = 63; target = 31 } ∷ record { component = 15; source = 31; label = 255; target = 30 } ∷ []

-- S3, S4, S6: the tables of the second sheet are these
pub widest_tables : WidestTables (tables widest)
unfolding tables tables_of front steps_at component_count action_count states_of initial_of alphabet_of transition_bytes field
widest_tables =
    record {
      components_16 = refl;
      actions_64 = refl;
      states_small = refl;
      states_last = refl;
      initial_small = refl;
      initial_last = refl;
      alphabet_small = refl;
      alphabet_last = refl;
      transitions_last = refl;
    }

-- E2, E4: what component 15 holds at the start, and after the step
pub record WidestRun (T : Tables) (xs : List ℕ) : Type 0 where
  pub at_start : start T 15 ≡ 0xc004_0201
  pub at_end : fire_all T (start T) (flat xs) 15 ≡ 0xc000_0000
  pub small_stays : fire_all T (start T) (flat xs) 14 ≡ 0b1

-- E2, E4: the second sheet runs so
pub widest_run : WidestRun (tables widest) (steps widest)
unfolding members members_from rounds closure start fire tables tables_of front step_count steps steps_at component_count action_count states_of initial_of
    alphabet_of transition_bytes field
widest_run = record { at_start = refl; at_end = refl; small_stays = refl }
