-- What inner functions answer, and leave in what is lent to them. They carry out O1, E5 and N8.
-- Assumes nothing.
use Rattle.std.specs.Prelude.{◌≡◌, List, map, ℕ, ◌≤◌, length, take, replicate, Option, MatchOption}
use Rattle.std.proofs.Math.Option.{none, some}
use Rattle.sets.specs.Bits.{members}
use Rattle.traces.specs.Offences.{first_offence}
use Rattle.systems.specs.Checking.{flat}
use Rattle.systems.specs.Independence.{dependent}
use Rattle.sheet.specs.Layout.{component_count, tables, steps}
use Rattle.sheet.specs.Verdict.{Verdict, accepted, Accepted}
use Rattle.sheet.specs.Bounds.{most_components}
use Rattle.sheet.specs.Sections.{no_component, Decoded}
use Rattle.answers.specs.declared.Sizes.{Sizes}
use Rattle.answers.specs.declared.Answer.{Answer}
use Rattle.answers.specs.declared.Answer.TheVariants.{Accepted as AcceptedAnswer}
use Rattle.answers.specs.Outcomes.{values, one_value, outcome_of, read_outcome}
use Rattle.answers.specs.LentOutput.{length_or13, output_by}
use Rattle.desk.specs.AcceptedSheet.{EndsOf}
use Rattle.desk.specs.Calls.{CheckAnswer}
use Rattle.desk.specs.declared.verdict.Room.{Room}

-- O1, S6: what the answer a tells of a sheet that has the sizes z, the answer r tells too
abbrev pub ToldWithSizes : Answer → Sizes → Answer → Type 0
ToldWithSizes a z r =
    (b : List ℕ) (v : Verdict) → outcome_of (AcceptedAnswer z) ≡ read_outcome b accepted → outcome_of a ≡ read_outcome b v
    → outcome_of r ≡ read_outcome b v

-- the room before anything is read (S3) and held (E5)
abbrev pub empty_room : Room
empty_room = record { components = replicate most_components no_component; held = replicate most_components 0 }

-- in front the room has the components of the sheet b, decoded (S3), and their end sets (E5)
pub record RoomLeft (b : List ℕ) (room : Room) : Type 0 where
  pub decoded : Decoded (tables b) (take (component_count b) room.components)
  pub ends : EndsOf b (take (component_count b) room.held)

-- O1: the answer on the sheet b, and what judging an accepted one leaves in the room
pub record Judged (b : List ℕ) (r : Answer) (room : Room) : Type 0 where
  pub answer_told : CheckAnswer b r
  pub room_left : Accepted b → RoomLeft b room

-- N8: what the restated steps may be packed into: an array of zeros that has a place for each action of the steps xs
pub record PlacesFor (xs packed : List ℕ) : Type 0 where
  pub zeros : packed ≡ replicate (length packed) 0
  pub enough : length (flat xs) ≤ length packed

-- R13, O5, N9: the bytes w written in front of the output: their length, and what stands behind them stays; or 13, and all stays
pub record RestatedInto (w out : List ℕ) (r : Answer) (after : List ℕ) : Type 0 where
  pub answer_told : outcome_of r ≡ values one_value (length_or13 w (length out))
  pub output_left : after ≡ output_by (length_or13 w (length out)) w out

-- N7: the index of the first step of the sheet b that offends
abbrev pub OffenceAt : List ℕ → Option ℕ → Type 0
OffenceAt b r =
    MatchOption r (first_offence (dependent (tables b)) (map members (steps b)) ≡ none)
    (λ k. first_offence (dependent (tables b)) (map members (steps b)) ≡ some k)
