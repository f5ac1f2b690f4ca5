-- What judging the second of two sheets given together answers, and leaves in its room.
-- Assumes nothing.
use Rattle.std.specs.Prelude.{◌≡◌, List, ℕ}
use Rattle.sheet.specs.Verdict.{Verdict}
use Rattle.answers.specs.declared.Sizes.{Sizes}
use Rattle.answers.specs.declared.Answer.{Answer}
use Rattle.answers.specs.declared.Answer.TheVariants.{Accepted as AcceptedAnswer}
use Rattle.answers.specs.Outcomes.{given, outcome_of, on_sheet, sizes_of}
use Rattle.answers.specs.TwoSheets.{of_two}
use Rattle.desk.specs.Left.{RoomLeft}
use Rattle.desk.specs.declared.verdict.Room.{Room}

-- O7: what the answer a tells of a sheet alone, the answer r tells of it as the second sheet
abbrev pub ToldOfSecond : Answer → Answer → Type 0
ToldOfSecond a r =
    (c : List ℕ) (v : Verdict) → outcome_of a ≡ on_sheet 0 v (given (sizes_of c)) → outcome_of r ≡ on_sheet 1 v (given (sizes_of c))

-- O6: the answer on the sheets b and c, of which b is accepted, and what judging c leaves where the pair is not refused
pub record SecondJudged (b c : List ℕ) (r : Answer) (room : Room) : Type 0 where
  pub answer_told : outcome_of r ≡ of_two b c (sizes_of b)
  pub room_left : (z : Sizes) → r ≡ AcceptedAnswer z → RoomLeft c room
