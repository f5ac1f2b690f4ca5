-- `comparing::winner` meets its contract (A3): of a pair that passed what was asked for, else the refusal.
-- Assumes nothing.
use mathlib.Core.Path.{ap₂, ◌∙◌}
use mathlib.Core.List.{List}
use Prim.Native.Nat.{ℕ}
use lib.Dec.{ltb}
use lib.ListN.{length}
use Rattle.sheet.specs.Verdict.{accepted, trailer_verdict}
use Rattle.answers.specs.Restated.{restated_steps}
use Rattle.answers.proofs.Told.{bit_from}
use Rattle.comparing.proofs.TwoSheetCalls.{second_judged, pair_passed, pair_refused, first_refused, first_unread, second_unread, winner_told, no_winner}
use Rattle.comparing.proofs.both.Refusals.{second_alone}
use Rattle.comparing.proofs.winner.Goals as goal

pub returns-in_default : goal.returns-in_default
returns-in_default c = no_winner (first_unread c.in_default.not-Accepted c.read_trailer-read.ensures)

pub returns-in_default-answer : goal.returns-in_default-answer
returns-in_default-answer c = no_winner (first_refused c.in_default-answer.not-Accepted c.judge_tables-answer.ensures)

pub returns-in_default-read2 : goal.returns-in_default-read2
returns-in_default-read2 c =
    no_winner (second_unread c.of-one.ensures.0 c.of-one.result.judged.sheet.sheet_accepted c.in_default-read2.not-Accepted
    (c.told_of_second-read2.ensures _ (trailer_verdict c.args.second.now accepted) c.read_trailer.ensures))

pub judge_second-answer2-requires : goal.judge_second-answer2-requires
judge_second-answer2-requires c =
    second_alone c.args.second.now _ (trailer_verdict c.args.second.now accepted)
    (c.in-Accepted-read2.ensures _ (trailer_verdict c.args.second.now accepted) c.read_trailer.ensures)

pub returns-in_default-answer2 : goal.returns-in_default-answer2
returns-in_default-answer2 c = no_winner (pair_refused c.of-one.ensures.0 c.in_default-answer2.not-Accepted c.judge_second-answer2.ensures)

pub of-two-requires : goal.of-two-requires
of-two-requires c = second_judged c.in-Accepted-answer2.ensures

pub returns : goal.returns
returns c =
    winner_told (pair_passed c.of-one.ensures.0 c.in-Accepted-answer2.ensures) _ _ (c.from.ensures ∙ bit_from _)
    (c.second_leaner.ensures ∙ ap₂ (λ (x y : List ℕ). ltb (length (restated_steps y)) (length (restated_steps x))) c.of-one.ensures.0 c.of-two.ensures.0)
