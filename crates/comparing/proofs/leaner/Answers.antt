-- `comparing::leaner` meets its contract (A2): of a pair that passed the step section of the leaner sheet, else an empty part.
-- Assumes nothing.
use mathlib.Core.Path.{ap₂, ◌∙◌}
use mathlib.Core.Bool.{Bool}
use mathlib.Core.List.{List}
use Prim.Native.Nat.{ℕ}
use lib.Dec.{ltb}
use lib.ListN.{length}
use Rattle.sheet.specs.Verdict.{accepted, trailer_verdict}
use Rattle.answers.specs.Restated.{restated_steps}
use Rattle.desk.proofs.AcceptedFacts.{accepted_sheet}
use Rattle.comparing.proofs.TwoSheetCalls.{second_judged, pair_passed, pair_refused, first_refused, first_unread, second_unread, no_section, section_first, section_second}
use Rattle.comparing.proofs.both.Refusals.{second_alone}
use Rattle.comparing.proofs.leaner.Goals as goal

abbrev fewer : List ℕ → List ℕ → Bool
fewer x y = ltb (length (restated_steps y)) (length (restated_steps x))

pub returns-in_default : goal.returns-in_default
returns-in_default c = no_section (first_unread c.in_default.not-Accepted c.read_trailer-read.ensures)

pub returns-in_default-answer : goal.returns-in_default-answer
returns-in_default-answer c = no_section (first_refused c.in_default-answer.not-Accepted c.judge_tables-answer.ensures)

pub returns-in_default-read2 : goal.returns-in_default-read2
returns-in_default-read2 c =
    no_section (second_unread c.of-one.ensures.0 c.of-one.result.judged.sheet.sheet_accepted c.in_default-read2.not-Accepted
    (c.told_of_second-read2.ensures _ (trailer_verdict c.args.second.now accepted) c.read_trailer.ensures))

pub judge_second-answer2-requires : goal.judge_second-answer2-requires
judge_second-answer2-requires c =
    second_alone c.args.second.now _ (trailer_verdict c.args.second.now accepted)
    (c.in-Accepted-read2.ensures _ (trailer_verdict c.args.second.now accepted) c.read_trailer.ensures)

pub returns-in_default-answer2 : goal.returns-in_default-answer2
returns-in_default-answer2 c = no_section (pair_refused c.of-one.ensures.0 c.in_default-answer2.not-Accepted c.judge_second-answer2.ensures)

pub of-two-requires : goal.of-two-requires
of-two-requires c = second_judged c.in-Accepted-answer2.ensures

pub returns-then-second_leaner : goal.returns-then-second_leaner
returns-then-second_leaner c =
    section_second (pair_passed c.of-one.ensures.0 c.in-Accepted-answer2.ensures) _ _ c.if-second_leaner.true
    (c.second_leaner.ensures ∙ ap₂ fewer c.of-one.ensures.0 c.of-two.ensures.0) c.step_section.ensures

pub returns : goal.returns
returns c =
    section_first (pair_passed c.of-one.ensures.0 c.in-Accepted-answer2.ensures) _ (accepted_sheet _ _ c.in-Accepted-answer.ensures.answer_told) _ _
    c.if-second_leaner.false (c.second_leaner.ensures ∙ ap₂ fewer c.of-one.ensures.0 c.of-two.ensures.0) c.step_section-2.ensures
