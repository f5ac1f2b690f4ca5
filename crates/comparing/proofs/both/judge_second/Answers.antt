-- `both::judge_second` meets its contract (O6, O7, R14): of a first sheet that is accepted, the second's refusal, else 14, else the sizes that
-- both have.
-- Assumes nothing.
use mathlib.Core.Path.{◌≡◌, sym, ap, ◌∙◌}
use mathlib.Core.List.{List}
use Prim.Native.Nat.{ℕ}
use Rattle.sheet.specs.Verdict.{verdict}
use Rattle.answers.specs.declared.Refusal.{Refusal}
use Rattle.answers.specs.declared.Answer.{Answer}
use Rattle.answers.specs.Outcomes.{outcome_of, sizes_of}
use Rattle.answers.specs.TwoSheets.{tables_differ, of_two}
use Rattle.answers.proofs.Passing.{NotAccepted}
use Rattle.desk.specs.declared.verdict.Room.{Room}
use Rattle.comparing.specs.Both.{SecondJudged}
use Rattle.comparing.proofs.both.Refusals.{sizes_told, second_sheet, second_stops, tables_stop, two_pass}
use Rattle.comparing.proofs.both.judge_second.Goals as goal

-- a refused pair leaves nothing that is promised
none : {b c : List ℕ} {a : Answer} {room : Room} → NotAccepted a → outcome_of a ≡ of_two b c (sizes_of b) → SecondJudged b c a room
none h e = record { answer_told = e; room_left = λ z q. absurd (h z q) }

-- 14 is no acceptance
not_accepted : {a : Answer} {r : Refusal} {i s : ℕ} → a ≡ Answer.Refused r i s → NotAccepted a
not_accepted e z q = cc

pub returns-in_default : goal.returns-in_default
returns-in_default c =
    let told = c.told_of_second-answer.ensures _ (verdict c.args.second.now) c.judge_tables.ensures.answer_told in
    none c.in_default.not-Accepted
    (second_stops _ _ c.args.first.now.judged.sheet.sheet_accepted _ c.in_default.not-Accepted told)

pub of-requires : goal.of-requires
of-requires c =
    let told = c.in-Accepted.ensures _ (verdict c.args.second.now) c.judge_tables.ensures.answer_told in
    record { answer_told = sizes_told _ _ (second_sheet _ _ told); room_left = c.judge_tables.ensures.room_left }

pub returns-then-differ : goal.returns-then-differ
returns-then-differ c =
    let told = c.in-Accepted.ensures _ (verdict c.args.second.now) c.judge_tables.ensures.answer_told in
    let apart = sym (c.differ.ensures ∙ ap (tables_differ c.args.first.now.sheet.now) c.of.ensures.0) ∙ c.if-differ.true in
    none (not_accepted c.refuse.ensures)
    (ap outcome_of c.refuse.ensures
    ∙ tables_stop _ _ c.args.first.now.judged.sheet.sheet_accepted (second_sheet _ _ told).sheet_accepted apart)

pub returns : goal.returns
returns c =
    let told = c.in-Accepted.ensures _ (verdict c.args.second.now) c.judge_tables.ensures.answer_told in
    let alike = sym (c.differ.ensures ∙ ap (tables_differ c.args.first.now.sheet.now) c.of.ensures.0) ∙ c.if-differ.false in
    let second = second_sheet _ _ told in
    record {
      answer_told = two_pass _ _ _ c.args.first.now.judged.sheet _ second alike;
      room_left = λ z q. c.judge_tables.ensures.room_left second.sheet_accepted;
    }
