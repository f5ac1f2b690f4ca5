-- `stuck::is_stuck` meets its contract (A5): whether an accepted sheet is stuck, else the sheet's refusal.
-- Assumes nothing.
use mathlib.Core.Path.{ap, ◌∙◌, subst}
use mathlib.Core.Bool.{Bool}
use mathlib.Core.List.{List}
use Prim.Native.Nat.{ℕ}
use Rattle.sheet.specs.Verdict.{verdict, Accepted}
use Rattle.answers.specs.Outcomes.{one_value, bit}
use Rattle.answers.specs.Stuck.{stuck, stuck_outcome}
use Rattle.answers.proofs.Passing.{told_given}
use Rattle.answers.proofs.Told.{bit_from}
use Rattle.desk.proofs.AcceptedFacts.{check_refused}
use Rattle.desk.proofs.stuck.is_stuck.Goals as goal

abbrev yes_no : Bool → List ℕ
yes_no t = one_value (bit t)

pub returns-in_default : goal.returns-in_default
unfolding stuck_outcome
returns-in_default c = check_refused _ _ c.in_default.not-Accepted c.judge-answer.ensures.answer_told yes_no (stuck c.args.sheet.now)

pub returns : goal.returns
unfolding stuck_outcome
returns c =
    let same = c.of-restatable.ensures ∙ c.of-accepted.ensures.0 in
    told_given yes_no (verdict c.args.sheet.now) (stuck c.args.sheet.now) _
    (subst Accepted c.of-accepted.ensures.0 c.of-accepted.result.judged.sheet.sheet_accepted)
    (ap one_value (c.from.ensures ∙ bit_from _ ∙ ap bit (c.stuck_at.ensures ∙ ap stuck same)))
