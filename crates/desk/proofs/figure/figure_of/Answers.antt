-- `figure::figure_of` meets its contract (A4): the figure of an accepted sheet, else the sheet's refusal.
-- Assumes nothing.
use mathlib.Core.Path.{ap, ◌∙◌, subst}
use Rattle.sheet.specs.Verdict.{verdict, Accepted}
use Rattle.answers.specs.Outcomes.{one_value}
use Rattle.answers.specs.Figure.{figure, figure_outcome}
use Rattle.answers.proofs.Passing.{told_given}
use Rattle.desk.proofs.AcceptedFacts.{check_refused}
use Rattle.desk.proofs.figure.figure_of.Goals as goal

pub returns-in_default : goal.returns-in_default
unfolding figure_outcome
returns-in_default c = check_refused _ _ c.in_default.not-Accepted c.judge-answer.ensures.answer_told one_value (figure c.args.sheet.now)

pub returns : goal.returns
unfolding figure_outcome
returns c =
    let same = c.of-accepted.ensures.0 in
    told_given one_value (verdict c.args.sheet.now) (figure c.args.sheet.now) _
    (subst Accepted same c.of-accepted.result.judged.sheet.sheet_accepted) (ap one_value (c.figure_with.ensures ∙ ap figure same))
