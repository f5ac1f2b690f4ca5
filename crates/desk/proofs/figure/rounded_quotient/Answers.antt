-- `figure::rounded_quotient` meets its contract (A4): it gives the figure of so many actions in so many steps.
-- Assumes nothing.
use native.Mathlib.Omega.{arith}
use Rattle.answers.proofs.Figure.{figure_up, figure_down}
use Rattle.desk.proofs.figure.rounded_quotient.Goals as goal

pub returns-then-rest-whole : goal.returns-then-rest-whole
returns-then-rest-whole c =
    figure_up c.args.actions c.args.steps (omega arith)
    (let h = c.if-rest-whole.true in omega arith)

pub returns : goal.returns
returns c =
    figure_down c.args.actions c.args.steps (omega arith)
    (let h = c.if-rest-whole.false in omega arith)
