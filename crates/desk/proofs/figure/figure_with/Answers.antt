-- `figure::figure_with` meets its contract (A4): the figure of the sheet's actions and its restated steps.
-- Assumes nothing.
use mathlib.Core.Path.{refl}
use native.Mathlib.Omega.{arith}
use Rattle.answers.proofs.Restated.{accepted_limits}
use Rattle.desk.proofs.figure.Figures.{figure_told}
use Rattle.desk.proofs.figure.figure_with.Goals as goal

pub rounded_quotient-requires : goal.rounded_quotient-requires
rounded_quotient-requires c =
    let few = (accepted_limits _ c.args.accepted.now.judged.sheet.sheet_accepted).actions_total in
    let e = c.actions.ensures in
    omega arith

pub returns : goal.returns
returns c = figure_told _ _ refl _ _ c.actions.ensures c.requires _ c.rounded_quotient.ensures
