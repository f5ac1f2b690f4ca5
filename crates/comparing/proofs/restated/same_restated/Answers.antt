-- `restated::same_restated` meets its contract (A1): there are places for the actions of both sheets.
-- Assumes nothing.
use native.Mathlib.Omega.{arith}
use Rattle.answers.proofs.Restated.{accepted_limits}
use Rattle.comparing.proofs.restated.same_restated.Goals as goal

pub same_places-requires : goal.same_places-requires
same_places-requires c =
    let one = (accepted_limits _ c.args.one.now.judged.sheet.sheet_accepted).actions_total in
    let two = (accepted_limits _ c.args.two.now.judged.sheet.sheet_accepted).actions_total in
    (omega arith, omega arith, omega arith)

pub same_places-requires-then-actions-gt64-2 : goal.same_places-requires-then-actions-gt64-2
same_places-requires-then-actions-gt64-2 c =
    let one = (accepted_limits _ c.args.one.now.judged.sheet.sheet_accepted).actions_total in
    let two = (accepted_limits _ c.args.two.now.judged.sheet.sheet_accepted).actions_total in
    (omega arith, omega arith, omega arith)
