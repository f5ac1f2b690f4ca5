-- There is room for the next line, since there is for all of them (P4).
use Rattle.std.proofs.Common.{suc, drop, get_or, arith}
use lib.Seq.{drop-cons}
use Rattle.answers.specs.Report.{report_room}
use Rattle.report.proofs.text.Appending.{to_write_room}
use Rattle.report.proofs.text.Text.steps.Goals as goal

pub step-requires : goal.step-requires
step-requires c =
    let xs = c.args.steps.now in
    let k = c.loop-step.step-index in
    to_write_room c.loop-step.invariant (get_or xs k 0) (drop (suc k) xs) report_room (drop-cons xs k 0 (omega arith)) c.requires
