-- The lines are those of all components once none is left (P5).
use Rattle.std.proofs.Common.{◌+◌, ◌-◌, length}
use Rattle.sets.specs.Lists.{upward}
use Rattle.sets.proofs.Lists.{below_all, upward_next, upward_end}
use Rattle.answers.specs.Report.{report_room}
use Rattle.report.proofs.text.Appending.{to_write_none, to_write_room, to_write_more, to_write_end}
use Rattle.report.proofs.text.Text.ends.Goals as goal

pub loop-j-init : goal.loop-j-init
loop-j-init c = to_write_none (below_all (length c.args.sets.now))

pub end-requires : goal.end-requires
end-requires c =
    let n = length c.args.sets.now in
    let j = c.loop-j.j in
    to_write_room c.loop-j.invariant j (upward (j + 1) (n - (j + 1))) report_room (upward_next n j c.loop-j-test.true) c.requires

pub loop-j-preserved : goal.loop-j-preserved
loop-j-preserved c =
    let n = length c.args.sets.now in
    let j = c.loop-j.j in
    to_write_more c.loop-j.invariant j (upward (j + 1) (n - (j + 1))) _ (upward_next n j c.loop-j-test.true) c.end.ensures

pub returns : goal.returns
returns c = to_write_end c.loop-j.invariant (upward_end (length c.args.sets.now) c.loop-j.j c.loop-j-test.false)
