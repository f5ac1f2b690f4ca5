-- There is room for the next number, since there is for the whole line (P1).
use Rattle.std.proofs.Common.{◌++◌, ◌∷◌, [], map, suc, drop, get_or, arith}
use lib.ListN.{length-append}
use lib.Seq.{drop-cons}
use Rattle.sets.specs.Lists.{append_all}
use Rattle.answers.specs.Report.{part, report_room}
use Rattle.report.proofs.text.Appending.{to_write_room}
use Rattle.report.proofs.text.Text.line.Goals as goal

pub part-requires : goal.part-requires
part-requires c =
    let xs = c.args.xs.now in
    let k = c.loop-x.x-index in
    let parts = append_all (map part xs) in
    let a = length-append c.args.self.now c.args.word.now in
    let b = length-append c.args.word.now (parts ++ (10 ∷ [])) in
    let d = length-append parts (10 ∷ []) in
    let r = c.requires in
    to_write_room c.loop-x.invariant (get_or xs k 0) (drop (suc k) xs) report_room (drop-cons xs k 0 (omega arith)) (omega arith)
