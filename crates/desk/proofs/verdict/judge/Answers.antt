-- `verdict::judge` meets its contract (O1, E5, S3): the refusal of the trailer, or what judging the sheet answers and leaves.
-- Assumes nothing.
use Rattle.sheet.specs.Verdict.{accepted, trailer_verdict}
use Rattle.desk.proofs.verdict.Judging.{refused_judged, trailer_stopped, trailer_verdict_fact}
use Rattle.desk.proofs.verdict.judge.Goals as goal

pub returns-in_default : goal.returns-in_default
returns-in_default c =
    let b = c.args.sheet.now in
    let a = c.read_trailer-read.result in
    let stop = trailer_stopped b a c.in_default.not-Accepted c.read_trailer-read.ensures in
    refused_judged b a (trailer_verdict b accepted) stop (trailer_verdict_fact b a c.in_default.not-Accepted stop) _
