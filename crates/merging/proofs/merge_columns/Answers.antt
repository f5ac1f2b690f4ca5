-- R18, V3, O9: 18 where the bytes are no columns for the sheet, else what is answered of the columns that were read.
use Rattle.std.proofs.Common.{refl, ap}
use Rattle.answers.specs.Outcomes.{outcome_of}
use Rattle.columns.specs.Calls.{ColumnsAnswer}
use Rattle.merging.specs.legible.Reading.{labels_of}
use Rattle.merging.proofs.LinedColumns.{not_legible, read_by}
use Rattle.merging.proofs.merge_columns.Goals as goal

pub returns-in_default : goal.returns-in_default
returns-in_default c =
    let a = c.args.accepted.now in
    let no = not_legible a.sheet.now a.sizes c.args.columns.now a.judged.decoded (labels_of c.read_columns-read.new.left) c.read_columns-read.result c.in_default.not-Accepted c.read_columns-read.ensures in
    ColumnsAnswer.not_legible a.judged.sheet.sheet_accepted no.1 (ap outcome_of no.0) refl

pub merge_read-requires : goal.merge_read-requires
merge_read-requires c =
    (c.args.columns.now, read_by _ c.args.accepted.now.sizes c.read_columns-read.result _ c.in-Accepted.is c.args.accepted.now.judged.decoded c.read_columns-read.ensures)

pub returns : goal.returns
returns c =
    c.merge_read.ensures c.args.columns.now
    (read_by _ c.args.accepted.now.sizes c.read_columns-read.result _ c.in-Accepted.is c.args.accepted.now.judged.decoded c.read_columns-read.ensures)
