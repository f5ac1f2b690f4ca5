-- B6, O8: the refusal of the reader, with the output as it came; else 13 or the sheet.
use Rattle.std.proofs.Common.{arith}
use Rattle.rows.proofs.CallAnswers.{sheet_length, rows_refused, rows_short, rows_written}
use Rattle.rows.proofs.judge.Answers.{rows_by}
use Rattle.rows.proofs.table.Fronts.{front_short}
use Rattle.rows.proofs.rows.Goals as goal

pub returns-in_default : goal.returns-in_default
returns-in_default c = rows_refused _ _ _ _ c.in_default.not-Accepted c.read_product-read.ensures

pub overflow_add-size : goal.overflow_add-size
overflow_add-size c =
    let read = c.in-Accepted.ensures in
    let short = front_short _ _ read.1 in
    let s = read.0.s_told in
    omega arith

pub returns-then-out-size : goal.returns-then-out-size
returns-then-out-size c =
    let read = c.in-Accepted.ensures in
    rows_short _ _ _ read.0 read.1 _ c.if-out-size.true _ c.refuse.ensures

pub invariant_of-rows : goal.invariant_of-rows
invariant_of-rows c = let read = c.in-Accepted.ensures in record { stand = rows_by _ _ _ read.0 read.1 }

pub of-product-requires : goal.of-product-requires
of-product-requires c = let read = c.in-Accepted.ensures in rw read.0.n_told read.1

pub write_product-requires : goal.write_product-requires
write_product-requires c =
    let read = c.in-Accepted.ensures in
    rw c.of-product.ensures.0 (let long = sheet_length _ _ _ read.0 read.1 in omega arith)

pub returns : goal.returns
returns c =
    let read = c.in-Accepted.ensures in
    rows_written _ _ _ read.0 read.1 _ _ c.if-out-size.false (rw c.of-product.ensures.0 at c.write_product.ensures)
