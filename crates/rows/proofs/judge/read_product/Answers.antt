-- R15, O8: what is no product is refused; of the others the first parts are judged.
use Rattle.std.proofs.Common.{◌≡◌, sym, ◌∙◌, length, drop, arith}
use Rattle.std.proofs.Math.Seq.{take-append_seam}
use Rattle.std.proofs.lemmas.List.{length-take-le}
use Rattle.products.specs.ProductBytes.{components_in}
use Rattle.rows.proofs.judge.Looking.{counts_refuse}
use Rattle.rows.proofs.judge.Answers.{refused_15}
use Rattle.rows.proofs.judge.read_product.Goals as goal

pub returns-in_default : goal.returns-in_default
returns-in_default c = refused_15 _ _ _ c.refuse.ensures (counts_refuse _ c.in_default.ensures)

pub returns-in_default-read_rows : goal.returns-in_default-read_rows
returns-in_default-read_rows c = refused_15 _ _ _ c.refuse-in_default-read_rows.ensures c.in_default-read_rows.ensures

pub returns : goal.returns
returns c =
    let counted = c.in-Some.ensures in
    let n = counted.1 in
    let few = counted.0.components_high in
    let size = length-take-le c.in-Some.n c.args.parts.now (omega arith) in
    let parts = c.judge_rows.new.parts in
    let long : components_in c.args.product.now ≡ length parts =
    sym (c.judge_rows.auto.parts ∙ c.read_rows.auto.parts ∙ size ∙ n) in
    rw (long, take-append_seam parts (drop c.in-Some.n c.args.parts.now)) (rw c.in-Some-read_rows.ensures.1 at c.judge_rows.ensures)
