-- B5: the rows are the last n * m bytes, and row g begins n * g bytes behind their begin.
use Rattle.std.proofs.Common.{arith}
use Rattle.rows.proofs.entries.Columns.{entry_told}
use Rattle.rows.proofs.product.Rows.number.Goals as goal

pub returns : goal.returns
returns c = let r = c.args.self.stand in entry_told _ _ _ _ _ _ r (let e = r.length_fits in omega arith)
