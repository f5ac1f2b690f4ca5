-- R16: the alphabets lack a row exactly when their union lacks it.
use Rattle.std.proofs.Common.{ap, ◌∙◌, ℕ, not, eqb, bit_and}
use Rattle.rows.proofs.judge.Alphabets.{lacking_row}
use Rattle.rows.proofs.judge.row_unused.Goals as goal

pub returns : goal.returns
returns c =
    let used = c.rows_used.result in
    ap (λ (all : ℕ). not (eqb (bit_and used all) all)) c.below-rows.ensures ∙ lacking_row used c.args.m _ c.rows_used.ensures.exact
