-- R15: the counts fit exactly where no test finds one out of range.
use Rattle.sets.proofs.Bools.{not_both}
use Rattle.rows.proofs.judge.Looking.{counts_told, n_read, m_read}
use Rattle.rows.proofs.judge.counts.Goals as goal

pub returns-then-n-m : goal.returns-then-n-m
returns-then-n-m c =
    let n = n_read c.args.product.now _ c.from-n.ensures in
    let m = m_read c.args.product.now _ c.from-m.ensures in
    λ f. not_both c.if-n-m.true ((counts_told _ _ _ n m c.in-len2-up.len_at_least).1 f)

pub returns : goal.returns
returns c =
    let n = n_read c.args.product.now _ c.from-n.ensures in
    let m = m_read c.args.product.now _ c.from-m.ensures in
    ((counts_told _ _ _ n m c.in-len2-up.len_at_least).0 c.if-n-m.false, n, m)
