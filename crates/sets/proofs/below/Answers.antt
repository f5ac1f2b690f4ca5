-- S1: 1 shifted by less than 64 places loses no bit.
use Rattle.std.proofs.Common.{sym, ap, ◌∙◌, ℕ, ◌-◌, ◌^◌, ◌<◌, arith}
use Rattle.sets.proofs.AllBelow.{below_told, shifted}
use Rattle.sets.proofs.below.Goals as goal

pub returns-then-k-eq64 : goal.returns-then-k-eq64
returns-then-k-eq64 c = sym (ap (λ (k : ℕ). 2 ^ k - 1) c.if-k-eq64.true) ∙ below_told c.args.k

pub returns : goal.returns
returns c =
    let low : c.args.k < 64 = let l = c.if-k-eq64.false in omega arith in
    ap (λ (x : ℕ). x - 1) (shifted c.args.k low) ∙ below_told c.args.k
