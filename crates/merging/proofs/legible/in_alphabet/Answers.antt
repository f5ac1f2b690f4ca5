-- R18: a label at or above 64 is in no alphabet.
use Rattle.std.proofs.Common.{sym, arith}
use Rattle.sets.proofs.Bools.{false_iff}
use Rattle.sets.proofs.Members.{member_lt}
use Rattle.merging.proofs.legible.in_alphabet.Goals as goal

pub returns : goal.returns
returns c =
    let a = c.args in
    sym ((false_iff _).1 (λ e. let l = member_lt 64 a.alphabet a.label c.ranges.alphabet.fits e in omega arith))
