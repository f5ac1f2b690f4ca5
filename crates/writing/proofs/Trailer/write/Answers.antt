-- S6: the three offsets and then the counts, each written in the rest that the one before left.
use Rattle.std.proofs.Common.{refl, ap, ◌∙◌, ◌++◌, ◌∷◌, ◌*◌, ℕ}
use Rattle.sets.specs.Lists.{over}
use Rattle.sheet.specs.Numbers.{bytes}
use Rattle.sheet.specs.Layout.{mark}
use Rattle.sheet.specs.Writing.{trailer}
use Rattle.writing.proofs.Lending.{lent_over}
use Rattle.writing.proofs.Trailer.write.Goals as goal

pub returns : goal.returns
unfolding trailer
returns c =
    let a = c.args.self in
    let out = c.args.out.now in
    let t = 16 * c.from.result in
    let one = c.put.ensures in
    let two = lent_over (bytes 2 0) (bytes 2 t) out one refl refl c.put-2.ensures in
    let three = lent_over (bytes 2 0 ++ bytes 2 t) (bytes 2 a.s) out two refl refl c.put-3.ensures in
    lent_over (bytes 2 0 ++ bytes 2 t ++ bytes 2 a.s) (a.n ∷ a.m ∷ mark) out three refl refl c.write_counts.ensures
    ∙ ap (λ (x : ℕ). over (bytes 2 0 ++ bytes 2 (16 * x) ++ bytes 2 a.s ++ (a.n ∷ a.m ∷ mark)) out) c.from.ensures
