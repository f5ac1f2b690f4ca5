-- Both tests are computed exactly (R10, R11).
use Rattle.std.proofs.Common.{refl, sym, ◌∙◌}
use Rattle.machine.proofs.flaws.FlawNumbers.{misses_told, flaw_by}
use Rattle.machine.proofs.flaws.flaw_of.Goals as goal

pub returns-then-misses : goal.returns-then-misses
returns-then-misses c T A e = flaw_by T _ (misses_told T _ e c.misses.ensures c.if-misses.true) refl

pub returns-then-clashes : goal.returns-then-clashes
returns-then-clashes c T A e =
    flaw_by T _ (misses_told T _ e c.misses.ensures c.if-misses.false) (sym (c.clashes.ensures T A) ∙ c.if-clashes.true)

pub returns : goal.returns
returns c T A e =
    sym (flaw_by T _ (misses_told T _ e c.misses.ensures c.if-misses.false) (sym (c.clashes.ensures T A) ∙ c.if-clashes.false))
