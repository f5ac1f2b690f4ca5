-- N6: one alphabet more, and all of them.
use Rattle.std.proofs.Common.{◌≡◌, subst, arith, length, ℕ}
use Rattle.dependence.proofs.Dependence.{UnionMet, union_depends}
use Rattle.dependence.proofs.process.Meeting.{union_none, union_more}
use Rattle.dependence.proofs.process.actions_met.Goals as goal

pub loop-component-init : goal.loop-component-init
loop-component-init c = union_none c.args.components.now c.args.set

pub loop-component-preserved : goal.loop-component-preserved
loop-component-preserved c =
    union_more c.args.components.now c.args.set c.loop-component.component-index c.loop-component.met c.alphabet_met-met.result
    c.loop-component.invariant c.alphabet_met-met.ensures

pub returns : goal.returns
returns c =
    let a = c.args in
    let all : c.loop-component.component-index ≡ length a.components.now = omega arith in
    let whole : UnionMet a.components.now (length a.components.now) a.set c.loop-component.met =
    subst (λ (j : ℕ). UnionMet a.components.now j a.set c.loop-component.met) all c.loop-component.invariant in
    λ T order A. union_depends T order a.components.now A a.set c.loop-component.met c.ranges.set.fits whole
