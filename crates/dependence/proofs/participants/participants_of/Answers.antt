-- N3: one alphabet more, and all of them.
use Rattle.std.proofs.Common.{◌≡◌, subst, arith, length, ℕ, add-one}
use Rattle.dependence.proofs.participants.Entering.{EnteredBelow, below_zero, below_more, participants_made}
use Rattle.dependence.proofs.participants.participants_of.Goals as goal

pub loop-j-init : goal.loop-j-init
loop-j-init c = below_zero _ _ c.requires.1

pub loop-j-preserved : goal.loop-j-preserved
loop-j-preserved c =
    below_more c.args.components.now c.loop-j.j _ (add-one c.loop-j.j) c.loop-j.found _ c.loop-j.invariant c.enter.ensures

pub returns : goal.returns
returns c =
    let a = c.args in
    let all : c.loop-j.j ≡ length a.components.now = omega arith in
    let made : EnteredBelow a.components.now (length a.components.now) c.loop-j.found =
    subst (λ (k : ℕ). EnteredBelow a.components.now k c.loop-j.found) all c.loop-j.invariant in
    λ T A. participants_made T a.components.now c.loop-j.found A made
