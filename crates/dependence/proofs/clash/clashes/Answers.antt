-- R11: a clash is found where one action is taken after one was seen.
use Rattle.std.proofs.Common.{◌≡◌, sym, ◌∙◌, subst, arith, rules, false, ℕ, ◌≤◌, length, below_more}
use Rattle.std.proofs.Math.Nat.{lt_of_lt_of_le}
use Rattle.std.specs.Int.Bits.{bit_and}
use Rattle.sheet.specs.Sections.{alphabet_at}
use Rattle.dependence.proofs.clash.Clashing.{SeenSoFar, count_all, count_one, count_two, count_end, one_apart, passed_apart, two_clash}
use Rattle.dependence.proofs.clash.clashes.Goals as goal

pub returns-then-others-eq0 : goal.returns-then-others-eq0
returns-then-others-eq0 c = λ T A. sym (one_apart T c.take_lowest.ensures c.if-others-eq0.true)

pub loop-init : goal.loop-init
loop-init c =
    let x = bit_and c.args.step (alphabet_at c.args.components.now c.components.component-index) in
    let whole : c.into_iter-iterator.result.left ≡ x = search rules in
    subst (λ (left : ℕ). SeenSoFar x c.components.found left false) (sym whole) (count_all x c.components.invariant.unfound)

pub loop-preserved : goal.loop-preserved
loop-preserved c = count_one c.loop.invariant c.if-seen.false c.in-Some.ensures.steps

pub components-preserved : goal.components-preserved
components-preserved c =
    record {
      unfound = c.loop.invariant.unfound;
      few = below_more _ c.components.component-index c.components.invariant.few (count_end c.loop.invariant c.in-None.ensures.steps.0);
    }

pub returns-after-components : goal.returns-after-components
returns-after-components c =
    let a = c.args in
    let end : length a.components.now ≤ c.components.component-index = omega arith in
    λ T A.
    c.components.invariant.unfound
    ∙ sym (passed_apart T a.components.now A a.step (λ k h. c.components.invariant.few k (lt_of_lt_of_le h end)))

pub returns-then-seen : goal.returns-then-seen
returns-then-seen c =
    λ T A.
    sym (two_clash T c.args.components.now A c.args.step c.components.component-index c.components-test.true
    (count_two c.loop.invariant c.if-seen.true c.in-Some.ensures.steps))
