-- N7: the first step is followed by those that are left, each of these is compared with the one just before it, and in the end none is left.
use Rattle.std.proofs.Common.{◌≡◌, sym, ap, ◌∙◌, subst, inl, arith, length, ℕ, ◌+◌, ◌∷◌}
use Rattle.std.proofs.Math.Option.{some}
use Rattle.systems.specs.Independence.{dependent}
use Rattle.sheet.specs.Sections.{steps_in}
use Rattle.sheet.proofs.Sections.{steps_in_length}
use Rattle.numbers.specs.declared.Steps.{Steps}
use Rattle.numbers.specs.Steps.{steps_left}
use Rattle.dependence.proofs.process.Checking.{LeftDecides, first_decides, next_offends, next_follows, none_left, step_known, others_known}
use Rattle.dependence.proofs.process.first_offence.Goals as goal

-- the steps of the section are the first and those that the iterator has left
module _ (c : goal.After-into_iter-k-iterator) where
  same : c.into_iter-k-iterator.result.iter ≡ c.next.new.self
  same = cc

  zero : c.into_iter-k-iterator.result.count ≡ 0
  zero = cc

  all_steps : steps_in c.args.section.now ≡ c.in_ok-before.before ∷ steps_left c.into_iter-k-iterator.result.iter
  all_steps =
      ap steps_in (sym c.of-steps.ensures) ∙ c.in_ok-before.ensures.steps
      ∙ ap (λ (s : Steps). c.in_ok-before.before ∷ steps_left s) (sym same)

pub loop-k-init-derived : goal.loop-k-init-derived
loop-k-init-derived c =
    let count = ap length (all_steps c) in
    let steps = steps_in_length c.args.section.now in
    let none = zero c in
    ((tt, tt, inl (omega arith)), tt)

pub loop-k-init : goal.loop-k-init
loop-k-init c =
    let left = steps_left c.into_iter-k-iterator.result.iter in
    let first : 1 ≡ c.into_iter-k-iterator.result.count + 1 = let none = zero c in omega arith in
    λ T order A known. (
      subst (λ (k : ℕ). LeftDecides (dependent T) (steps_in c.args.section.now) c.in_ok-before.before k left) first
          (first_decides (dependent T) (steps_in c.args.section.now) c.in_ok-before.before left (all_steps c)),
      others_known T c.in_ok-before.before (steps_in c.args.section.now) left (all_steps c) known,
    )

pub loop-k-preserved : goal.loop-k-preserved
loop-k-preserved c =
    λ T order A known.
    let i = c.loop-k.invariant T order A known in
    let all = steps_in c.args.section.now in
    let old = c.loop-k.k-iterator in
    let new = c.next-in-loop-k.new.self in
    let turn = c.in-Some.ensures.steps in
    let compared = c.follows_step.ensures T order A (step_known T c.in-Some.step (steps_left old.iter) (steps_left new.iter) turn.0 i.1) in
    let follows = next_follows (dependent T) all c.loop-k.before (old.count + 1) (steps_left old.iter) i.0 c.in-Some.step (steps_left new.iter) turn.0
    c.follows_step.result compared c.if-not-follows_step.false in
    let counted : old.count + 1 ≡ new.count = sym turn.2 in (
      subst (λ (k : ℕ). LeftDecides (dependent T) all c.in-Some.step (k + 1) (steps_left new.iter)) counted follows,
      others_known T c.in-Some.step (steps_left old.iter) (steps_left new.iter) turn.0 i.1,
    )

pub returns-then-not-follows_step : goal.returns-then-not-follows_step
returns-then-not-follows_step c =
    λ T order A known.
    let i = c.loop-k.invariant T order A known in
    let all = steps_in c.args.section.now in
    let old = c.loop-k.k-iterator in
    let new = c.next-in-loop-k.new.self in
    let turn = c.in-Some.ensures.steps in
    let compared = c.follows_step.ensures T order A (step_known T c.in-Some.step (steps_left old.iter) (steps_left new.iter) turn.0 i.1) in
    next_offends (dependent T) all c.loop-k.before (old.count + 1) (steps_left old.iter) i.0 c.in-Some.step (steps_left new.iter) turn.0
    c.follows_step.result compared c.if-not-follows_step.true
    ∙ ap (λ (k : ℕ). some (k + 1)) (sym turn.1)

pub returns : goal.returns
returns c =
    λ T order A known.
    let i = c.loop-k.invariant T order A known in
    let old = c.loop-k.k-iterator in
    none_left (dependent T) (steps_in c.args.section.now) c.loop-k.before (old.count + 1) (steps_left old.iter) i.0 c.in-None.ensures.steps.0.0
