-- `transitions::transition_wrong`, which serves R7: the tests are those of refusal 7, of the higher state and of the label; where there is no component, one of no
-- states was handed over.
-- Assumes nothing.
use Rattle.std.proofs.Common.{◌≡◌, refl, ap, ◌∙◌, arith, List, ℕ, ◌<◌, ◌≤◌, length, get_or}
use Prim.Native.Nat.{max}
use Rattle.std.specs.Prelude.{Bool, true, false, not, ◌||◌, leb, eqb}
use mathlib.Core.Logic.{inl, inr}
use Rattle.std.proofs.lemmas.Bool.{cases_lt}
use Rattle.std.proofs.lemmas.List.{get_or_past}
use Rattle.sets.specs.Bits.{member}
use Rattle.sets.proofs.Bools.{leb_true, leb_false}
use Rattle.systems.specs.Tables.{Transition, Tables, internal}
use Rattle.sheet.specs.declared.Component.{Component}
use Rattle.sheet.specs.Refusals.{transition_wrong}
use Rattle.sheet.specs.Sections.{no_component, Decoded}
use Rattle.numbers.specs.transitions.Transitions.{told}
use Rattle.reading.proofs.transitions.transition_wrong.Goals as goal

no_such : (T : Tables) (t : Transition) (n : ℕ) (r : Bool) → T.components ≤ t.component → n ≡ 0
    → ((leb n t.source || leb n t.target) || r) ≡ transition_wrong T t
unfolding transition_wrong
no_such T t n r h e = rw ((leb_true n t.source).1 (omega arith), (leb_true T.components t.component).1 h)

tested : (T : Tables) (t : Transition) (c : Component) → t.component < T.components → c.states ≡ T.states t.component
    → c.alphabet ≡ T.alphabet t.component
    → ((leb c.states t.source || leb c.states t.target) || not (eqb t.label internal || member c.alphabet t.label)) ≡ transition_wrong T t
unfolding transition_wrong
tested T t c h es ea = rw ((leb_false T.components t.component).1 h, ← es, ← ea)

found : (T : Tables) (t : Transition) (l : List Component) (c : Component) → Decoded T l → c ≡ get_or l t.component no_component
    → ((leb c.states t.source || leb c.states t.target) || not (eqb t.label internal || member c.alphabet t.label)) ≡ transition_wrong T t
found T t l c D is =
    elim (cases_lt t.component (length l)) [
      | inl low ↦
          tested T t c (omega (arith, D.count)) (ap (λ (x : Component). x.states) is ∙ D.states_told t.component low)
          (ap (λ (x : Component). x.alphabet) is ∙ D.alphabet_told t.component low)
      | inr past ↦
          no_such T t c.states _ (omega (arith, D.count)) (ap (λ (x : Component). x.states) (is ∙ get_or_past l t.component no_component past))
    ]

first : (p q r : Bool) → p ≡ true → true ≡ ((p || q) || r)
first p q r e = rw e refl

second : (p q r : Bool) → q ≡ true → true ≡ ((p || q) || r)
second true q r e = refl
second false q r e = rw e refl

third : (p q r : Bool) → p ≡ false → q ≡ false → r ≡ ((p || q) || r)
third p q r e f = rw (e, f) refl

pub returns-then-component-from : goal.returns-then-component-from
returns-then-component-from c T l D is =
    let t = told c.args.transition in
    let k = c.args.component in
    let high : k.states ≤ max t.source t.target = omega (arith, c.max-highest.ensures, c.from.ensures, c.if-component-from.true) in
    (leb_true k.states c.from.result).1 c.if-component-from.true
    ∙ elim (cases_lt t.source k.states) [
      | inl below ↦ second _ _ _ ((leb_true k.states t.target).1 (omega (arith, high, below))) ∙ found T t l k D is
      | inr above ↦ first _ _ _ ((leb_true k.states t.source).1 above) ∙ found T t l k D is
    ]

pub returns-else-component-from : goal.returns-else-component-from
returns-else-component-from c T l D is =
    let t = told c.args.transition in
    let k = c.args.component in
    let low : max t.source t.target < k.states = omega (arith, c.max-highest.ensures, c.from.ensures, c.if-component-from.false) in
    c.label_wrong.ensures
    ∙ third _ _ _ ((leb_false k.states t.source).1 (omega (arith, low))) ((leb_false k.states t.target).1 (omega (arith, low)))
    ∙ found T t l k D is
