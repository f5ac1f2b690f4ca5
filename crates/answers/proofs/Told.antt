-- F10: an answer and the outcome that it tells fix each other: the number given, or the refusal.
-- Assumes nothing.
use mathlib.Core.Path.{◌≡◌, refl, sym, ap, ◌∙◌}
use mathlib.Core.Logic.{◌↔◌}
use mathlib.Core.Bool.{Bool, true, false}
use mathlib.Core.List.{List, [], ◌∷◌}
use mathlib.Core.Option.{Option, none, some}
use Prim.Native.Nat.{ℕ}
use native.Mathlib.Omega.{arith}
use lib.ListN.{get_or}
use Rattle.std.specs.Int.{from_bool}
use Rattle.traces.specs.Offences.{offending}
use Rattle.answers.specs.declared.Refusal.{Refusal}
use Rattle.answers.specs.declared.Refusal.TheVariants.{Length, Mark, Counts, Offsets, Record, UnusedAction, Transition, Order, TooManyActions}
use Rattle.answers.specs.declared.Refusal.TheVariants.{NotActions, Clash, NotEnabled, NoRoom, OtherTables, NotProduct, BadRow, IdleComponent}
use Rattle.answers.specs.declared.Refusal.TheVariants.{NotColumns, NoExecution}
use Rattle.answers.specs.declared.Answer.{Answer}
use Rattle.answers.specs.Outcomes.{Outcome, given, refused, values, one_value, bit, number_of, outcome_of, TellsRefusal}

pub is_given : (r : Answer) (x : ℕ) → outcome_of r ≡ given (one_value x) → r ≡ Answer.Given x
is_given (Answer.Accepted z) x e = let z : ◌≡◌ {A = ℕ} 0 1 = cc in absurd (omega arith)
is_given (Answer.Given y) x e = let q : y ≡ x = cc in ap Answer.Given q
is_given (Answer.Refused k i s) x e = let z : ◌≡◌ {A = ℕ} 0 1 = cc in absurd (omega arith)

-- ---- the number of a refusal, which no other refusal has (O4)

-- the refusals in the order of their numbers; there is no refusal 0
abbrev refusal_with : ℕ → Refusal
refusal_with k =
    get_or
    (Length ∷ Length ∷ Mark ∷ Counts ∷ Offsets ∷ Record ∷ UnusedAction ∷ Transition ∷ Order ∷ TooManyActions ∷ NotActions ∷ Clash ∷ NotEnabled
    ∷ NoRoom ∷ OtherTables ∷ NotProduct ∷ BadRow ∷ IdleComponent ∷ NotColumns ∷ NoExecution ∷ [])
    k
    Length

with_number : (r : Refusal) → refusal_with (number_of r) ≡ r
with_number Length = refl
with_number Mark = refl
with_number Counts = refl
with_number Offsets = refl
with_number Record = refl
with_number UnusedAction = refl
with_number Transition = refl
with_number Order = refl
with_number TooManyActions = refl
with_number NotActions = refl
with_number Clash = refl
with_number NotEnabled = refl
with_number NoRoom = refl
with_number OtherTables = refl
with_number NotProduct = refl
with_number BadRow = refl
with_number IdleComponent = refl
with_number NotColumns = refl
with_number NoExecution = refl

pub refusal_only : (r q : Refusal) → number_of r ≡ number_of q → r ≡ q
refusal_only r q e = sym (with_number r) ∙ ap refusal_with e ∙ with_number q

pub is_refused : (a : Answer) (r : Refusal) (i s : ℕ) → TellsRefusal a (number_of r) i s → a ≡ Answer.Refused r i s
is_refused (Answer.Accepted z) r i s e = let z : ◌≡◌ {A = ℕ} 0 1 = cc in absurd (omega arith)
is_refused (Answer.Given y) r i s e = let z : ◌≡◌ {A = ℕ} 0 1 = cc in absurd (omega arith)
is_refused (Answer.Refused q j t) r i s e = let number : number_of q ≡ number_of r = cc in let same = refusal_only q r number in cc

-- a refusal that is told is one answer
pub same_refusal : (a b : Answer) (k i s : ℕ) → TellsRefusal a k i s → TellsRefusal b k i s → a ≡ b
same_refusal (Answer.Accepted z) b k i s e f = let z : ◌≡◌ {A = ℕ} 0 1 = cc in absurd (omega arith)
same_refusal (Answer.Given y) b k i s e f = let z : ◌≡◌ {A = ℕ} 0 1 = cc in absurd (omega arith)
same_refusal (Answer.Refused q j t) b k i s e f = sym (is_refused b q j t (f ∙ sym e))

-- ---- a refusal, whatever would be told

module _ {A : Type 0} (f : A → List ℕ) where
  pub refused_only : (o : Outcome A) (k i s : ℕ) → refused k i s ≡ values f o → o ≡ refused k i s
  refused_only (given x) k i s e = let z : ◌≡◌ {A = ℕ} 0 1 = cc in absurd (omega arith)
  refused_only (refused l j t) k i s e = cc

  pub refused_told : (r : Answer) (o : Outcome A) → outcome_of r ≡ values f o → (k i s : ℕ) → o ≡ refused k i s → TellsRefusal r k i s
  refused_told r o t k i s e = t ∙ ap (values f) e

-- ---- a number that stands for one thing only

module _ {A : Type 0} (number : A → ℕ) (only : (x y : A) → number x ≡ number y → x ≡ y) where
  abbrev numbered : Outcome A → Outcome (List ℕ)
  numbered o = values (λ (x : A). one_value (number x)) o

  given_only : (o : Outcome A) (x : A) → given (one_value (number x)) ≡ numbered o → o ≡ given x
  given_only (given y) x e = let q : number y ≡ number x = cc in ap given (only y x q)
  given_only (refused k i s) x e = let z : ◌≡◌ {A = ℕ} 0 1 = cc in absurd (omega arith)

  given_exactly : (r : Answer) (o : Outcome A) → outcome_of r ≡ numbered o → (x : A) → (r ≡ Answer.Given (number x)) ↔ (o ≡ given x)
  given_exactly r o t x = (λ e. given_only o x (sym (ap outcome_of e) ∙ t), λ e. is_given r (number x) (t ∙ ap numbered e))

pub number_only : (o : Outcome ℕ) (x : ℕ) → given (one_value x) ≡ values one_value o → o ≡ given x
number_only o x e = given_only (λ y. y) (λ x y q. q) o x e

pub number_exactly : (r : Answer) (o : Outcome ℕ) → outcome_of r ≡ values one_value o → (x : ℕ) → (r ≡ Answer.Given x) ↔ (o ≡ given x)
number_exactly r o t x = given_exactly (λ y. y) (λ x y q. q) r o t x

-- a `bool` as the library makes a number of it
pub bit_from : (x : Bool) → from_bool x ≡ bit x
bit_from true = refl
bit_from false = refl

bit_only : (x y : Bool) → bit x ≡ bit y → x ≡ y
bit_only true true e = refl
bit_only true false e = absurd (omega arith)
bit_only false true e = absurd (omega arith)
bit_only false false e = refl

pub bit_exactly : (r : Answer) (o : Outcome Bool) → outcome_of r ≡ values (λ t. one_value (bit t)) o → (x : Bool)
    → (r ≡ Answer.Given (bit x)) ↔ (o ≡ given x)
bit_exactly r o t x = given_exactly bit bit_only r o t x

offending_only : (x y : Option ℕ) → offending x ≡ offending y → x ≡ y
offending_only none none e = refl
offending_only none (some j) e = absurd (omega arith)
offending_only (some i) none e = absurd (omega arith)
offending_only (some i) (some j) e = let same : i ≡ j = omega arith in ap some same

pub offence_exactly : (r : Answer) (o : Outcome (Option ℕ)) → outcome_of r ≡ values (λ x. one_value (offending x)) o → (x : Option ℕ)
    → (r ≡ Answer.Given (offending x)) ↔ (o ≡ given x)
offence_exactly r o t x = given_exactly offending offending_only r o t x
