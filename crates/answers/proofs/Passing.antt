-- F1: an answer taken apart: one that is no accepted sheet is the refusal of its verdict, and is passed on as it is; an accepted one tells
-- the sizes.
-- Assumes nothing.
use mathlib.Core.Path.{◌≡◌, refl, ap, ap₂, ◌∙◌}
use mathlib.Core.List.{List, [], ◌∷◌}
use Prim.Native.Nat.{ℕ}
use native.Mathlib.Omega.{arith}
use Rattle.sheet.specs.Verdict.{Verdict, accepted, refused}
use Rattle.answers.specs.declared.Sizes.{Sizes}
use Rattle.answers.specs.declared.Refusal.{Refusal}
use Rattle.answers.specs.declared.Answer.{Answer}
use Rattle.answers.specs.declared.Answer.TheVariants.{Accepted, Given, Refused}
use Rattle.answers.specs.Outcomes.{Outcome, given, refused as refused_by, values, number_of, outcome_of, after}

-- what is known where `let Answer::Accepted(..) = a else` goes on with the else
abbrev pub NotAccepted : Answer → Type 0
NotAccepted a = (z : Sizes) → ¬ (a ≡ Accepted z)

-- what is known where `let Answer::Refused { .. } = a else` goes on with the else
abbrev pub NotRefused : Answer → Type 0
NotRefused a = (r : Refusal) (i s : ℕ) → ¬ (a ≡ Refused r i s)

-- the refusal that an answer is
pub record IsRefusal (a : Answer) (v : Verdict) : Type 0 where
  pub refusal : Refusal
  pub index : ℕ
  pub verdict_told : v ≡ refused (number_of refusal) index
  pub answer_told : a ≡ Refused refusal index 0

pub stopped_by : (a : Answer) → NotAccepted a → (v : Verdict) (n m t s : ℕ) → outcome_of a ≡ after v (given (n ∷ m ∷ t ∷ s ∷ [])) → IsRefusal a v
stopped_by (Accepted z) h v n m t s e = absurd (h z refl)
stopped_by (Given y) h (refused k i) n m t s e = let z : ◌≡◌ {A = ℕ} 0 1 = cc in absurd (omega arith)
stopped_by (Given y) h accepted n m t s e = let z : ◌≡◌ {A = ℕ} 0 1 = cc in absurd (omega arith)
stopped_by (Refused r i w) h (refused l j) n m t s e =
    let number : number_of r ≡ l = cc in
    let index : i ≡ j = cc in
    let sheet : w ≡ 0 = cc in
    record { refusal = r; index = i; verdict_told = cc; answer_told = cc }
stopped_by (Refused r i w) h accepted n m t s e = let z : ◌≡◌ {A = ℕ} 0 1 = cc in absurd (omega arith)

-- passed on as it is, whatever the call would give
pub stopped_told : {A : Type 0} {a : Answer} {v : Verdict} → IsRefusal a v → (f : A → List ℕ) (x : Outcome A) → outcome_of a ≡ values f (after v x)
stopped_told r f x = rw (r.verdict_told, r.answer_told) refl

pub passed_on : (a : Answer) → NotAccepted a → (v : Verdict) (n m t s : ℕ) → outcome_of a ≡ after v (given (n ∷ m ∷ t ∷ s ∷ []))
    → {A : Type 0} (f : A → List ℕ) (x : Outcome A) → outcome_of a ≡ values f (after v x)
passed_on a h v n m t s e f x = stopped_told (stopped_by a h v n m t s e) f x

-- ---- a verdict behind what was told

pub told_accepted : (z : Sizes) (v : Verdict) (n m t s : ℕ) → outcome_of (Accepted z) ≡ after v (given (n ∷ m ∷ t ∷ s ∷ []))
    → (v ≡ accepted) × (z.n ≡ n) × (z.m ≡ m) × (z.t ≡ t) × (z.s ≡ s)
told_accepted z accepted n m t s e = (refl, cc, cc, cc, cc)
told_accepted z (refused k i) n m t s e = let z : ◌≡◌ {A = ℕ} 0 1 = cc in absurd (omega arith)

pub told_refused : {A : Type 0} (k i w : ℕ) (v : Verdict) (x : A) → refused_by k i w ≡ after v (given x) → (v ≡ refused k i) × (w ≡ 0)
told_refused k i w accepted x e = let z : ◌≡◌ {A = ℕ} 0 1 = cc in absurd (omega arith)
told_refused k i w (refused l j) x e = (cc, cc)

-- an accepted sheet gets what was asked for
pub told_given : {A : Type 0} (f : A → List ℕ) (v : Verdict) (x : A) (l : List ℕ) → v ≡ accepted → l ≡ f x → given l ≡ values f (after v (given x))
told_given f v x l acc e = rw acc (ap given e)

-- two answers with the same sizes
abbrev sizes : ℕ → ℕ → ℕ → ℕ → Sizes
sizes n m t s = record { n = n; m = m; t = t; s = s }

pub same_sizes : (z w : Sizes) → outcome_of (Accepted z) ≡ outcome_of (Accepted w) → z ≡ w
same_sizes z w e =
    let n : z.n ≡ w.n = cc in
    let m : z.m ≡ w.m = cc in
    let t : z.t ≡ w.t = cc in
    let s : z.s ≡ w.s = cc in
    ap₂ (λ (x y : ℕ). sizes x y z.t z.s) n m ∙ ap₂ (λ (x y : ℕ). sizes w.n w.m x y) t s
