-- Insertion into a rising step, as the normal form makes it (N8): two insertions commute, and just the one action is added.
-- By an action that depends on none of the step's, the step stays rising and free of dependence.
-- Assumes nothing.
use mathlib.Core.Path.{◌≡◌, refl, sym, ◌∙◌, ap}
use mathlib.Core.Logic.{◌≢◌}
use mathlib.Core.Bool.{Bool, true, false, cond, ◌&&◌, ◌||◌}
use mathlib.Core.List.{List, [], ◌∷◌}
use Prim.Native.Nat.{ℕ, suc, ◌≤◌, ◌<◌}
use native.Mathlib.Omega.{arith}
use lib.Dec.{leb}
use lib.ListN.{length}
use Rattle.sets.specs.Lists.{any_of, all_of, Rising, RisingAbove}
use Rattle.sets.proofs.Bools.{not_both, or_false, or_left_comm, and_left_comm, leb_true, leb_false}
use Rattle.traces.specs.Words.{Dependence}
use Rattle.traces.specs.Steps.{clash}
use Rattle.traces.specs.Foata.{insert_sorted}

-- the two cases of an insertion
pub data NearOrFar (a b : ℕ) (s : List ℕ) : Type 0 where
  near : a ≤ b → insert_sorted a (b ∷ s) ≡ a ∷ b ∷ s → NearOrFar a b s
  far : b < a → insert_sorted a (b ∷ s) ≡ b ∷ insert_sorted a s → NearOrFar a b s

pub near_or_far : (a b : ℕ) (s : List ℕ) → NearOrFar a b s
near_or_far a b s = go (leb a b) refl
  where
    go : (t : Bool) → leb a b ≡ t → NearOrFar a b s
    go true e = near ((leb_true a b).0 e) (ap (λ (t : Bool). cond t (a ∷ b ∷ s) (b ∷ insert_sorted a s)) e)
    go false e = far ((leb_false a b).0 e) (ap (λ (t : Bool). cond t (a ∷ b ∷ s) (b ∷ insert_sorted a s)) e)

pub insert_sorted_below : (a b : ℕ) (s : List ℕ) → a ≤ b → insert_sorted a (b ∷ s) ≡ a ∷ b ∷ s
insert_sorted_below a b s h = elim (near_or_far a b s) [ near _ e ↦ e | far l _ ↦ absurd (omega arith) ]

insert_sorted_above : (a b : ℕ) (s : List ℕ) → b < a → insert_sorted a (b ∷ s) ≡ b ∷ insert_sorted a s
insert_sorted_above a b s h = elim (near_or_far a b s) [ near l _ ↦ absurd (omega arith) | far _ e ↦ e ]

-- two actions that both come first in a step
insert_sorted_two : (a b : ℕ) (s : List ℕ) → insert_sorted a s ≡ a ∷ s → insert_sorted b s ≡ b ∷ s → insert_sorted a (b ∷ s) ≡ insert_sorted b (a ∷ s)
insert_sorted_two a b s p q = go (near_or_far a b s) (near_or_far b a s)
  where
    go : NearOrFar a b s → NearOrFar b a s → insert_sorted a (b ∷ s) ≡ insert_sorted b (a ∷ s)
    go (near h e) (near g f) = let same : a ≡ b = omega arith in cc
    go (near h e) (far g f) = cc
    go (far h e) (near g f) = cc
    go (far h e) (far g f) = absurd (omega arith)

-- two actions on either side of a step's first
insert_sorted_apart : (a b c : ℕ) (s : List ℕ) → a ≤ c → c < b → insert_sorted a (insert_sorted b (c ∷ s)) ≡ insert_sorted b (insert_sorted a (c ∷ s))
insert_sorted_apart a b c s h g =
    let before = insert_sorted_below a c s h in
    let behind = insert_sorted_above b c s g in
    cc (insert_sorted_below a c (insert_sorted b s) h, insert_sorted_above b a (c ∷ s) (omega arith))

pub insert_sorted_comm : (a b : ℕ) (s : List ℕ) → insert_sorted a (insert_sorted b s) ≡ insert_sorted b (insert_sorted a s)
insert_sorted_comm a b [] = insert_sorted_two a b [] refl refl
insert_sorted_comm a b (c ∷ s) = go (near_or_far a c s) (near_or_far b c s) (insert_sorted_comm a b s)
  where
    go : NearOrFar a c s → NearOrFar b c s → insert_sorted a (insert_sorted b s) ≡ insert_sorted b (insert_sorted a s)
        → insert_sorted a (insert_sorted b (c ∷ s)) ≡ insert_sorted b (insert_sorted a (c ∷ s))
    go (near h e) (near g f) r = ap (insert_sorted a) f ∙ insert_sorted_two a b (c ∷ s) e f ∙ ap (insert_sorted b) (sym e)
    go (near h e) (far g f) r = insert_sorted_apart a b c s h g
    go (far h e) (near g f) r = sym (insert_sorted_apart b a c s g h)
    go (far h e) (far g f) r = rw (e, f, insert_sorted_above a c (insert_sorted b s) h, insert_sorted_above b c (insert_sorted a s) g, r)

-- what is gathered from a list in any order is gathered from the action and the step
insert_sorted_gathered : {B : Type 0} (h : List ℕ → B) (f : ℕ → B → B) → ((x : ℕ) (s : List ℕ) → h (x ∷ s) ≡ f x (h s))
    → ((x y : ℕ) (z : B) → f x (f y z) ≡ f y (f x z)) → (a : ℕ) (s : List ℕ) → h (insert_sorted a s) ≡ f a (h s)
insert_sorted_gathered h f step comm a [] = step a []
insert_sorted_gathered h f step comm a (b ∷ s) = go (near_or_far a b s) (insert_sorted_gathered h f step comm a s)
  where
    go : NearOrFar a b s → h (insert_sorted a s) ≡ f a (h s) → h (insert_sorted a (b ∷ s)) ≡ f a (h (b ∷ s))
    go (near l e) r = ap h e ∙ step a (b ∷ s)
    go (far l e) r = ap h e ∙ step b (insert_sorted a s) ∙ ap (f b) r ∙ comm b a (h s) ∙ ap (f a) (sym (step b s))

pub any_of_insert_sorted : (p : ℕ → Bool) (a : ℕ) (s : List ℕ) → any_of p (insert_sorted a s) ≡ (p a || any_of p s)
any_of_insert_sorted p a s = insert_sorted_gathered (any_of p) (λ x b. p x || b) (λ x t. refl) (λ x y b. or_left_comm (p x) (p y) b) a s

pub all_of_insert_sorted : (p : ℕ → Bool) (a : ℕ) (s : List ℕ) → all_of p (insert_sorted a s) ≡ (p a && all_of p s)
all_of_insert_sorted p a s = insert_sorted_gathered (all_of p) (λ x b. p x && b) (λ x t. refl) (λ x y b. and_left_comm (p x) (p y) b) a s

pub insert_sorted_length : (a : ℕ) (s : List ℕ) → length (insert_sorted a s) ≡ suc (length s)
insert_sorted_length a s = insert_sorted_gathered length (λ x n. suc n) (λ x t. refl) (λ x y n. refl) a s

module _ (dep : ℕ → ℕ → Bool) (D : Dependence dep) where
  -- an action independent of a step is none of its actions
  other : (a b : ℕ) → dep a b ≡ false → a ≢ b
  other a b e q = not_both (ap (dep a) (sym q) ∙ D.reflexive a) e

  pub insert_sorted_rising_above : (i a : ℕ) (s : List ℕ) → any_of (dep a) s ≡ false → i < a → RisingAbove i s → RisingAbove i (insert_sorted a s)
  insert_sorted_rising_above i a [] e h r = (h, tt)
  insert_sorted_rising_above i a (b ∷ s) e h r = go (near_or_far a b s) (λ l. insert_sorted_rising_above b a s both.1 l r.1)
    where
      both : (dep a b ≡ false) × (any_of (dep a) s ≡ false)
      both = (or_false (dep a b) (any_of (dep a) s)).0 e

      go : NearOrFar a b s → (b < a → RisingAbove b (insert_sorted a s)) → RisingAbove i (insert_sorted a (b ∷ s))
      go (near l q) below = let ne = other a b both.0 in rw q (h, (omega arith, r.1))
      go (far l q) below = rw q (r.0, below l)

  pub insert_sorted_rising : (a : ℕ) (s : List ℕ) → any_of (dep a) s ≡ false → Rising s → Rising (insert_sorted a s)
  insert_sorted_rising a [] e r = tt
  insert_sorted_rising a (b ∷ s) e r = go (near_or_far a b s)
    where
      both : (dep a b ≡ false) × (any_of (dep a) s ≡ false)
      both = (or_false (dep a b) (any_of (dep a) s)).0 e

      go : NearOrFar a b s → Rising (insert_sorted a (b ∷ s))
      go (near l q) = let ne = other a b both.0 in rw q (omega arith, r)
      go (far l q) = rw q (insert_sorted_rising_above b a s both.1 l r)

  pub insert_sorted_clash : (a : ℕ) (s : List ℕ) → any_of (dep a) s ≡ false → clash dep s ≡ false → clash dep (insert_sorted a s) ≡ false
  insert_sorted_clash a [] e c = refl
  insert_sorted_clash a (b ∷ s) e c = go (near_or_far a b s) (insert_sorted_clash a s both.1 rest.1)
    where
      both : (dep a b ≡ false) × (any_of (dep a) s ≡ false)
      both = (or_false (dep a b) (any_of (dep a) s)).0 e

      rest : (any_of (dep b) s ≡ false) × (clash dep s ≡ false)
      rest = (or_false (any_of (dep b) s) (clash dep s)).0 c

      go : NearOrFar a b s → clash dep (insert_sorted a s) ≡ false → clash dep (insert_sorted a (b ∷ s)) ≡ false
      go (near l q) r = rw (q, e, rest.0, rest.1)
      go (far l q) r = rw (q, any_of_insert_sorted (dep b) a s, D.symmetric b a, both.0, rest.0, r)
