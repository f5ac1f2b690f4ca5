-- V1, V5: what a word cut down to some actions has and how it is put together; a word without the first occurrence of an action; and, over
-- any alphabets that cover a dependence, that two words are related exactly when they are the same, cut down to each alphabet.
-- Assumes nothing.
use mathlib.Core.Path.{◌≡◌, refl, sym, ◌∙◌, ap, ap₂}
use mathlib.Core.Logic.{◌↔◌, ◌⊎◌, inl, inr, ◌≢◌}
use mathlib.Core.Bool.{Bool, true, false, cond, ◌&&◌, and_comm}
use mathlib.Core.List.Memᴰ
use mathlib.Core.List.{List, [], ◌∷◌, ◌++◌, Memᴰ}
use Prim.Native.Nat.{ℕ, ◌<◌}
use native.Mathlib.Omega.{arith}
use lib.Dec.{eqb}
use Rattle.sets.specs.Lists.{keep}
use Rattle.sets.proofs.Bools.{true_or_false, not_both, eqb_true, eqb_false, false_iff}
use Rattle.sets.proofs.Lists.{keep_true, keep_false, keep_append, keep_tail}
use Rattle.traces.specs.Words.{Dependence, Swap, here, later, Related, unchanged, swap}
use Rattle.traces.specs.Projections.{projection, Covers, AllDependent, SameProjections}
use Rattle.traces.proofs.Swaps.{related_trans, related_sym, related_later}

-- ---- a word that begins with an action

nil_cons : {a : ℕ} {w : List ℕ} → [] ≡ a ∷ w → ⊥
nil_cons e = let z : ◌≡◌ {A = ℕ} 0 1 = cc in omega arith

heads : {a b : ℕ} {u v : List ℕ} → a ∷ u ≡ b ∷ v → (a ≡ b) × (u ≡ v)
heads e = (cc, cc)

-- ---- what a projection has, and how it is put together (V1)

-- V1: a projection of two words, one behind the other
pub projection_append : (p : ℕ → Bool) (u v : List ℕ) → projection p (u ++ v) ≡ projection p u ++ projection p v
projection_append p [] v = refl
projection_append p (a ∷ u) v = ap (keep (p a) a) (projection_append p u v) ∙ keep_append (p a) a (projection p u) (projection p v)

from_projection : (p : ℕ → Bool) (w : List ℕ) {a : ℕ} → Memᴰ a (projection p w) → Memᴰ a w × (p a ≡ true)
from_projection p [] m = absurd (Memᴰ.not-nil m)
from_projection p (b ∷ w) {a} m = go (from_projection p w) (true_or_false (p b))
  where
    first : p b ≡ true → (Memᴰ a (projection p w) → Memᴰ a w × (p a ≡ true)) → (a ≡ b) ⊎ Memᴰ a (projection p w)
        → Memᴰ a (b ∷ w) × (p a ≡ true)
    first h rest (inl e) = (Memᴰ.head e, ap p e ∙ h)
    first h rest (inr n) = let r = rest n in (Memᴰ.tail r.0, r.1)

    go : (Memᴰ a (projection p w) → Memᴰ a w × (p a ≡ true)) → (p b ≡ true) ⊎ (p b ≡ false)
        → Memᴰ a (b ∷ w) × (p a ≡ true)
    go rest (inl h) = first h rest (Memᴰ.cases_cons (rw (keep_true (p b) b (projection p w) h) at m))
    go rest (inr h) = let r = rest (rw (keep_false (p b) b (projection p w) h) at m) in (Memᴰ.tail r.0, r.1)

into_projection : (p : ℕ → Bool) (w : List ℕ) {a : ℕ} → Memᴰ a w → p a ≡ true → Memᴰ a (projection p w)
into_projection p [] {a = a} x'' h = elim x'' [ ]
into_projection p (b ∷ w) (Memᴰ.head e) h = rw (keep_true (p b) b (projection p w) (ap p (sym e) ∙ h)) (Memᴰ.head e)
into_projection p (b ∷ w) (Memᴰ.tail m) h = keep_tail (p b) b (projection p w) (into_projection p w m h)

-- V1: a projection has the actions of the word that pass the test
pub projection_mem : (p : ℕ → Bool) (w : List ℕ) {a : ℕ} → Memᴰ a (projection p w) ↔ (Memᴰ a w × (p a ≡ true))
projection_mem p w = (from_projection p w, λ h. into_projection p w h.0 h.1)

projection_keep : (p : ℕ → Bool) (b : Bool) (a : ℕ) (w : List ℕ) → projection p (keep b a w) ≡ keep (b && p a) a (projection p w)
projection_keep p true a w = refl
projection_keep p false a w = refl

-- V1: of two cuts either may come first
pub projection_comm : (p q : ℕ → Bool) (w : List ℕ) → projection p (projection q w) ≡ projection q (projection p w)
projection_comm p q [] = refl
projection_comm p q (a ∷ w) =
    projection_keep p (q a) a (projection q w)
    ∙ ap₂ (λ (b : Bool) (u : List ℕ). keep b a u) (and_comm (q a) (p a)) (projection_comm p q w)
    ∙ sym (projection_keep q (p a) a (projection p w))

-- ---- a word without the first occurrence of an action

-- V1: a word without the first occurrence of an action
abbrev pub without : ℕ → List ℕ → List ℕ
without a [] = []
without a (b ∷ w) = cond (eqb b a) w (b ∷ without a w)

-- V1: no action is new in it
pub mem_without : (a : ℕ) (w : List ℕ) {b : ℕ} → Memᴰ b (without a w) → Memᴰ b w
mem_without a [] m = m
mem_without a (c ∷ w) {b} m = go (mem_without a w) (true_or_false (eqb c a))
  where
    other : (Memᴰ b (without a w) → Memᴰ b w) → (b ≡ c) ⊎ Memᴰ b (without a w) → Memᴰ b (c ∷ w)
    other rest (inl e) = Memᴰ.head e
    other rest (inr n) = Memᴰ.tail (rest n)

    go : (Memᴰ b (without a w) → Memᴰ b w) → (eqb c a ≡ true) ⊎ (eqb c a ≡ false) → Memᴰ b (c ∷ w)
    go rest (inl h) = Memᴰ.tail (rw h at m)
    go rest (inr h) = other rest (Memᴰ.cases_cons (rw h at m))

-- V1: an action that heads a projection, taken from the word, is taken from it
pub projection_without_own : (p : ℕ → Bool) (a : ℕ) (w v : List ℕ) → p a ≡ true → projection p w ≡ a ∷ v
    → projection p (without a w) ≡ v
projection_without_own p a [] v h e = absurd (nil_cons e)
projection_without_own p a (b ∷ w) v h e = go (projection_without_own p a w v h) (true_or_false (eqb b a))
  where
    other : eqb b a ≡ false → (projection p w ≡ a ∷ v → projection p (without a w) ≡ v) → (p b ≡ true) ⊎ (p b ≡ false)
        → projection p (b ∷ without a w) ≡ v
    other f rest (inl q) = absurd ((eqb_false b a).0 f (heads (sym (keep_true (p b) b (projection p w) q) ∙ e)).0)
    other f rest (inr q) = keep_false (p b) b (projection p (without a w)) q ∙ rest (sym (keep_false (p b) b (projection p w) q) ∙ e)

    go : (projection p w ≡ a ∷ v → projection p (without a w) ≡ v) → (eqb b a ≡ true) ⊎ (eqb b a ≡ false)
        → projection p (without a (b ∷ w)) ≡ v
    go rest (inl f) = rw f (heads (sym (keep_true (p b) b (projection p w) (ap p ((eqb_true b a).0 f) ∙ h)) ∙ e)).1
    go rest (inr f) = rw f (other f rest (true_or_false (p b)))

-- V1: one that does not pass the test is missed in no projection
pub projection_without_other : (p : ℕ → Bool) (a : ℕ) (w : List ℕ) → p a ≡ false → projection p (without a w) ≡ projection p w
projection_without_other p a [] h = refl
projection_without_other p a (b ∷ w) h = go (projection_without_other p a w h) (true_or_false (eqb b a))
  where
    go : projection p (without a w) ≡ projection p w → (eqb b a ≡ true) ⊎ (eqb b a ≡ false)
        → projection p (without a (b ∷ w)) ≡ keep (p b) b (projection p w)
    go rest (inl f) = rw f (sym (keep_false (p b) b (projection p w) (ap p ((eqb_true b a).0 f) ∙ h)))
    go rest (inr f) = rw f (ap (keep (p b) b) rest)

-- ---- words that are the same, cut down to each of the alphabets that cover a dependence (V5)

keep_swap : (p q : Bool) (a b : ℕ) (w : List ℕ) → ¬ ((p ≡ true) × (q ≡ true)) → keep p a (keep q b w) ≡ keep q b (keep p a w)
keep_swap true true a b w h = absurd (h (refl, refl))
keep_swap true false a b w h = refl
keep_swap false q a b w h = refl

module _ (dep : ℕ → ℕ → Bool) (count : ℕ) (has : ℕ → ℕ → Bool) (A : AllDependent dep count has) where
  swap_projections : {u v : List ℕ} → Swap dep u v → (j : ℕ) → j < count → projection (has j) u ≡ projection (has j) v
  swap_projections (here {a = a} {b = b} {w = w} e) j l =
      keep_swap (has j a) (has j b) a b (projection (has j) w) (λ h. not_both (A j l a b h.0 h.1) e)
  swap_projections (later {a = a} s) j l = ap (keep (has j a) a) (swap_projections s j l)

  -- V5: no swap changes a projection
  pub related_projections : {u v : List ℕ} → Related dep u v → SameProjections count has u v
  related_projections unchanged j l = refl
  related_projections (swap s r) j l = swap_projections s j l ∙ related_projections r j l

module _ (dep : ℕ → ℕ → Bool) (D : Dependence dep) (count : ℕ) (has : ℕ → ℕ → Bool) (m : ℕ) (C : Covers dep count has m) where
  -- a heads each projection of v to an alphabet that has it
  abbrev Leads : ℕ → List ℕ → Type 0
  Leads a v = (j : ℕ) → j < count → has j a ≡ true → (r : List ℕ) × (projection (has j) v ≡ a ∷ r)

  -- such an action may stand first: every action before it is independent of it
  leads_related : (a : ℕ) (v : List ℕ) → a < m → ((b : ℕ) → Memᴰ b v → b < m) → Leads a v → Related dep v (a ∷ without a v)
  leads_related a [] l o h = let (j, k, x, y) = C a a l l (D.reflexive a) in absurd (nil_cons (h j k x).1)
  leads_related a (b ∷ v) l o h = go (leads_related a v l (λ c n. o c (Memᴰ.tail n))) (true_or_false (eqb b a))
    where
      -- another action in front is in no alphabet that has a
      out : b ≢ a → (j : ℕ) → j < count → has j a ≡ true → has j b ≡ false
      out n j k x =
          (false_iff (has j b)).1 (λ y. n (heads (sym (keep_true (has j b) b (projection (has j) v) y) ∙ (h j k x).1)).0)

      leads : b ≢ a → Leads a v
      leads n j k x = let r = h j k x in (r.0, sym (keep_false (has j b) b (projection (has j) v) (out n j k x)) ∙ r.1)

      free : b ≢ a → dep b a ≡ false
      free n =
          (false_iff (dep b a)).1 (λ e.
          let s = C b a (o b (Memᴰ.head refl)) l e in
          not_both s.2 (out n s.0 s.1 s.3))

      go : (Leads a v → Related dep v (a ∷ without a v)) → (eqb b a ≡ true) ⊎ (eqb b a ≡ false)
          → Related dep (b ∷ v) (a ∷ without a (b ∷ v))
      go rest (inl e) = rw (e, (eqb_true b a).0 e) unchanged
      go rest (inr e) =
          let n = (eqb_false b a).0 e in
          rw e (related_trans dep D (related_later dep D b (rest (leads n))) (swap (here (free n)) unchanged))

  none_left : (v : List ℕ) → ((b : ℕ) → Memᴰ b v → b < m) → SameProjections count has [] v → Related dep [] v
  none_left [] o s = unchanged
  none_left (b ∷ v) o s =
      let l = o b (Memᴰ.head refl) in
      let (j, k, x, y) = C b b l l (D.reflexive b) in
      absurd (nil_cons (s j k ∙ keep_true (has j b) b (projection (has j) v) x))

  -- V5: words that have the same projections are related
  pub projections_related : (u v : List ℕ) → ((a : ℕ) → Memᴰ a u → a < m) → ((a : ℕ) → Memᴰ a v → a < m)
      → SameProjections count has u v → Related dep u v
  projections_related [] v o p s = none_left v p s
  projections_related (a ∷ u) v o p s =
      related_trans dep D
      (related_later dep D a (projections_related u (without a v) (λ b n. o b (Memᴰ.tail n)) (λ b n. p b (mem_without a v n)) same))
      (related_sym dep D (leads_related a v (o a (Memᴰ.head refl)) p leads))
    where
      begins : (j : ℕ) → j < count → has j a ≡ true → projection (has j) v ≡ a ∷ projection (has j) u
      begins j l x = sym (s j l) ∙ keep_true (has j a) a (projection (has j) u) x

      leads : Leads a v
      leads j l x = (projection (has j) u, begins j l x)

      same : SameProjections count has u (without a v)
      same j l = go (true_or_false (has j a))
        where
          go : (has j a ≡ true) ⊎ (has j a ≡ false) → projection (has j) u ≡ projection (has j) (without a v)
          go (inl x) = sym (projection_without_own (has j) a v (projection (has j) u) x (begins j l x))
          go (inr x) =
              sym (keep_false (has j a) a (projection (has j) u) x) ∙ s j l ∙ sym (projection_without_other (has j) a v x)
