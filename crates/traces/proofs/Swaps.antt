-- Q9, N5: relatedness is an equivalence and a congruence for putting words one behind another; it keeps the actions and their number.
-- Any two orders of one independent step are related.
-- Assumes nothing.
use mathlib.Core.Path.{◌≡◌, refl, sym, ◌∙◌, ap, subst}
use mathlib.Core.Logic.{◌↔◌, ◌⊎◌, inl, inr, ◌≢◌}
use mathlib.Core.Bool.{Bool, false}
use mathlib.Core.List.Memᴰ
use mathlib.Core.List.{List, [], ◌∷◌, ◌++◌, Memᴰ}
use Prim.Native.Nat.{ℕ}
use lib.ListN.{length}
use Rattle.sets.specs.Lists.{any_of, Distinct}
use Rattle.sets.proofs.Bools.{not_both, or_false}
use Rattle.sets.proofs.Lists.{any_of_false}
use Rattle.traces.specs.Words.{Dependence, Swap, here, later, Related, unchanged, swap}
use Rattle.traces.specs.Steps.{clash}

-- ---- related words (Q9, N5)

module _ (dep : ℕ → ℕ → Bool) (D : Dependence dep) where
  pub related_trans : {u v w : List ℕ} → Related dep u v → Related dep v w → Related dep u w
  related_trans unchanged r = r
  related_trans (swap s q) r = swap s (related_trans q r)

  pub swap_sym : {u v : List ℕ} → Swap dep u v → Swap dep v u
  swap_sym (here {a = a} {b = b} e) = here (D.symmetric b a ∙ e)
  swap_sym (later s) = later (swap_sym s)

  pub related_sym : {u v : List ℕ} → Related dep u v → Related dep v u
  related_sym unchanged = unchanged
  related_sym (swap s r) = related_trans (related_sym r) (swap (swap_sym s) unchanged)

  pub related_later : (a : ℕ) {u v : List ℕ} → Related dep u v → Related dep (a ∷ u) (a ∷ v)
  related_later a unchanged = unchanged
  related_later a (swap s r) = swap (later s) (related_later a r)

  pub related_before : (w : List ℕ) {u v : List ℕ} → Related dep u v → Related dep (w ++ u) (w ++ v)
  related_before [] r = r
  related_before (a ∷ w) r = related_later a (related_before w r)

  swap_behind : {u v : List ℕ} (w : List ℕ) → Swap dep u v → Swap dep (u ++ w) (v ++ w)
  swap_behind w (here e) = here e
  swap_behind w (later s) = later (swap_behind w s)

  pub related_behind : {u v : List ℕ} (w : List ℕ) → Related dep u v → Related dep (u ++ w) (v ++ w)
  related_behind w unchanged = unchanged
  related_behind w (swap s r) = swap (swap_behind w s) (related_behind w r)

  swap_mem : {u v : List ℕ} {a : ℕ} → Swap dep u v → Memᴰ a u → Memᴰ a v
  swap_mem {a = c} (here {a = a} {b = b} {w = w} e) m = first (Memᴰ.cases_cons m)
    where
      second : (c ≡ b) ⊎ Memᴰ c w → Memᴰ c (b ∷ a ∷ w)
      second (inl q) = Memᴰ.head q
      second (inr n) = Memᴰ.tail (Memᴰ.tail n)

      first : (c ≡ a) ⊎ Memᴰ c (b ∷ w) → Memᴰ c (b ∷ a ∷ w)
      first (inl q) = Memᴰ.tail (Memᴰ.head q)
      first (inr n) = second (Memᴰ.cases_cons n)
  swap_mem {a = c} (later {a = a} {u = u} {v = v} s) m = go (λ (n : Memᴰ c u). swap_mem s n) (Memᴰ.cases_cons m)
    where
      go : (Memᴰ c u → Memᴰ c v) → (c ≡ a) ⊎ Memᴰ c u → Memᴰ c (a ∷ v)
      go f (inl q) = Memᴰ.head q
      go f (inr n) = Memᴰ.tail (f n)

  pub related_mem : {u v : List ℕ} {a : ℕ} → Related dep u v → Memᴰ a u → Memᴰ a v
  related_mem unchanged m = m
  related_mem (swap s r) m = related_mem r (swap_mem s m)

  swap_length : {u v : List ℕ} → Swap dep u v → length u ≡ length v
  swap_length (here e) = refl
  swap_length (later s) = rw (swap_length s)

  pub related_length : {u v : List ℕ} → Related dep u v → length u ≡ length v
  related_length unchanged = refl
  related_length (swap s r) = swap_length s ∙ related_length r

  swap_distinct : {u v : List ℕ} → Swap dep u v → Distinct u → Distinct v
  swap_distinct (here {a = a} {b = b} {w = w} e) d = (apart, (λ m. d.0 (Memᴰ.tail m), d.1.1))
    where
      split : (b ≡ a) ⊎ Memᴰ b w → ⊥
      split (inl q) = d.0 (Memᴰ.head (sym q))
      split (inr m) = d.1.0 m

      apart : ¬ Memᴰ b (a ∷ w)
      apart m = split (Memᴰ.cases_cons m)
  swap_distinct (later s) d = (λ m. d.0 (swap_mem (swap_sym s) m), swap_distinct s d.1)

  pub related_distinct : {u v : List ℕ} → Related dep u v → Distinct u → Distinct v
  related_distinct unchanged d = d
  related_distinct (swap s r) d = related_distinct r (swap_distinct s d)

  -- an action independent of a word passes it
  pub pass_related : (a : ℕ) (u : List ℕ) → any_of (dep a) u ≡ false → Related dep (a ∷ u) (u ++ a ∷ [])
  pass_related a [] e = unchanged
  pass_related a (b ∷ u) e =
      let both = (or_false (dep a b) (any_of (dep a) u)).0 e in
      swap (here both.0) (related_later b (pass_related a u both.1))

  -- an action independent of all others of the word may stand first
  draw : {a : ℕ} {v : List ℕ} → Memᴰ a v → ((b : ℕ) → Memᴰ b v → b ≢ a → dep b a ≡ false) → Distinct v
      → (r : List ℕ) × Related dep v (a ∷ r)
  draw {a} (Memᴰ.head {xs = v} q) far d = (v, subst (λ (b : ℕ). Related dep (b ∷ v) (a ∷ v)) q unchanged)
  draw {a} (Memᴰ.tail {x = b} {xs = v} m) far d =
      let (r, q) = draw m (λ c n. far c (Memᴰ.tail n)) d.1 in
      let e : dep b a ≡ false = far b (Memᴰ.head refl) (λ p. d.0 (Memᴰ.cast p m)) in
      (b ∷ r, related_trans (related_later b q) (swap (here e) unchanged))

  -- any two orders of one independent step are related
  pub orders_related : (u v : List ℕ) → clash dep u ≡ false → Distinct v → ((a : ℕ) → Memᴰ a u ↔ Memᴰ a v) → Related dep u v
  orders_related [] [] c d same = unchanged
  orders_related [] (b ∷ v) c d same = absurd (Memᴰ.not-nil ((same b).1 (Memᴰ.head refl)))
  orders_related (a ∷ u) v c d same = go (λ r. orders_related u r both.1)
    where
      both : (any_of (dep a) u ≡ false) × (clash dep u ≡ false)
      both = (or_false (any_of (dep a) u) (clash dep u)).0 c

      other : {b : ℕ} → Memᴰ b (a ∷ u) → b ≢ a → Memᴰ b u
      other m ne = elim (Memᴰ.cases_cons m) [ inl q ↦ absurd (ne q) | inr n ↦ n ]

      drawn : (r : List ℕ) × Related dep v (a ∷ r)
      drawn = draw ((same a).0 (Memᴰ.head refl)) (λ b m ne. D.symmetric b a ∙ any_of_false (dep a) u both.0 (other ((same b).1 m) ne)) d

      r : List ℕ
      r = drawn.0

      there : (b : ℕ) → Memᴰ b u → Memᴰ b r
      there b m =
          elim (Memᴰ.cases_cons (related_mem drawn.1 ((same b).0 (Memᴰ.tail m)))) [
            | inl q ↦ absurd (not_both (ap (dep a) q ∙ D.reflexive a) (any_of_false (dep a) u both.0 m))
            | inr n ↦ n
          ]

      back : (b : ℕ) → Memᴰ b r → Memᴰ b u
      back b m =
          other ((same b).1 (related_mem (related_sym drawn.1) (Memᴰ.tail m))) (λ q. (related_distinct drawn.1 d).0 (Memᴰ.cast (sym q) m))

      go : ((r : List ℕ) → Distinct r → ((b : ℕ) → Memᴰ b u ↔ Memᴰ b r) → Related dep u r) → Related dep (a ∷ u) v
      go below = related_trans (related_later a (below r (related_distinct drawn.1 d).1 (λ b. (there b, back b)))) (related_sym drawn.1)
