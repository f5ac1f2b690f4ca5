-- The laws of `reach`, by which the normal form places an action (N8), with the test free: an action put into a step that fails the test
-- changes nothing, one that passes gives the larger of the old value and its place.
-- The reach of an "or" is the maximum; and what it is of steps put behind others.
-- Assumes nothing.
use mathlib.Core.Path.{◌≡◌, refl, sym, ◌∙◌, ap}
use mathlib.Core.Bool.{Bool, true, false, ◌||◌}
use mathlib.Core.List.{List, [], ◌∷◌, ◌++◌}
use Prim.Native.Nat.{ℕ, zero, suc, ◌+◌, ◌≤◌, ◌<◌, max}
use native.Mathlib.Omega.{arith}
use native.Mathlib.Nat.{zero-max}
use lib.ListN.{length, length-append}
use Rattle.sets.specs.Lists.{any_of, append_all}
use Rattle.sets.proofs.Lists.{any_of_append, any_of_or}
use Rattle.traces.specs.Foata.{put_at, further, reach}
use Rattle.traces.proofs.Insert.{any_of_insert_sorted}

further_pos : (b : Bool) (m : ℕ) → 0 < m → further b m ≡ suc m
further_pos b zero h = absurd (omega arith)
further_pos b (suc m) h = refl

pub further_le : (b : Bool) (m : ℕ) → further b m ≤ suc m
further_le true zero = omega arith
further_le false zero = omega arith
further_le b (suc m) = omega arith

further_true : (m : ℕ) → further true m ≡ suc m
further_true zero = refl
further_true (suc m) = refl

further_ge : (b : Bool) (m : ℕ) → m ≤ further b m
further_ge b zero = omega arith
further_ge b (suc m) = omega arith

-- what the reach of a first step and later ones says of the later ones
pub further_down : (b : Bool) (m k : ℕ) → further b m ≤ suc k → m ≤ k
further_down b zero k h = omega arith
further_down b (suc m) k h = omega arith

pub further_later : (b : Bool) (m k : ℕ) → further b m ≡ suc (suc k) → m ≡ suc k
further_later b zero k e = absurd (omega (arith, further_le b 0))
further_later b (suc m) k e = omega arith

-- and of the first step
pub further_first : (b : Bool) (m : ℕ) → further b m ≡ 1 → b ≡ true
further_first true m e = refl
further_first false zero e = absurd (omega arith)
further_first false (suc m) e = absurd (omega arith)

further_add : (b : Bool) (m n : ℕ) → further b m ≡ suc m → further b (m + n) ≡ suc (m + n)
further_add true m n e = further_true (m + n)
further_add false zero n e = absurd (omega arith)
further_add false (suc m) n e = further_pos false (suc m + n) (omega arith)

further_max : (b c : Bool) (m n : ℕ) → further (b || c) (max m n) ≡ max (further b m) (further c n)
further_max true true zero zero = refl
further_max true false zero zero = refl
further_max false true zero zero = refl
further_max false false zero zero = refl
further_max b c zero (suc n) = omega (arith, further_pos (b || c) (max 0 (suc n)) (omega arith), further_le b 0)
further_max b c (suc m) zero = omega (arith, further_pos (b || c) (max (suc m) 0) (omega arith), further_le c 0)
further_max b c (suc m) (suc n) = omega (arith, further_pos (b || c) (max (suc m) (suc n)) (omega arith))

module _ (p q : ℕ → Bool) where
  pub reach_or : (ss : List (List ℕ)) → reach (λ a. p a || q a) ss ≡ max (reach p ss) (reach q ss)
  reach_or [] = refl
  reach_or (s ∷ ss) = rw (any_of_or p q s, reach_or ss) (further_max (any_of p s) (any_of q s) (reach p ss) (reach q ss))

module _ (p : ℕ → Bool) where
  pub reach_le : (ss : List (List ℕ)) → reach p ss ≤ length ss
  reach_le [] = omega arith
  reach_le (s ∷ ss) = omega (arith, further_le (any_of p s) (reach p ss), reach_le ss)

  pub reach_miss : (a k : ℕ) (ss : List (List ℕ)) → p a ≡ false → reach p (put_at a k ss) ≡ reach p ss
  reach_miss a zero [] e = rw e
  reach_miss a zero (s ∷ ss) e = rw (any_of_insert_sorted p a s, e)
  reach_miss a (suc k) [] e = rw (reach_miss a k [] e)
  reach_miss a (suc k) (s ∷ ss) e = rw (reach_miss a k ss e)

  pub reach_hit : (a k : ℕ) (ss : List (List ℕ)) → p a ≡ true → reach p (put_at a k ss) ≡ max (suc k) (reach p ss)
  reach_hit a zero [] e = rw e
  reach_hit a zero (s ∷ ss) e =
      rw (any_of_insert_sorted p a s, e) (ap (further true) (sym (zero-max (reach p ss))) ∙ further_max true (any_of p s) 0 (reach p ss))
  reach_hit a (suc k) [] e = rw (reach_hit a k [] e) (further_max false false (suc k) 0)
  reach_hit a (suc k) (s ∷ ss) e = rw (reach_hit a k ss e) (further_max false (any_of p s) (suc k) (reach p ss))

  pub reach_none : (ss : List (List ℕ)) → reach p ss ≤ 0 → any_of p (append_all ss) ≡ false
  reach_none [] h = refl
  reach_none (s ∷ ss) h = any_of_append p s (append_all ss) ∙ go (any_of p s) refl (reach_none ss (omega (arith, further_ge (any_of p s) (reach p ss))))
    where
      go : (b : Bool) → any_of p s ≡ b → any_of p (append_all ss) ≡ false → (any_of p s || any_of p (append_all ss)) ≡ false
      go true e r = absurd (omega (arith, further_true (reach p ss), rw e at h))
      go false e r = rw (e, r)

  -- steps whose last one has an action that passes
  pub reach_last : (ss : List (List ℕ)) (s : List ℕ) → any_of p s ≡ true → reach p (ss ++ s ∷ []) ≡ length (ss ++ s ∷ [])
  reach_last [] s e = rw e
  reach_last (t ∷ ss) s e =
      further_pos (any_of p t) (reach p (ss ++ s ∷ [])) (omega (arith, reach_last ss s e, length-append ss (s ∷ []))) ∙ ap suc (reach_last ss s e)

  pub reach_append : (ss ts : List (List ℕ)) → reach p ss ≡ length ss → reach p (ss ++ ts) ≡ length ss + reach p ts
  reach_append [] ts e = omega arith
  reach_append (s ∷ ss) ts e =
      let full : reach p ss ≡ length ss = omega (arith, further_le (any_of p s) (reach p ss), reach_le ss) in
      let here = further_add (any_of p s) (length ss) (reach p ts) (ap (further (any_of p s)) (sym full) ∙ e) in
      rw (reach_append ss ts full) (omega arith)
