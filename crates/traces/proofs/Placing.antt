-- N8: placing actions onto steps: independent ones commute, so related words give the same normal form.
-- How long the steps become, and where actions go that depend on the last of some steps.
-- Assumes nothing.
use mathlib.Core.Path.{◌≡◌, refl, ◌∙◌, ap}
use mathlib.Core.Bool.{Bool, false}
use mathlib.Core.List.{List, [], ◌∷◌, ◌++◌, Memᴰ}
use Prim.Native.Nat.{ℕ, zero, suc, ◌+◌, max}
use native.Mathlib.Omega.{arith}
use lib.ListN.{length}
use Rattle.traces.specs.Words.{Dependence, Swap, here, later, Related, unchanged, swap}
use Rattle.traces.specs.Foata.{put_at, reach, place, place_all}
use Rattle.traces.proofs.Insert.{insert_sorted_comm}
use Rattle.traces.proofs.Reach.{reach_miss, reach_append}

pub put_comm : (a i b j : ℕ) (ss : List (List ℕ)) → put_at a i (put_at b j ss) ≡ put_at b j (put_at a i ss)
put_comm a zero b zero [] = ap (λ (s : List ℕ). s ∷ []) (insert_sorted_comm a b [])
put_comm a zero b zero (s ∷ ss) = ap (λ (t : List ℕ). t ∷ ss) (insert_sorted_comm a b s)
put_comm a zero b (suc j) [] = refl
put_comm a zero b (suc j) (s ∷ ss) = refl
put_comm a (suc i) b zero [] = refl
put_comm a (suc i) b zero (s ∷ ss) = refl
put_comm a (suc i) b (suc j) [] = ap (λ (ts : List (List ℕ)). [] ∷ ts) (put_comm a i b j [])
put_comm a (suc i) b (suc j) (s ∷ ss) = ap (λ (ts : List (List ℕ)). s ∷ ts) (put_comm a i b j ss)

pub put_length : (a k : ℕ) (ss : List (List ℕ)) → length (put_at a k ss) ≡ max (suc k) (length ss)
put_length a zero [] = refl
put_length a zero (s ∷ ss) = omega arith
put_length a (suc k) [] = omega (arith, put_length a k [])
put_length a (suc k) (s ∷ ss) = omega (arith, put_length a k ss)

pub put_append : (a k : ℕ) (ss ts : List (List ℕ)) → put_at a (length ss + k) (ss ++ ts) ≡ ss ++ put_at a k ts
put_append a k [] ts = let e : 0 + k ≡ k = omega arith in rw e
put_append a k (s ∷ ss) ts = let e : suc (length ss) + k ≡ suc (length ss + k) = omega arith in rw (e, put_append a k ss ts)

module _ (dep : ℕ → ℕ → Bool) (D : Dependence dep) where
  pub place_comm : (a b : ℕ) (ss : List (List ℕ)) → dep a b ≡ false → place dep (place dep ss a) b ≡ place dep (place dep ss b) a
  place_comm a b ss e =
      rw (reach_miss (dep b) a (reach (dep a) ss) ss (D.symmetric b a ∙ e), reach_miss (dep a) b (reach (dep b) ss) ss e)
      (put_comm b (reach (dep b) ss) a (reach (dep a) ss) ss)

  pub place_all_append : (ss : List (List ℕ)) (u v : List ℕ) → place_all dep ss (u ++ v) ≡ place_all dep (place_all dep ss u) v
  place_all_append ss [] v = refl
  place_all_append ss (a ∷ u) v = place_all_append (place dep ss a) u v

  swap_place_all : {u v : List ℕ} (ss : List (List ℕ)) → Swap dep u v → place_all dep ss u ≡ place_all dep ss v
  swap_place_all ss (here {a = a} {b = b} {w = w} e) = ap (λ (ts : List (List ℕ)). place_all dep ts w) (place_comm a b ss e)
  swap_place_all ss (later {a = a} s) = swap_place_all (place dep ss a) s

  pub related_place_all : {u v : List ℕ} (ss : List (List ℕ)) → Related dep u v → place_all dep ss u ≡ place_all dep ss v
  related_place_all ss unchanged = refl
  related_place_all ss (swap s r) = swap_place_all ss s ∙ related_place_all ss r

  -- actions that each depend on the last of some steps are placed behind these
  pub place_all_behind : (ss ts : List (List ℕ)) (w : List ℕ) → ((a : ℕ) → Memᴰ a w → reach (dep a) ss ≡ length ss)
      → place_all dep (ss ++ ts) w ≡ ss ++ place_all dep ts w
  place_all_behind ss ts [] full = refl
  place_all_behind ss ts (a ∷ w) full =
      ap (λ (us : List (List ℕ)). place_all dep us w) placed ∙ place_all_behind ss (place dep ts a) w (λ b m. full b (Memᴰ.tail m))
    where
      placed : place dep (ss ++ ts) a ≡ ss ++ place dep ts a
      placed =
          ap (λ (k : ℕ). put_at a k (ss ++ ts)) (reach_append (dep a) ss ts (full a (Memᴰ.head refl))) ∙ put_append a (reach (dep a) ts) ss ts
