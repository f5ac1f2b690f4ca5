-- N8: whole steps placed onto others: a step of independent actions makes them longer by at most one.
-- Steps that meet the process condition are rebuilt.
-- Assumes nothing.
use mathlib.Core.Path.{◌≡◌, refl, sym, ◌∙◌, ap}
use mathlib.Core.Bool.{Bool, false}
use mathlib.Core.List.{List, [], ◌∷◌, ◌++◌, Memᴰ, append-nil, append_assoc}
use Prim.Native.Nat.{ℕ, suc, ◌+◌, ◌≤◌}
use native.Mathlib.Omega.{arith}
use lib.ListN.{length}
use Rattle.sets.specs.Lists.{any_of, append_all, Rising}
use Rattle.sets.proofs.Bools.{or_false}
use Rattle.sets.proofs.Lists.{any_of_false, all_of_elim}
use Rattle.traces.specs.Words.{Dependence}
use Rattle.traces.specs.Steps.{clash, Step, Steps, FollowFrom}
use Rattle.traces.specs.Foata.{put_at, further, reach, place, place_all, foata}
use Rattle.traces.proofs.Swaps.{pass_related}
use Rattle.traces.proofs.Insert.{insert_sorted_below}
use Rattle.traces.proofs.Reach.{reach_le, reach_miss, reach_last}
use Rattle.traces.proofs.Placing.{put_length, place_all_append, related_place_all, place_all_behind}

module _ (dep : ℕ → ℕ → Bool) (D : Dependence dep) where
  -- the actions of the step do not see each other
  step_length : (n : ℕ) (ss : List (List ℕ)) (s : List ℕ) → clash dep s ≡ false → length ss ≤ suc n → ((a : ℕ) → Memᴰ a s → reach (dep a) ss ≤ n)
      → length (place_all dep ss s) ≤ suc n
  step_length n ss [] c l low = l
  step_length n ss (a ∷ s) c l low =
      step_length n (place dep ss a) s both.1 (omega (arith, put_length a (reach (dep a) ss) ss, low a (Memᴰ.head refl))) low'
    where
      both : (any_of (dep a) s ≡ false) × (clash dep s ≡ false)
      both = (or_false (any_of (dep a) s) (clash dep s)).0 c

      low' : (b : ℕ) → Memᴰ b s → reach (dep b) (place dep ss a) ≤ n
      low' b m = rw (reach_miss (dep b) a (reach (dep a) ss) ss (D.symmetric b a ∙ any_of_false (dep a) s both.0 m)) (low b (Memᴰ.tail m))

  pub steps_length : (ss ts : List (List ℕ)) → Steps dep ts → length (place_all dep ss (append_all ts)) ≤ length ss + length ts
  steps_length ss [] S = omega arith
  steps_length ss (t ∷ ts) S =
      let one = step_length (length ss) ss t S.0.apart (omega arith) (λ a m. reach_le (dep a) ss) in
      rw (place_all_append dep D ss t (append_all ts)) (omega (arith, steps_length (place_all dep ss t) ts S.1))

  -- the first action of a step may be placed last, where it comes first again
  one_step : (a : ℕ) (s : List ℕ) → Rising (a ∷ s) → clash dep (a ∷ s) ≡ false → foata dep (a ∷ s) ≡ (a ∷ s) ∷ []
  one_step a [] r c = refl
  one_step a (b ∷ s) r c =
      let both = (or_false (any_of (dep a) (b ∷ s)) (clash dep (b ∷ s))).0 c in
      related_place_all dep D [] (pass_related dep D a (b ∷ s) both.0)
      ∙ place_all_append dep D [] (b ∷ s) (a ∷ [])
      ∙ ap (λ (ss : List (List ℕ)). place dep ss a) (one_step b s r.1 both.1)
      ∙ ap (λ (t : Bool). put_at a (further t 0) ((b ∷ s) ∷ [])) both.0
      ∙ ap (λ (t : List ℕ). t ∷ []) (insert_sorted_below a b s (omega arith))

  pub step_rebuilt : (s : List ℕ) → Step dep s → foata dep s ≡ s ∷ []
  step_rebuilt [] S = absurd (S.nonempty refl)
  step_rebuilt (a ∷ s) S = one_step a s S.rising S.apart

  -- steps that follow the last step of others are rebuilt behind these
  pub steps_rebuilt : (ss : List (List ℕ)) (s : List ℕ) (ts : List (List ℕ)) → Steps dep ts → FollowFrom dep s ts
      → place_all dep (ss ++ s ∷ []) (append_all ts) ≡ ss ++ s ∷ ts
  steps_rebuilt ss s [] S F = refl
  steps_rebuilt ss s (t ∷ ts) S F =
      place_all_append dep D before t (append_all ts)
      ∙ ap (λ (us : List (List ℕ)). place_all dep us (append_all ts)) placed
      ∙ steps_rebuilt before t ts S.1 F.1
      ∙ append_assoc ss (s ∷ []) (t ∷ ts)
    where
      before : List (List ℕ)
      before = ss ++ s ∷ []

      placed : place_all dep before t ≡ before ++ t ∷ []
      placed =
          ap (λ (us : List (List ℕ)). place_all dep us t) (sym (append-nil before))
          ∙ place_all_behind dep D before [] t (λ a m. reach_last (dep a) ss s (all_of_elim (λ b. any_of (dep b) s) t F.0 a m))
          ∙ ap (λ (us : List (List ℕ)). before ++ us) (step_rebuilt t S.0)
