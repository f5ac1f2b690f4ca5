-- N8: placing an action keeps the trace: the word read off the steps is related to the word placed.
-- It keeps steps steps, and keeps the process condition.
-- Assumes nothing.
use mathlib.Core.Path.{◌≡◌, refl, ap}
use mathlib.Core.Bool.{Bool, true, false, or-true}
use mathlib.Core.List.{List, [], ◌∷◌, ◌++◌, append-nil, append_assoc}
use Prim.Native.Nat.{ℕ, zero, suc, ◌≤◌}
use native.Mathlib.Omega.{arith}
use lib.ListN.{length}
use Rattle.sets.specs.Lists.{any_of, append_all}
use Rattle.sets.proofs.Bools.{or_false}
use Rattle.sets.proofs.Lists.{any_of_append, all_of_intro, all_of_elim}
use Rattle.traces.specs.Words.{Dependence, here, Related, unchanged, swap}
use Rattle.traces.specs.Steps.{Step, Steps, FollowFrom, Process}
use Rattle.traces.specs.Foata.{insert_sorted, put_at, reach, place, place_all}
use Rattle.traces.proofs.Swaps.{related_sym, related_trans, related_later, related_before, related_behind, pass_related}
use Rattle.traces.proofs.Insert.{NearOrFar, near, far, near_or_far, any_of_insert_sorted, all_of_insert_sorted}
use Rattle.traces.proofs.Insert.{insert_sorted_length, insert_sorted_rising, insert_sorted_clash}
use Rattle.traces.proofs.Reach.{further_down, further_later, further_first, further_le, reach_le, reach_none}

module _ (dep : ℕ → ℕ → Bool) (D : Dependence dep) where
  pub insert_sorted_related : (a : ℕ) (s : List ℕ) → any_of (dep a) s ≡ false → Related dep (a ∷ s) (insert_sorted a s)
  insert_sorted_related a [] e = unchanged
  insert_sorted_related a (b ∷ s) e = go (near_or_far a b s) (insert_sorted_related a s both.1)
    where
      both : (dep a b ≡ false) × (any_of (dep a) s ≡ false)
      both = (or_false (dep a b) (any_of (dep a) s)).0 e

      go : NearOrFar a b s → Related dep (a ∷ s) (insert_sorted a s) → Related dep (a ∷ b ∷ s) (insert_sorted a (b ∷ s))
      go (near l q) r = rw q unchanged
      go (far l q) r = rw q (swap (here both.0) (related_later dep D b r))

  -- an action put behind every step that has a dependent one
  pub put_related : (a k : ℕ) (ss : List (List ℕ)) → reach (dep a) ss ≤ k → Related dep (append_all ss ++ a ∷ []) (append_all (put_at a k ss))
  put_related a zero [] h = unchanged
  put_related a zero (s ∷ ss) h =
      let free = reach_none (dep a) (s ∷ ss) h in
      let apart = (or_false (any_of (dep a) s) (any_of (dep a) (append_all ss))).0 (rw any_of_append at free) in
      related_trans dep D (related_sym dep D (pass_related dep D a (s ++ append_all ss) free))
      (related_behind dep D (append_all ss) (insert_sorted_related a s apart.0))
  put_related a (suc k) [] h = put_related a k [] (omega arith)
  put_related a (suc k) (s ∷ ss) h =
      rw append_assoc (related_before dep D s (put_related a k ss (further_down (any_of (dep a) s) (reach (dep a) ss) k h)))

  pub place_all_related : (ss : List (List ℕ)) (w : List ℕ) → Related dep (append_all ss ++ w) (append_all (place_all dep ss w))
  place_all_related ss [] = rw append-nil unchanged
  place_all_related ss (a ∷ w) =
      related_trans dep D
      (rw (append_assoc (append_all ss) (a ∷ []) w) at (related_behind dep D w (put_related a (reach (dep a) ss) ss (omega arith))))
      (place_all_related (place dep ss a) w)

  insert_sorted_step : (a : ℕ) (s : List ℕ) → any_of (dep a) s ≡ false → Step dep s → Step dep (insert_sorted a s)
  insert_sorted_step a s e S =
      record {
        nonempty = λ q. omega (arith, insert_sorted_length a s, ap length q);
        rising = insert_sorted_rising dep D a s e S.rising;
        apart = insert_sorted_clash dep D a s e S.apart;
      }

  pub put_steps : (a k : ℕ) (ss : List (List ℕ)) → reach (dep a) ss ≤ k → k ≤ length ss → Steps dep ss → Steps dep (put_at a k ss)
  put_steps a zero [] h l S = (record { nonempty = λ q. omega (arith, ap length q); rising = tt; apart = refl }, tt)
  put_steps a zero (s ∷ ss) h l S =
      let free = rw any_of_append at (reach_none (dep a) (s ∷ ss) h) in
      (insert_sorted_step a s ((or_false (any_of (dep a) s) (any_of (dep a) (append_all ss))).0 free).0 S.0, S.1)
  put_steps a (suc k) [] h l S = absurd (omega arith)
  put_steps a (suc k) (s ∷ ss) h l S = (S.0, put_steps a k ss (further_down (any_of (dep a) s) (reach (dep a) ss) k h) (omega arith) S.1)

  pub place_all_steps : (ss : List (List ℕ)) (w : List ℕ) → Steps dep ss → Steps dep (place_all dep ss w)
  place_all_steps ss [] S = S
  place_all_steps ss (a ∷ w) S = place_all_steps (place dep ss a) w (put_steps a (reach (dep a) ss) ss (omega arith) (reach_le (dep a) ss) S)

  -- what follows a step follows it with one action more
  follow_more : (a : ℕ) (s : List ℕ) (ss : List (List ℕ)) → FollowFrom dep s ss → FollowFrom dep (insert_sorted a s) ss
  follow_more a s [] F = tt
  follow_more a s (t ∷ ts) F = (all_of_intro _ t (λ b m. more b (all_of_elim _ t F.0 b m)), F.1)
    where
      more : (b : ℕ) → any_of (dep b) s ≡ true → any_of (dep b) (insert_sorted a s) ≡ true
      more b e = rw (any_of_insert_sorted (dep b) a s, e) (or-true (dep b a))

  put_follows : (a k : ℕ) (s : List ℕ) (ss : List (List ℕ)) → reach (dep a) (s ∷ ss) ≡ suc k → FollowFrom dep s ss → FollowFrom dep s (put_at a k ss)
  put_follows a zero s [] e F = (rw (further_first (any_of (dep a) s) 0 e), tt)
  put_follows a zero s (t ∷ ts) e F = (
    rw (all_of_insert_sorted (λ b. any_of (dep b) s) a t, further_first (any_of (dep a) s) (reach (dep a) (t ∷ ts)) e, F.0),
    follow_more a t ts F.1,
  )
  put_follows a (suc k) s [] e F = absurd (omega (arith, further_le (any_of (dep a) s) 0))
  put_follows a (suc k) s (t ∷ ts) e F = (F.0, put_follows a k t ts (further_later (any_of (dep a) s) (reach (dep a) (t ∷ ts)) k e) F.1)

  pub place_process : (ss : List (List ℕ)) (a : ℕ) → Process dep ss → Process dep (place dep ss a)
  place_process [] a P = tt
  place_process (s ∷ ss) a P = go (reach (dep a) (s ∷ ss)) refl
    where
      go : (k : ℕ) → reach (dep a) (s ∷ ss) ≡ k → Process dep (put_at a k (s ∷ ss))
      go zero e = follow_more a s ss P
      go (suc k) e = put_follows a k s ss e P

  pub place_all_process : (ss : List (List ℕ)) (w : List ℕ) → Process dep ss → Process dep (place_all dep ss w)
  place_all_process ss [] P = P
  place_all_process ss (a ∷ w) P = place_all_process (place dep ss a) w (place_process ss a P)
