-- N8: the Foata normal form: two words have the same one exactly when they are related.
-- It is the one list of steps of the trace that meets the process condition, and no other has fewer steps.
-- Assumes nothing.
use mathlib.Core.Path.{◌≡◌, refl, sym, ◌∙◌, ap}
use mathlib.Core.Bool.{Bool}
use mathlib.Core.List.{List, [], ◌∷◌}
use Prim.Native.Nat.{ℕ, ◌≤◌}
use native.Mathlib.Omega.{arith}
use lib.ListN.{length}
use Rattle.sets.specs.Lists.{append_all}
use Rattle.traces.specs.Words.{Dependence, Related}
use Rattle.traces.specs.Steps.{Steps, Process}
use Rattle.traces.specs.Foata.{place_all, foata}
use Rattle.traces.proofs.Swaps.{related_sym, related_trans}
use Rattle.traces.proofs.Placing.{place_all_append, related_place_all}
use Rattle.traces.proofs.Kept.{place_all_related, place_all_steps, place_all_process}
use Rattle.traces.proofs.WholeSteps.{steps_length, step_rebuilt, steps_rebuilt}

module _ (dep : ℕ → ℕ → Bool) (D : Dependence dep) where
  -- N8, N5: the normal form is of the word's own trace
  pub foata_related : (w : List ℕ) → Related dep w (append_all (foata dep w))
  foata_related w = place_all_related dep D [] w

  -- related words have the same normal form, and only they
  pub related_foata : {u v : List ℕ} → Related dep u v → foata dep u ≡ foata dep v
  related_foata r = related_place_all dep D [] r

  pub foata_equal : (u v : List ℕ) → foata dep u ≡ foata dep v → Related dep u v
  foata_equal u v e = related_trans dep D (rw e at (foata_related u)) (related_sym dep D (foata_related v))

  -- its steps may be taken: not empty, rising, no two actions dependent
  pub foata_steps : (w : List ℕ) → Steps dep (foata dep w)
  foata_steps w = place_all_steps dep D [] w tt

  -- N8, N6: each action of a step depends on one of the step just before
  pub foata_process : (w : List ℕ) → Process dep (foata dep w)
  foata_process w = place_all_process dep D [] w tt

  -- N8: steps that meet the process condition are the normal form of their trace
  pub foata_unique : (ss : List (List ℕ)) → Steps dep ss → Process dep ss → foata dep (append_all ss) ≡ ss
  foata_unique [] S P = refl
  foata_unique (s ∷ ss) S P =
      place_all_append dep D [] s (append_all ss)
      ∙ ap (λ (ts : List (List ℕ)). place_all dep ts (append_all ss)) (step_rebuilt dep D s S.0)
      ∙ steps_rebuilt dep D [] s ss S.1 P

  -- N8, D3: no steps of the same trace are fewer
  pub foata_fewest : (ss : List (List ℕ)) (w : List ℕ) → Steps dep ss → Related dep (append_all ss) w → length (foata dep w) ≤ length ss
  foata_fewest ss w S r = rw (sym (related_foata r)) (omega (arith, steps_length dep D [] ss S))
