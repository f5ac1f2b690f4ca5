-- N7: the process check finds no step that offends exactly when the process condition holds, and otherwise the first one.
-- Assumes nothing.
use mathlib.Core.Path.{◌≡◌, refl, sym, ap, ◌∙◌}
use mathlib.Core.Logic.{◌↔◌}
use mathlib.Core.Bool.{Bool, true, false}
use mathlib.Core.List.{List, [], ◌∷◌}
use mathlib.Core.Option.{Option, none, some}
use Prim.Native.Nat.{ℕ, zero, suc, ◌+◌, ◌<◌}
use native.Mathlib.Omega.{arith}
use lib.ListN.{length, get_or}
use Rattle.sets.proofs.Bools.{not_both}
use Rattle.traces.specs.Steps.{follows, FollowFrom, Process}
use Rattle.traces.specs.Offences.{offence_or, offence_from, first_offence, offending, IsFirstOffence}

-- the offence k steps behind s
record At (dep : ℕ → ℕ → Bool) (s : List ℕ) (ts : List (List ℕ)) (k : ℕ) : Type 0 where
  fits : k < length ts
  offends : follows dep (get_or (s ∷ ts) k []) (get_or ts k []) ≡ false
  earlier : (l : ℕ) → l < k → follows dep (get_or (s ∷ ts) l []) (get_or ts l []) ≡ true

module _ (dep : ℕ → ℕ → Bool) where
  from_none : (s : List ℕ) (i : ℕ) (ts : List (List ℕ)) → (offence_from dep s i ts ≡ none) ↔ FollowFrom dep s ts
  from_none s i [] = (λ e. tt, λ p. refl)
  from_none s i (t ∷ ts) = go (follows dep s t) refl (from_none t (suc i) ts)
    where
      go : (f : Bool) → follows dep s t ≡ f → (offence_from dep t (suc i) ts ≡ none) ↔ FollowFrom dep t ts
          → (offence_or (follows dep s t) i (offence_from dep t (suc i) ts) ≡ none) ↔ ((follows dep s t ≡ true) × FollowFrom dep t ts)
      go true e h = (λ n. (e, h.0 (ap (λ (f : Bool). offence_or f i (offence_from dep t (suc i) ts)) (sym e) ∙ n)), λ p. rw e (h.1 p.1))
      go false e h = (
        λ n. let z : some i ≡ none = ap (λ (f : Bool). offence_or f i (offence_from dep t (suc i) ts)) (sym e) ∙ n in
            let c : ◌≡◌ {A = ℕ} 0 1 = cc in absurd (omega arith),
        λ p. absurd (not_both p.0 e),
      )

  from_some : (s : List ℕ) (i : ℕ) (ts : List (List ℕ)) (k : ℕ) → offence_from dep s i ts ≡ some k → (d : ℕ) × (k ≡ i + d) × At dep s ts d
  from_some s i [] k e = let z : ◌≡◌ {A = ℕ} 0 1 = cc in absurd (omega arith)
  from_some s i (t ∷ ts) k e = go (follows dep s t) refl (from_some t (suc i) ts k)
    where
      later : follows dep s t ≡ true → (d : ℕ) × (k ≡ suc i + d) × At dep t ts d → (d : ℕ) × (k ≡ i + d) × At dep s (t ∷ ts) d
      later f r =
          let g = r.1 in
          let h = r.2.fits in
          (suc r.0, omega arith, record { fits = omega arith; offends = r.2.offends; earlier = earlier })
        where
          earlier : (l : ℕ) → l < suc r.0 → follows dep (get_or (s ∷ t ∷ ts) l []) (get_or (t ∷ ts) l []) ≡ true
          earlier zero b = f
          earlier (suc l) b = r.2.earlier l (omega arith)

      go : (f : Bool) → follows dep s t ≡ f → (offence_from dep t (suc i) ts ≡ some k → (d : ℕ) × (k ≡ suc i + d) × At dep t ts d)
          → (d : ℕ) × (k ≡ i + d) × At dep s (t ∷ ts) d
      go true f h = later f (h (ap (λ (g : Bool). offence_or g i (offence_from dep t (suc i) ts)) (sym f) ∙ e))
      go false f h =
          let same : some i ≡ some k = ap (λ (g : Bool). offence_or g i (offence_from dep t (suc i) ts)) (sym f) ∙ e in
          let is : i ≡ k = cc in
          (0, omega arith, record { fits = omega arith; offends = f; earlier = λ l b. absurd (omega arith) })

  just_from : (s : List ℕ) (i : ℕ) (ts : List (List ℕ)) (d : ℕ) → At dep s ts d → offence_from dep s i ts ≡ some (i + d)
  just_from s i [] d a = let f = a.fits in absurd (omega arith)
  just_from s i (t ∷ ts) zero a = rw a.offends (ap some (omega arith))
  just_from s i (t ∷ ts) (suc d) a =
      rw (a.earlier 0 (omega arith))
      (just_from t (suc i) ts d
      (record { fits = (let f = a.fits in omega arith); offends = a.offends; earlier = λ l b. a.earlier (suc l) (omega arith) })
      ∙ ap some (omega arith))

  -- N7: no step offends exactly when the process condition holds
  pub offence_none : (ss : List (List ℕ)) → (first_offence dep ss ≡ none) ↔ Process dep ss
  offence_none [] = (λ e. tt, λ p. refl)
  offence_none (s ∷ ss) = from_none s 1 ss

  -- N7: the index that is found is that of the first step that offends
  pub offence_first : (ss : List (List ℕ)) (i : ℕ) → (first_offence dep ss ≡ some i) ↔ IsFirstOffence dep ss i
  offence_first [] i = (
    λ e. let z : ◌≡◌ {A = ℕ} 0 1 = cc in absurd (omega arith),
    λ f. let b = f.step_below in absurd (omega arith),
  )
  offence_first (s ∷ ss) i = (
    λ e. let r = from_some s 1 ss i e in let g = r.1 in let f = r.2.fits in
        record { before = r.0; index = omega arith; step_below = omega arith; offends = r.2.offends; no_earlier = r.2.earlier },
    λ f. let g = f.index in let b = f.step_below in
        just_from s 1 ss f.before (record { fits = omega arith; offends = f.offends; earlier = f.no_earlier }) ∙ ap some (omega arith),
  )

-- ---- the answer as one number

pub offending_none : (o : Option ℕ) → (offending o ≡ 0) ↔ (o ≡ none)
offending_none none = (λ e. refl, λ e. refl)
offending_none (some i) = (λ e. absurd (omega arith), λ e. let z : ◌≡◌ {A = ℕ} 0 1 = cc in absurd (omega arith))

pub offending_some : (o : Option ℕ) (i : ℕ) → (offending o ≡ i + 1) ↔ (o ≡ some i)
offending_some none i = (λ e. absurd (omega arith), λ e. let z : ◌≡◌ {A = ℕ} 0 1 = cc in absurd (omega arith))
offending_some (some k) i = (λ e. ap some (omega arith), λ e. let same : k ≡ i = cc in omega arith)
