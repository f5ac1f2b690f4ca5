-- N3: a test that holds exactly of equal actions and of those that share something is what the theory asks of a dependence.
-- Assumes nothing.
use mathlib.Core.Path.{◌≡◌, refl, sym}
use mathlib.Core.Logic.{◌↔◌, ◌⊎◌, inl, inr}
use mathlib.Core.Bool.{Bool, true}
use Prim.Native.Nat.{ℕ}
use Rattle.sets.proofs.Bools.{iff_bool}
use Rattle.traces.specs.Words.{Dependence}

module _ (d : ℕ → ℕ → Bool) (S : ℕ → ℕ → Type 0) (exact : (a b : ℕ) → (d a b ≡ true) ↔ ((a ≡ b) ⊎ S a b)) (turn : (a b : ℕ) → S a b → S b a) where
  other_way : (a b : ℕ) → (a ≡ b) ⊎ S a b → (b ≡ a) ⊎ S b a
  other_way a b (inl e) = inl (sym e)
  other_way a b (inr s) = inr (turn a b s)

  flipped : (a b : ℕ) → d a b ≡ true → d b a ≡ true
  flipped a b h = (exact b a).1 (other_way a b ((exact a b).0 h))

  pub sharing_dependence : Dependence d
  sharing_dependence =
      record { reflexive = λ a. (exact a a).1 (inl refl); symmetric = λ a b. iff_bool (d a b) (d b a) (flipped a b, flipped b a) }
