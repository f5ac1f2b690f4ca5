-- V3: that an action heads a column has at most one proof: the labels behind it are what the column has behind its first label.
-- Assumes nothing.
use mathlib.Core.Path.{◌≡◌, sym, ap, ◌∙◌, subst}
use mathlib.Core.List.{List, ◌∷◌, tail-eq_of_cons-eq, is_set}
use Prim.Native.Nat.{ℕ}
use native.Mathlib.Nat.{ℕ_set}

pub headed-prop : (x : List ℕ) (a : ℕ) → IsProp ((later : List ℕ) × (x ≡ a ∷ later))
headed-prop x a (l, e) (m, f) =
    subst (λ (k : List ℕ). (g : x ≡ a ∷ k) → ◌≡◌ {A = (later : List ℕ) × (x ≡ a ∷ later)} (l, e) (k, g)) (tail-eq_of_cons-eq (sym e ∙ f))
    (λ g. ap (λ (q : x ≡ a ∷ l). (l, q)) (is_set ℕ_set x (a ∷ l) e g)) f
