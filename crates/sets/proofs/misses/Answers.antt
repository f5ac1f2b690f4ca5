-- R5, R10: a number has an element at or above k exactly when it is at least 2 ^ k.
use mathlib.Core.Path.{◌≡◌, sym, ◌∙◌, subst}
use mathlib.Core.Logic.{◌≢◌, inl, inr}
use mathlib.Core.Bool.{false, not, ◌||◌}
use Prim.Native.Nat.{ℕ, ◌/◌, ◌^◌, ◌<◌, ◌≤◌}
use native.Mathlib.Nat.{div-lt_iff_lt-mul, one-mul}
use native.Mathlib.Omega.{arith}
use lib.Dec.{eqb, leb}
use lib.Pow.{pow_pos}
use Rattle.sets.proofs.Bools.{true_or_false, iff_bool, not_true, eqb_false, leb_true, leb_false}
use Rattle.sets.proofs.misses.Goals as goal

shifted_some : (x k : ℕ) → not (eqb (x / 2 ^ k) 0) ≡ leb (2 ^ k) x
shifted_some x k =
    iff_bool (not (eqb (x / 2 ^ k) 0)) (leb (2 ^ k) x) (
      λ h. (leb_true (2 ^ k) x).1 (at_least ((eqb_false (x / 2 ^ k) 0).0 ((not_true (eqb (x / 2 ^ k) 0)).0 h))),
      λ h. (not_true (eqb (x / 2 ^ k) 0)).1 ((eqb_false (x / 2 ^ k) 0).1 (λ e. below ((leb_true (2 ^ k) x).0 h) e)),
    )
  where
    small : x < 2 ^ k → x / 2 ^ k < 1
    small l = (div-lt_iff_lt-mul (pow_pos k)).1 (subst (λ (y : ℕ). x < y) (sym (one-mul (2 ^ k))) l)

    large : x / 2 ^ k < 1 → x < 2 ^ k
    large l = subst (λ (y : ℕ). x < y) (one-mul (2 ^ k)) ((div-lt_iff_lt-mul (pow_pos k)).0 l)

    at_least : x / 2 ^ k ≢ 0 → 2 ^ k ≤ x
    at_least n =
        elim (true_or_false (leb (2 ^ k) x)) [
          | inl e ↦ (leb_true (2 ^ k) x).0 e
          | inr e ↦ absurd (n (let s = small ((leb_false (2 ^ k) x).0 e) in omega arith))
        ]

    below : 2 ^ k ≤ x → x / 2 ^ k ≡ 0 → ⊥
    below l e = let g = large (omega arith) in omega arith

none_below : (x : ℕ) → x ≢ 0 → x < 2 ^ 64 → (k : ℕ) → k ≡ 64 → false ≡ (eqb x 0 || leb (2 ^ k) x)
none_below x n l k e = sym (rw ((eqb_false x 0).1 n, e) ((leb_false (2 ^ 64) x).1 l))

pub returns-then-k-eq64 : goal.returns-then-k-eq64
returns-then-k-eq64 c = none_below c.args.x c.if-x-eq0.false c.ranges.x.fits c.args.k c.if-k-eq64.true

pub returns : goal.returns
returns c = shifted_some c.args.x c.args.k ∙ sym (rw ((eqb_false c.args.x 0).1 c.if-x-eq0.false))
