-- F7: the lowest element of a set that is not empty, `count_trailing_zeros`, and the set without it, `bit_and x (x - 1)`.
-- The number of bits is free: only `lowest_taken` has 64.
-- Assumes nothing.
use mathlib.Core.Path.{◌≡◌, refl, sym, ap, ap₂, ◌∙◌}
use mathlib.Core.Bool.{Bool, true, false, ◌&&◌, not}
use mathlib.Core.Logic.{◌≢◌, ◌⊎◌, inl, inr}
use Prim.Native.Nat.{ℕ, zero, suc, ◌-◌, ◌/◌, ◌%◌, ◌^◌, ◌≤◌, ◌<◌}
use native.Mathlib.Nat.{pow-suc}
use native.Mathlib.Omega.{arith}
use lib.Dec.{eqb, eqb-suc-zero, eqb-suc-suc}
use lib.Bits.{bit_and}
use lib.Count.{count_trailing_zeros, under}
use Rattle.sets.specs.Bits.{member}
use Rattle.sets.specs.Walk.{Takes}
use Rattle.sets.proofs.Bools.{true_or_false, not_both, not_true, and_true, eqb_true, eqb_false}
use Rattle.sets.proofs.Members.{member_low, member_half, member_and}

-- ---- by the lowest bit

parity : (x : ℕ) → (x % 2 ≡ 1) ⊎ (x % 2 ≡ 0)
parity x = go (true_or_false (eqb (x % 2) 1))
  where
    go : (eqb (x % 2) 1 ≡ true) ⊎ (eqb (x % 2) 1 ≡ false) → (x % 2 ≡ 1) ⊎ (x % 2 ≡ 0)
    go (inl e) = inl ((eqb_true (x % 2) 1).0 e)
    go (inr e) = let n = (eqb_false (x % 2) 1).0 e in inr (omega arith)

member_odd : (x : ℕ) → x % 2 ≡ 1 → member x 0 ≡ true
member_odd x o = member_low x ∙ ap (λ (z : ℕ). eqb z 1) o

member_even : (x : ℕ) → x % 2 ≡ 0 → member x 0 ≡ false
member_even x o = member_low x ∙ ap (λ (z : ℕ). eqb z 1) o

trailing_odd : (k x : ℕ) → x % 2 ≡ 1 → count_trailing_zeros (suc k) x ≡ 0
unfolding count_trailing_zeros
trailing_odd k x o = ap (λ (d : ℕ). under d (count_trailing_zeros k (x / 2))) o

trailing_even : (k x : ℕ) → x % 2 ≡ 0 → count_trailing_zeros (suc k) x ≡ suc (count_trailing_zeros k (x / 2))
unfolding count_trailing_zeros
trailing_even k x o = ap (λ (d : ℕ). under d (count_trailing_zeros k (x / 2))) o

trailing_none : (x : ℕ) → count_trailing_zeros 0 x ≡ 0
unfolding count_trailing_zeros
trailing_none x = refl

half_lt : (k x : ℕ) → x < 2 ^ suc k → x / 2 < 2 ^ k
half_lt k x h = let e = pow-suc 2 k in omega arith

-- ---- the lowest element

lowest_lt : (k x : ℕ) → x ≢ 0 → x < 2 ^ k → count_trailing_zeros k x < k
lowest_lt zero x n h = absurd (omega arith)
lowest_lt (suc k) x n h = go (lowest_lt k (x / 2)) (parity x)
  where
    go : (x / 2 ≢ 0 → x / 2 < 2 ^ k → count_trailing_zeros k (x / 2) < k) → (x % 2 ≡ 1) ⊎ (x % 2 ≡ 0) → count_trailing_zeros (suc k) x < suc k
    go rest (inl o) = let e = trailing_odd k x o in omega arith
    go rest (inr o) = let e = trailing_even k x o in let r = rest (omega arith) (half_lt k x h) in omega arith

lowest_member : (k x : ℕ) → x ≢ 0 → x < 2 ^ k → member x (count_trailing_zeros k x) ≡ true
lowest_member zero x n h = absurd (omega arith)
lowest_member (suc k) x n h = go (lowest_member k (x / 2)) (parity x)
  where
    go : (x / 2 ≢ 0 → x / 2 < 2 ^ k → member (x / 2) (count_trailing_zeros k (x / 2)) ≡ true) → (x % 2 ≡ 1) ⊎ (x % 2 ≡ 0)
        → member x (count_trailing_zeros (suc k) x) ≡ true
    go rest (inl o) = ap (member x) (trailing_odd k x o) ∙ member_odd x o
    go rest (inr o) =
        ap (member x) (trailing_even k x o) ∙ member_half x (count_trailing_zeros k (x / 2)) ∙ rest (omega arith) (half_lt k x h)

lowest_least : (k x i : ℕ) → member x i ≡ true → count_trailing_zeros k x ≤ i
lowest_least zero x i m = let e = trailing_none x in omega arith
lowest_least (suc k) x i m = go (lowest_least k (x / 2)) i m (parity x)
  where
    go : ((j : ℕ) → member (x / 2) j ≡ true → count_trailing_zeros k (x / 2) ≤ j) → (j : ℕ) → member x j ≡ true → (x % 2 ≡ 1) ⊎ (x % 2 ≡ 0)
        → count_trailing_zeros (suc k) x ≤ j
    go rest j m (inl o) = let e = trailing_odd k x o in omega arith
    go rest zero m (inr o) = absurd (not_both m (member_even x o))
    go rest (suc j) m (inr o) = let e = trailing_even k x o in let r = rest j (sym (member_half x j) ∙ m) in omega arith

-- ---- the set without it

and_same : (b : Bool) → (b && b) ≡ (b && true)
and_same true = refl
and_same false = refl

-- one less has the bits below the lowest element instead of it, and the bits above it
pred_member : (k x i : ℕ) → x ≢ 0 → x < 2 ^ k → (member x i && member (x - 1) i) ≡ (member x i && not (eqb i (count_trailing_zeros k x)))
pred_member zero x i n h = absurd (omega arith)
pred_member (suc k) x i n h = go (λ j m. pred_member k (x / 2) j m (half_lt k x h)) i (parity x)
  where
    go : ((j : ℕ) → x / 2 ≢ 0 → (member (x / 2) j && member (x / 2 - 1) j) ≡ (member (x / 2) j && not (eqb j (count_trailing_zeros k (x / 2)))))
        → (j : ℕ) → (x % 2 ≡ 1) ⊎ (x % 2 ≡ 0) → (member x j && member (x - 1) j) ≡ (member x j && not (eqb j (count_trailing_zeros (suc k) x)))
    go rest zero (inl o) =
        ap (λ (b : Bool). member x 0 && b) (member_even (x - 1) (omega arith) ∙ ap (λ (t : ℕ). not (eqb 0 t)) (sym (trailing_odd k x o)))
    go rest (suc j) (inl o) =
        let half : (x - 1) / 2 ≡ x / 2 = omega arith in
        ap (λ (b : Bool). member x (suc j) && b) (member_half (x - 1) j ∙ ap (λ (y : ℕ). member y j) half ∙ sym (member_half x j))
        ∙ and_same (member x (suc j))
        ∙ ap (λ (b : Bool). member x (suc j) && not b) (sym (eqb-suc-zero j) ∙ ap (eqb (suc j)) (sym (trailing_odd k x o)))
    go rest zero (inr o) =
        ap (λ (b : Bool). b && member (x - 1) 0) (member_even x o)
        ∙ ap (λ (b : Bool). b && not (eqb 0 (count_trailing_zeros (suc k) x))) (sym (member_even x o))
    go rest (suc j) (inr o) =
        let half : (x - 1) / 2 ≡ x / 2 - 1 = omega arith in
        ap₂ (λ (a b : Bool). a && b) (member_half x j) (member_half (x - 1) j ∙ ap (λ (y : ℕ). member y j) half)
        ∙ rest j (omega arith)
        ∙ ap₂ (λ (a b : Bool). a && not b) (sym (member_half x j))
        (sym (eqb-suc-suc j (count_trailing_zeros k (x / 2))) ∙ ap (eqb (suc j)) (sym (trailing_even k x o)))

clear_member : (k x i : ℕ) → x ≢ 0 → x < 2 ^ k → member (bit_and x (x - 1)) i ≡ (member x i && not (eqb i (count_trailing_zeros k x)))
clear_member k x i n h = member_and x (x - 1) i ∙ pred_member k x i n h

-- ---- one turn of the walk: the trailing zeros are taken, and the set without its lowest bit is left (T1)

pub lowest_taken : (x : ℕ) → x ≢ 0 → x < 2 ^ 64 → Takes x (count_trailing_zeros 64 x) (bit_and x (x - 1))
lowest_taken x n h =
    record {
      below = lowest_lt 64 x n h;
      own = lowest_member 64 x n h;
      lowest = lowest_least 64 x;
      rest = λ j. (
        λ m.
            let r = (and_true (member x j) (not (eqb j t))).0 (sym (clear_member 64 x j n h) ∙ m) in
            (r.0, (eqb_false j t).0 ((not_true (eqb j t)).0 r.1)),
        λ r. clear_member 64 x j n h ∙ (and_true (member x j) (not (eqb j t))).1 (r.0, (not_true (eqb j t)).1 ((eqb_false j t).1 r.1)),
      );
    }
  where
    t : ℕ
    t = count_trailing_zeros 64 x
