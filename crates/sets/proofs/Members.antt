-- S1: which numbers are elements of the sets that this crate makes of bits, and that a set is given by its elements.
-- The number of bits is free: only `members`, and what is said of it, has 64.
-- Assumes nothing.
use mathlib.Core.Path.{◌≡◌, refl, sym, ap, ◌∙◌, subst}
use mathlib.Core.Bool.{Bool, true, false, not, ◌&&◌, ◌||◌, or_assoc}
use mathlib.Core.Logic.{◌↔◌, ◌≢◌, ◌⊎◌, inl, inr}
use mathlib.Core.List.Memᴰ
use mathlib.Core.List.{List, [], ◌∷◌, Memᴰ}
use Prim.Native.Nat.{ℕ, zero, suc, ◌+◌, ◌-◌, ◌*◌, ◌/◌, ◌%◌, ◌^◌, ◌≤◌, ◌<◌, zero-le, min, max}
use native.Mathlib.Nat.{le_refl, zero-add, add-zero, add-suc, suc-add, le_antisymm, le_of_suc-le-suc, not-suc-le-zero, zero-lt-suc}
use native.Mathlib.Nat.{lt_of_lt_of_le, lt_of_not-le, eq-or-lt_of_le, mod-lt, div-one, div-eq_of_lt, zero-div, pow-suc}
use native.Mathlib.Numerals.{add-one, one-add}
use native.Mathlib.Omega.{arith}
use lib.Dec.{eqb, eqb-zero-suc, eqb-suc-zero, eqb-suc-suc}
use lib.Arith.{bin_ind, digits_mod}
use lib.Pow.{pow_pos, pow_mono, ones_lt, shr-shr}
use lib.Bits.{bit_or, bit_and, or_step, and_step, or_shr, and_shr}
use lib.Count.{ones, ones_step, ones-ones}
use lib.ListN.{length}
use Rattle.sets.specs.Lists.{any_of, keep, Distinct, below, RisingAbove, Rising}
use Rattle.sets.specs.Bits.{member, members_from, members, with, set_of}
use Rattle.sets.proofs.Bools.{true_or_false, not_both, iff_bool, not_true, not_false, and_true, or_true, eqb_true, eqb_false}
use Rattle.sets.proofs.Lists.{from_keep, keep_head, keep_tail, above_rising, rising_distinct, rising_same, some_below, none_below}

-- ---- bit by bit: the lowest bit, and the bits of the half

pub member_low : (x : ℕ) → member x 0 ≡ eqb (x % 2) 1
member_low x = ap (λ (y : ℕ). eqb (y % 2) 1) (div-one x)

pub member_half : (x i : ℕ) → member x (suc i) ≡ member (x / 2) i
member_half x i = ap (λ (y : ℕ). eqb (y % 2) 1) (ap (λ (j : ℕ). x / 2 ^ j) (sym (one-add i)) ∙ sym (shr-shr x 1 i))

pub member_zero : (i : ℕ) → member 0 i ≡ false
member_zero i = ap (λ (y : ℕ). eqb (y % 2) 1) (zero-div (2 ^ i))

-- ---- union, intersection, one element

-- what f is of the bits a and b, by a test of the two
abbrev Bit : (ℕ → ℕ → ℕ) → (Bool → Bool → Bool) → ℕ → ℕ → Type 0
Bit f t a b = (f a b < 2) × (eqb (f a b) 1 ≡ t (eqb a 1) (eqb b 1))

module _ (f : ℕ → ℕ → ℕ) (t : Bool → Bool → Bool) (none : Bit f t 0 0) (second : Bit f t 0 1) (first : Bit f t 1 0) (both : Bit f t 1 1) where
  every_bit : (a b : ℕ) → a < 2 → b < 2 → Bit f t a b
  every_bit zero zero h k = none
  every_bit zero (suc zero) h k = second
  every_bit (suc zero) zero h k = first
  every_bit (suc zero) (suc zero) h k = both
  every_bit zero (suc (suc b)) h k = absurd (omega arith)
  every_bit (suc zero) (suc (suc b)) h k = absurd (omega arith)
  every_bit (suc (suc a)) b h k = absurd (omega arith)

  -- an operation that is f of the lowest bits, before the operation on the halves
  member_bitwise : (op : ℕ → ℕ → ℕ) → ((a b : ℕ) → op a b ≡ op (a / 2) (b / 2) * 2 + f (a % 2) (b % 2))
      → ((x y i : ℕ) → op x y / 2 ^ i ≡ op (x / 2 ^ i) (y / 2 ^ i)) → (x y i : ℕ) → member (op x y) i ≡ t (member x i) (member y i)
  member_bitwise op step shift x y i =
      let a = x / 2 ^ i in
      let b = y / 2 ^ i in
      let bit = every_bit (a % 2) (b % 2) (mod-lt a (zero-lt-suc 1)) (mod-lt b (zero-lt-suc 1)) in
      ap (λ (z : ℕ). eqb (z % 2) 1) (shift x y i ∙ step a b) ∙ ap (λ (z : ℕ). eqb z 1) (digits_mod (op (a / 2) (b / 2)) bit.0) ∙ bit.1

pub member_or : (x y i : ℕ) → member (bit_or x y) i ≡ (member x i || member y i)
member_or = member_bitwise max ◌||◌ (omega arith, refl) (omega arith, refl) (omega arith, refl) (omega arith, refl) bit_or or_step or_shr

pub member_and : (x y i : ℕ) → member (bit_and x y) i ≡ (member x i && member y i)
member_and = member_bitwise min ◌&&◌ (omega arith, refl) (omega arith, refl) (omega arith, refl) (omega arith, refl) bit_and and_step and_shr

pow_half : (i : ℕ) → 2 ^ suc i / 2 ≡ 2 ^ i
pow_half i = let e = pow-suc 2 i in omega arith

pow_even : (i : ℕ) → 2 ^ suc i % 2 ≡ 0
pow_even i = let e = pow-suc 2 i in omega arith

pub member_one : (i j : ℕ) → member (2 ^ i) j ≡ eqb i j
member_one zero zero = refl
member_one zero (suc j) = member_half 1 j ∙ member_zero j ∙ sym (eqb-zero-suc j)
member_one (suc i) zero = member_low (2 ^ suc i) ∙ ap (λ (z : ℕ). eqb z 1) (pow_even i) ∙ sym (eqb-suc-zero i)
member_one (suc i) (suc j) =
    member_half (2 ^ suc i) j ∙ ap (λ (z : ℕ). member z j) (pow_half i) ∙ member_one i j ∙ sym (eqb-suc-suc i j)

pub member_with : (i x j : ℕ) → member (with i x) j ≡ (eqb i j || member x j)
member_with i x j = member_or (2 ^ i) x j ∙ ap (λ (b : Bool). b || member x j) (member_one i j)

-- the same, each as an equivalence
pub or_member : (x y i : ℕ) → (member (bit_or x y) i ≡ true) ↔ ((member x i ≡ true) ⊎ (member y i ≡ true))
or_member x y i = (
  λ h. (or_true (member x i) (member y i)).0 (sym (member_or x y i) ∙ h),
  λ s. member_or x y i ∙ (or_true (member x i) (member y i)).1 s,
)

pub one_member : (p i : ℕ) → (member (2 ^ p) i ≡ true) ↔ (p ≡ i)
one_member p i = (λ h. (eqb_true p i).0 (sym (member_one p i) ∙ h), λ e. member_one p i ∙ (eqb_true p i).1 e)

pub with_member : (p x i : ℕ) → (member (with p x) i ≡ true) ↔ ((p ≡ i) ⊎ (member x i ≡ true))
with_member p x i = (
  λ h. elim ((or_true (eqb p i) (member x i)).0 (sym (member_with p x i) ∙ h)) [ inl e ↦ inl ((eqb_true p i).0 e) | inr e ↦ inr e ],
  λ s. member_with p x i ∙ (or_true (eqb p i) (member x i)).1 (elim s [ inl e ↦ inl ((eqb_true p i).1 e) | inr e ↦ inr e ]),
)

-- ---- the order, and equality

-- of a set within another: the lowest bits, and the halves
pub subset_low : (x y : ℕ) → ((i : ℕ) → member x i ≡ true → member y i ≡ true) → x % 2 ≤ y % 2
subset_low x y h = go (true_or_false (eqb (x % 2) 1))
  where
    go : (eqb (x % 2) 1 ≡ true) ⊎ (eqb (x % 2) 1 ≡ false) → x % 2 ≤ y % 2
    go (inl e) = let a = (eqb_true (x % 2) 1).0 e in let b = (eqb_true (y % 2) 1).0 (sym (member_low y) ∙ h 0 (member_low x ∙ e)) in omega arith
    go (inr e) = let a = (eqb_false (x % 2) 1).0 e in omega arith

pub subset_half : (x y : ℕ) → ((i : ℕ) → member x i ≡ true → member y i ≡ true) → (i : ℕ) → member (x / 2) i ≡ true → member (y / 2) i ≡ true
subset_half x y h i e = sym (member_half y i) ∙ h (suc i) (member_half x i ∙ e)

pub subset_le : (x y : ℕ) → ((i : ℕ) → member x i ≡ true → member y i ≡ true) → x ≤ y
subset_le =
    bin_ind (λ (x : ℕ). (y : ℕ) → ((i : ℕ) → member x i ≡ true → member y i ≡ true) → x ≤ y) (λ y h. zero-le)
    (λ x ih y h. let a = ih (y / 2) (subset_half x y h) in let b = subset_low x y h in omega arith)

pub member_ext : (x y : ℕ) → ((i : ℕ) → member x i ≡ member y i) → x ≡ y
member_ext x y h = le_antisymm (subset_le x y (λ i e. sym (h i) ∙ e)) (subset_le y x (λ i e. h i ∙ e))

-- of three sets, any two may be joined first
pub union_assoc : (x y z : ℕ) → bit_or (bit_or x y) z ≡ bit_or x (bit_or y z)
union_assoc x y z =
    member_ext (bit_or (bit_or x y) z) (bit_or x (bit_or y z)) (λ i.
    member_or (bit_or x y) z i
    ∙ ap (λ (b : Bool). b || member z i) (member_or x y i)
    ∙ or_assoc (member x i) (member y i) (member z i)
    ∙ ap (λ (b : Bool). member x i || b) (sym (member_or y z i))
    ∙ sym (member_or x (bit_or y z) i))

-- a set that is not empty has an element
pub member_some : (x : ℕ) → x ≢ 0 → (i : ℕ) × (member x i ≡ true)
member_some = bin_ind (λ (x : ℕ). x ≢ 0 → (i : ℕ) × (member x i ≡ true)) (λ n. absurd (n refl)) step
  where
    step : (x : ℕ) → (x / 2 ≢ 0 → (i : ℕ) × (member (x / 2) i ≡ true)) → x ≢ 0 → (i : ℕ) × (member x i ≡ true)
    step x ih n = go (true_or_false (eqb (x % 2) 1))
      where
        go : (eqb (x % 2) 1 ≡ true) ⊎ (eqb (x % 2) 1 ≡ false) → (i : ℕ) × (member x i ≡ true)
        go (inl e) = (0, member_low x ∙ e)
        go (inr e) = let b = (eqb_false (x % 2) 1).0 e in let r = ih (omega arith) in (suc r.0, member_half x r.0 ∙ r.1)

-- ---- a number below 2 ^ n has its elements below n, and the other way round

pub member_lt : (n x i : ℕ) → x < 2 ^ n → member x i ≡ true → i < n
member_lt n x i h e =
    lt_of_not-le (λ (l : n ≤ i). not_both e (ap (λ (y : ℕ). eqb (y % 2) 1) (div-eq_of_lt (lt_of_lt_of_le h (pow_mono l)))))

pub lt_members : (n x : ℕ) → ((i : ℕ) → member x i ≡ true → i < n) → x < 2 ^ n
lt_members zero x h = lt_of_not-le (λ (l : 1 ≤ x). let r = member_some x (omega arith) in not-suc-le-zero (h r.0 r.1))
lt_members (suc n) x h =
    let a = lt_members n (x / 2) (λ i e. le_of_suc-le-suc (h (suc i) (member_half x i ∙ e))) in
    let e = pow-suc 2 n in
    omega arith

-- ---- the elements, as a rising list

from_members : (i k x j : ℕ) → Memᴰ j (members_from i k x) → (i ≤ j) × (j < i + k) × (member x j ≡ true)
unfolding members_from
from_members i zero x j m = absurd (Memᴰ.not-nil m)
from_members i (suc k) x j m = go (from_members (suc i) k x j) (from_keep (member x i) i (members_from (suc i) k x) m)
  where
    go : (Memᴰ j (members_from (suc i) k x) → (suc i ≤ j) × (j < suc i + k) × (member x j ≡ true))
        → ((member x i ≡ true) × (j ≡ i)) ⊎ Memᴰ j (members_from (suc i) k x) → (i ≤ j) × (j < i + suc k) × (member x j ≡ true)
    go rest (inl h) = let e = h.1 in (omega arith, omega arith, ap (member x) e ∙ h.0)
    go rest (inr h) = let r = rest h in (omega arith, omega arith, r.2)

into_members : (i k x j : ℕ) → i ≤ j → j < i + k → member x j ≡ true → Memᴰ j (members_from i k x)
unfolding members_from
into_members i zero x j a b e = absurd (omega arith)
into_members i (suc k) x j a b e = go (into_members (suc i) k x j) (eq-or-lt_of_le a)
  where
    go : (suc i ≤ j → j < suc i + k → member x j ≡ true → Memᴰ j (members_from (suc i) k x)) → (i ≡ j) ⊎ (i < j)
        → Memᴰ j (keep (member x i) i (members_from (suc i) k x))
    go rest (inl q) = keep_head (member x i) i (members_from (suc i) k x) (ap (member x) q ∙ e) (sym q)
    go rest (inr l) = keep_tail (member x i) i (members_from (suc i) k x) (rest l (omega arith) e)

pub members_from_mem : (i k x j : ℕ) → Memᴰ j (members_from i k x) ↔ ((i ≤ j) × (j < i + k) × (member x j ≡ true))
members_from_mem i k x j = (from_members i k x j, λ h. into_members i k x j h.0 h.1 h.2)

keep_above : (b : Bool) (h i : ℕ) (l : List ℕ) → h < i → RisingAbove i l → RisingAbove h l → RisingAbove h (keep b i l)
keep_above true h i l a r s = (a, r)
keep_above false h i l a r s = s

pub members_from_above : (h i k x : ℕ) → h < i → RisingAbove h (members_from i k x)
unfolding members_from
members_from_above h i zero x a = tt
members_from_above h i (suc k) x a =
    keep_above (member x i) h i (members_from (suc i) k x) a (members_from_above i (suc i) k x (le_refl (suc i)))
    (members_from_above h (suc i) k x (omega arith))

keep_rising : (b : Bool) (i : ℕ) (l : List ℕ) → RisingAbove i l → Rising (keep b i l)
keep_rising true i l r = r
keep_rising false i l r = above_rising i l r

pub members_from_rising : (i k x : ℕ) → Rising (members_from i k x)
unfolding members_from
members_from_rising i zero x = tt
members_from_rising i (suc k) x = keep_rising (member x i) i (members_from (suc i) k x) (members_from_above i (suc i) k x (le_refl (suc i)))

-- the one place where the 64 numbers unfold
members_from_fact : (x : ℕ) → members x ≡ members_from 0 64 x
unfolding members
members_from_fact x = refl

pub members_mem : (x i : ℕ) → Memᴰ i (members x) ↔ ((i < 64) × (member x i ≡ true))
members_mem x i =
    rw members_from_fact
    (λ m. let r = (members_from_mem 0 64 x i).0 m in (r.1, r.2), λ h. (members_from_mem 0 64 x i).1 (zero-le, h.0, h.1))

pub members_rising : (x : ℕ) → Rising (members x)
members_rising x = rw members_from_fact (members_from_rising 0 64 x)

pub members_distinct : (x : ℕ) → Distinct (members x)
members_distinct x = rising_distinct (members x) (members_rising x)

keep_few : (c : Bool) (i k : ℕ) (l : List ℕ) → length l ≤ k → length (keep c i l) ≤ suc k
keep_few true i k l h = omega arith
keep_few false i k l h = omega arith

members_from_few : (i k x : ℕ) → length (members_from i k x) ≤ k
unfolding members_from
members_from_few i zero x = omega arith
members_from_few i (suc k) x = keep_few (member x i) i k (members_from (suc i) k x) (members_from_few (suc i) k x)

pub members_few : (x : ℕ) → length (members x) ≤ 64
members_few x = rw members_from_fact (members_from_few 0 64 x)

pub members_zero : members 0 ≡ []
unfolding members
members_zero = refl

-- ---- the set of a list's elements

from_set_of : (l : List ℕ) (i : ℕ) → member (set_of l) i ≡ true → Memᴰ i l
from_set_of [] i h = absurd (not_both h (member_zero i))
from_set_of (j ∷ l) i h = go (from_set_of l i) ((or_true (eqb j i) (member (set_of l) i)).0 (sym (member_with j (set_of l) i) ∙ h))
  where
    go : (member (set_of l) i ≡ true → Memᴰ i l) → (eqb j i ≡ true) ⊎ (member (set_of l) i ≡ true) → Memᴰ i (j ∷ l)
    go rest (inl e) = Memᴰ.head (sym ((eqb_true j i).0 e))
    go rest (inr e) = Memᴰ.tail (rest e)

into_set_of : (l : List ℕ) (i : ℕ) → Memᴰ i l → member (set_of l) i ≡ true
into_set_of [] i x' = elim x' [ ]
into_set_of (j ∷ l) i (Memᴰ.head e) =
    member_with j (set_of l) i ∙ (or_true (eqb j i) (member (set_of l) i)).1 (inl ((eqb_true j i).1 (sym e)))
into_set_of (j ∷ l) i (Memᴰ.tail m) =
    member_with j (set_of l) i ∙ (or_true (eqb j i) (member (set_of l) i)).1 (inr (into_set_of l i m))

pub set_of_member : (l : List ℕ) (i : ℕ) → (member (set_of l) i ≡ true) ↔ Memᴰ i l
set_of_member l i = (from_set_of l i, into_set_of l i)

pub set_of_members : (x : ℕ) → x < 2 ^ 64 → set_of (members x) ≡ x
set_of_members x h =
    member_ext (set_of (members x)) x (λ i. iff_bool (member (set_of (members x)) i) (member x i) (
      λ e. ((members_mem x i).0 ((set_of_member (members x) i).0 e)).1,
      λ e. (set_of_member (members x) i).1 ((members_mem x i).1 (member_lt 64 x i h e, e)),
    ))

pub members_set_of : (l : List ℕ) → Rising l → ((i : ℕ) → Memᴰ i l → i < 64) → members (set_of l) ≡ l
members_set_of l r h =
    rising_same (members (set_of l)) l (members_rising (set_of l)) r
    (λ i. (λ m. (set_of_member l i).0 ((members_mem (set_of l) i).0 m).1, λ m. (members_mem (set_of l) i).1 (h i m, (set_of_member l i).1 m)))

-- ---- how many elements: as many as the number has ones (F7)

keep_length : (b : ℕ) (i : ℕ) (l : List ℕ) → b < 2 → length (keep (eqb b 1) i l) ≡ b + length l
keep_length zero i l h = sym (zero-add (length l))
keep_length (suc zero) i l h = sym (one-add (length l))
keep_length (suc (suc b)) i l h = absurd (omega arith)

pub ones_members_from : (i k x : ℕ) → x < 2 ^ (i + k) → ones (x / 2 ^ i) ≡ length (members_from i k x)
unfolding members_from
ones_members_from i zero x h = ap ones (div-eq_of_lt (subst (λ (j : ℕ). x < 2 ^ j) (add-zero i) h)) ∙ ones-ones 0
ones_members_from i (suc k) x h =
    ones_step (x / 2 ^ i)
    ∙ ap (λ (y : ℕ). x / 2 ^ i % 2 + ones y) (shr-shr x i 1 ∙ ap (λ (j : ℕ). x / 2 ^ j) (add-one i))
    ∙ ap (λ (n : ℕ). x / 2 ^ i % 2 + n) (ones_members_from (suc i) k x (subst (λ (j : ℕ). x < 2 ^ j) (add-suc i k ∙ sym (suc-add i k)) h))
    ∙ sym (keep_length (x / 2 ^ i % 2) i (members_from (suc i) k x) (mod-lt (x / 2 ^ i) (zero-lt-suc 1)))

pub ones_members : (x : ℕ) → x < 2 ^ 64 → ones x ≡ length (members x)
ones_members x h = ap ones (sym (div-one x)) ∙ ones_members_from 0 64 x h ∙ ap length (sym (members_from_fact x))

-- ---- the set of all numbers below m, and a set that lacks one of them (S1)

has_full : (m i : ℕ) → i < m → member (2 ^ m - 1) i ≡ true
has_full zero i l = absurd (omega arith)
has_full (suc m) zero l = member_low (2 ^ suc m - 1) ∙ ap (λ (z : ℕ). eqb z 1) odd
  where
    odd : (2 ^ suc m - 1) % 2 ≡ 1
    odd = let e = pow-suc 2 m in let p = pow_pos m in omega arith
has_full (suc m) (suc i) l = member_half (2 ^ suc m - 1) i ∙ ap (λ (z : ℕ). member z i) half ∙ has_full m i (le_of_suc-le-suc l)
  where
    half : (2 ^ suc m - 1) / 2 ≡ 2 ^ m - 1
    half = let e = pow-suc 2 m in let p = pow_pos m in omega arith

-- S1: the set of all numbers below m is 2 ^ m - 1
pub full_member : (m i : ℕ) → (member (2 ^ m - 1) i ≡ true) ↔ (i < m)
full_member m i = (member_lt m (2 ^ m - 1) i (ones_lt m), has_full m i)

absorb : (p q : Bool) → (q ≡ true → p ≡ true) → (p && q) ≡ q
absorb true q h = refl
absorb false true h = h refl
absorb false false h = refl

-- x is given by its elements, and `full` has the numbers below m and no other
module _ (x full m : ℕ) (has : ℕ → Bool) (given : (i : ℕ) → member x i ≡ has i) (all : (i : ℕ) → (member full i ≡ true) ↔ (i < m)) where
  whole : any_of (λ i. not (has i)) (below m) ≡ false → bit_and x full ≡ full
  whole none = member_ext (bit_and x full) full (λ i. member_and x full i ∙ absorb (member x i) (member full i) (inside i))
    where
      inside : (i : ℕ) → member full i ≡ true → member x i ≡ true
      inside i h = given i ∙ (not_false (has i)).0 ((none_below (λ j. not (has j)) m).0 none i ((all i).0 h))

  lacking : (i : ℕ) → i < m → has i ≡ false → bit_and x full ≢ full
  lacking i l h e =
      let both : member (bit_and x full) i ≡ true = ap (λ (z : ℕ). member z i) e ∙ (all i).1 l in
      not_both ((and_true (member x i) (member full i)).0 (sym (member_and x full i) ∙ both)).0 (given i ∙ h)

  -- S1: x lacks a number below m exactly where its part within `full` is not `full`
  pub lacks_below : not (eqb (bit_and x full) full) ≡ any_of (λ i. not (has i)) (below m)
  lacks_below = go (true_or_false (any_of (λ i. not (has i)) (below m)))
    where
      go : (any_of (λ i. not (has i)) (below m) ≡ true) ⊎ (any_of (λ i. not (has i)) (below m) ≡ false)
          → not (eqb (bit_and x full) full) ≡ any_of (λ i. not (has i)) (below m)
      go (inl e) =
          let r = (some_below (λ i. not (has i)) m).0 e in
          (not_true _).1 ((eqb_false _ _).1 (lacking r.0 r.1 ((not_true _).0 r.2))) ∙ sym e
      go (inr e) = (not_false _).1 ((eqb_true _ _).1 (whole e)) ∙ sym e
