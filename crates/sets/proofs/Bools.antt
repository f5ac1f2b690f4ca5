-- G4: what a Bool that is true, or false, says of its parts; and of the numbers that a test compares.
-- Each law is an equivalence: `.0` takes a result apart, `.1` makes it.
-- Assumes nothing.
use mathlib.Core.Path.{◌≡◌, refl, sym, ◌∙◌}
use mathlib.Core.Bool.{Bool, true, false, ◌&&◌, ◌||◌, not, true≢false, false≢true}
use mathlib.Core.Bool.{and-eq-true_iff, or-true as or-true_right, and-false as and-false-right}
use mathlib.Core.Logic.{◌↔◌, ◌≢◌, ◌⊎◌, inl, inr}
use Prim.Native.Nat.{ℕ, ◌≤◌, ◌<◌}
use lib.Dec.{leb, ltb, eqb}
use borrow.Author.Tests as Tests

pub true_or_false : (b : Bool) → (b ≡ true) ⊎ (b ≡ false)
true_or_false true = inl refl
true_or_false false = inr refl

-- no Bool is both
pub not_both : {b : Bool} → b ≡ true → b ≡ false → ⊥
not_both t f = true≢false (sym t ∙ f)

pub iff_bool : (a b : Bool) → ((a ≡ true) ↔ (b ≡ true)) → a ≡ b
iff_bool true b h = sym (h.0 refl)
iff_bool false true h = h.1 refl
iff_bool false false h = refl

pub iff_bool_false : (a b : Bool) → ((a ≡ false) ↔ (b ≡ false)) → a ≡ b
iff_bool_false true true h = refl
iff_bool_false true false h = h.1 refl
iff_bool_false false b h = sym (h.0 refl)

pub not_true : (b : Bool) → (not b ≡ true) ↔ (b ≡ false)
not_true true = (sym, sym)
not_true false = (λ e. refl, λ e. refl)

pub not_false : (b : Bool) → (not b ≡ false) ↔ (b ≡ true)
not_false true = (λ e. refl, λ e. refl)
not_false false = (sym, sym)

-- "not false", and "not true", said by a refutation
pub true_iff : (b : Bool) → (b ≡ true) ↔ (¬ (b ≡ false))
true_iff true = (λ e. true≢false, λ n. refl)
true_iff false = (λ e f. false≢true e, λ n. absurd (n refl))

pub false_iff : (b : Bool) → (b ≡ false) ↔ (¬ (b ≡ true))
false_iff true = (λ e t. true≢false e, λ n. absurd (n refl))
false_iff false = (λ e. false≢true, λ n. refl)

pub and_true : (a b : Bool) → (a && b ≡ true) ↔ ((a ≡ true) × (b ≡ true))
and_true = and-eq-true_iff

pub and_false : (a b : Bool) → (a && b ≡ false) ↔ ((a ≡ false) ⊎ (b ≡ false))
and_false true b = (inr, λ s. elim s [ inl e ↦ absurd (true≢false e) | inr e ↦ e ])
and_false false b = (λ e. inl refl, λ s. refl)

pub or_true : (a b : Bool) → (a || b ≡ true) ↔ ((a ≡ true) ⊎ (b ≡ true))
or_true true b = (λ e. inl refl, λ s. refl)
or_true false b = (inr, λ s. elim s [ inl e ↦ absurd (false≢true e) | inr e ↦ e ])

pub or_false : (a b : Bool) → (a || b ≡ false) ↔ ((a ≡ false) × (b ≡ false))
or_false true b = (λ e. absurd (true≢false e), λ h. h.0)
or_false false b = (λ e. (refl, e), λ h. h.1)

pub or_left_comm : (a b c : Bool) → (a || (b || c)) ≡ (b || (a || c))
or_left_comm true b c = sym (or-true_right b)
or_left_comm false b c = refl

pub and_left_comm : (a b c : Bool) → (a && (b && c)) ≡ (b && (a && c))
and_left_comm true b c = refl
and_left_comm false b c = sym (and-false-right b)

-- ---- tests of numbers

pub leb_true : (m n : ℕ) → (leb m n ≡ true) ↔ (m ≤ n)
leb_true m n = (Tests.leb-true m n, Tests.le-leb m n)

pub leb_false : (m n : ℕ) → (leb m n ≡ false) ↔ (n < m)
leb_false m n = (Tests.leb-false m n, Tests.lt-leb m n)

pub ltb_true : (m n : ℕ) → (ltb m n ≡ true) ↔ (m < n)
ltb_true m n = (Tests.ltb-true m n, Tests.lt-ltb m n)

pub ltb_false : (m n : ℕ) → (ltb m n ≡ false) ↔ (n ≤ m)
ltb_false m n = (Tests.ltb-false m n, Tests.le-ltb m n)

pub eqb_true : (m n : ℕ) → (eqb m n ≡ true) ↔ (m ≡ n)
eqb_true m n = (Tests.eqb-true m n, Tests.eq-eqb m n)

pub eqb_false : (m n : ℕ) → (eqb m n ≡ false) ↔ (m ≢ n)
eqb_false m n = (Tests.eqb-false m n, Tests.ne_eqb m n)

pub eqb_self : (n : ℕ) → eqb n n ≡ true
eqb_self n = Tests.eq-eqb n n refl

pub equal_or_not : (m n : ℕ) → (m ≡ n) ⊎ (m ≢ n)
equal_or_not m n = elim (true_or_false (eqb m n)) [ inl e ↦ inl ((eqb_true m n).0 e) | inr e ↦ inr ((eqb_false m n).0 e) ]

-- two numbers are equal, or another test passes
pub equal_or : (a b : ℕ) (s : Bool) (S : Type 0) → ((s ≡ true) ↔ S) → ((eqb a b || s) ≡ true) ↔ ((a ≡ b) ⊎ S)
equal_or a b s S exact = (λ h. split ((or_true (eqb a b) s).0 h), join)
  where
    split : (eqb a b ≡ true) ⊎ (s ≡ true) → (a ≡ b) ⊎ S
    split (inl e) = inl ((eqb_true a b).0 e)
    split (inr e) = inr (exact.0 e)

    join : (a ≡ b) ⊎ S → (eqb a b || s) ≡ true
    join (inl e) = (or_true (eqb a b) s).1 (inl ((eqb_true a b).1 e))
    join (inr x) = (or_true (eqb a b) s).1 (inr (exact.1 x))

-- the test of a loop that has two bounds
pub both_below : (i m j n : ℕ) → (ltb i m && ltb j n) ≡ true → (i < m) × (j < n)
both_below i m j n e = let b = (and_true (ltb i m) (ltb j n)).0 e in ((ltb_true i m).0 b.0, (ltb_true j n).0 b.1)

pub one_past : (i m j n : ℕ) → (ltb i m && ltb j n) ≡ false → (m ≤ i) ⊎ (n ≤ j)
one_past i m j n e =
    elim ((and_false (ltb i m) (ltb j n)).0 e) [ inl a ↦ inl ((ltb_false i m).0 a) | inr b ↦ inr ((ltb_false j n).0 b) ]
