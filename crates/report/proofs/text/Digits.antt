-- P1: the decimal digits of a number, made from the last one to the first.
-- Assumes nothing.
use Rattle.std.proofs.Common.{◌≡◌, refl, sym, ap, ap₂, subst, ◌∙◌, List, [], ◌∷◌, ◌++◌, ℕ, zero, suc, ◌+◌, ◌-◌, ◌*◌, ◌/◌, ◌%◌, ◌^◌, ◌≤◌, ◌<◌}
use Rattle.std.proofs.Common.{length, take, drop, set, arith, length-set}
use Rattle.std.specs.Prelude.{max}
use native.Mathlib.Nat.{pow-suc}
use lib.Seq.{drop-cons, drop-set-lt, get_or-set_same, take-add}
use Rattle.answers.specs.Report.{digits_before, decimal}
use Rattle.answers.proofs.Decimals.{decimal_places}

-- k digits, the last ones of x, before the text so far
abbrev pub last_digits : ℕ → ℕ → List ℕ → List ℕ
last_digits zero x text = text
last_digits (suc k) x text = last_digits k (x / 10) ((48 + x % 10) ∷ text)

last_length : (k x : ℕ) (text : List ℕ) → length (last_digits k x text) ≡ k + length text
last_length zero x text = omega arith
last_length (suc k) x text = let r = last_length k (x / 10) ((48 + x % 10) ∷ text) in omega arith

some_power : (k : ℕ) → 1 ≤ 10 ^ k
some_power zero = omega arith
some_power (suc k) = let e = pow-suc 10 k in let h = some_power k in omega arith

-- of a number with k + 1 digits they are all
last_before : (k x : ℕ) (text : List ℕ) → 10 ^ k ≤ x → last_digits (suc k) x text ≡ digits_before (suc k) x text
last_before k zero text h = let p = some_power k in absurd (omega arith)
last_before zero (suc x) text h = refl
last_before (suc k) (suc x) text h =
    let e = pow-suc 10 k in
    last_before k (suc x / 10) ((48 + suc x % 10) ∷ text) (omega arith)

decimal_last : (m k x : ℕ) → m ≡ max x 1 → 10 ^ k ≤ m → m < 10 * 10 ^ k → last_digits (suc k) x [] ≡ decimal x
decimal_last m zero zero one low high = refl
decimal_last m (suc k) zero one low high = let e = pow-suc 10 k in let p = some_power k in absurd (omega arith)
decimal_last m k (suc x) one low high =
    let e = pow-suc 10 k in
    last_before k (suc x) [] (omega arith) ∙ sym (decimal_places (suc k) (suc x) (λ n. omega arith) (omega arith))

-- how many digits a number has
pub decimal_length : (m k x : ℕ) → m ≡ max x 1 → 10 ^ k ≤ m → m < 10 * 10 ^ k → length (decimal x) ≡ suc k
decimal_length m k x one low high = let l = last_length (suc k) x [] in let e = ap length (decimal_last m k x one low high) in omega arith

-- ---- the digits in their places

drop_stored : (l : List ℕ) (k v : ℕ) → k < length l → drop k (set l k v) ≡ v ∷ drop (suc k) l
drop_stored l k v h =
    drop-cons (set l k v) k 0 (let n = length-set l k v in omega arith)
    ∙ ap₂ (λ (y : ℕ) (r : List ℕ). y ∷ r) (get_or-set_same l k v 0 h) (drop-set-lt (suc k) l k v (omega arith))

-- from `from` on a number is to stand, up to `end`: the places from `at` on have its last digits, and those before are for the digits of `left`
pub record DigitsFrom (x : ℕ) (bytes : List ℕ) (from at end left : ℕ) : Type 0 where
  pub whole : last_digits (at - from) left (take (end - at) (drop at bytes)) ≡ decimal x

pub digits_none : (m k x : ℕ) (bytes : List ℕ) (from : ℕ) → m ≡ max x 1 → 10 ^ k ≤ m → m < 10 * 10 ^ k
    → DigitsFrom x bytes from (from + k + 1) (from + k + 1) x
digits_none m k x bytes from one low high =
    let end = from + k + 1 in
    let places : end - from ≡ suc k = omega arith in
    let none : end - end ≡ 0 = omega arith in
    record {
      whole = ap₂ (λ (p q : ℕ). last_digits p x (take q (drop end bytes))) places none ∙ decimal_last m k x one low high;
    }

more_at : (x : ℕ) (bytes : List ℕ) (from q end left : ℕ) → DigitsFrom x bytes from (suc q) end left → from ≤ q → suc q ≤ end → end ≤ length bytes
    → DigitsFrom x (set bytes q (48 + left % 10)) from q end (left / 10)
more_at x bytes from q end left D some low high =
    let one : suc q - from ≡ suc (q - from) = omega arith in
    let next : end - q ≡ suc (end - suc q) = omega arith in
    record {
      whole =
          ap (last_digits (q - from) (left / 10)) (ap₂ take next (drop_stored bytes q (48 + left % 10) (omega arith)))
          ∙ sym (ap (λ (k : ℕ). last_digits k left (take (end - suc q) (drop (suc q) bytes))) one)
          ∙ D.whole;
    }

-- one digit more
pub digits_more : (x : ℕ) (bytes : List ℕ) (from at end left : ℕ) → DigitsFrom x bytes from at end left → from < at → at ≤ end → end ≤ length bytes
    → DigitsFrom x (set bytes (at - 1) (48 + left % 10)) from (at - 1) end (left / 10)
digits_more x bytes from zero end left D some low high = absurd (omega arith)
digits_more x bytes from (suc q) end left D some low high =
    let e : q ≡ suc q - 1 = omega arith in
    subst (λ (i : ℕ). DigitsFrom x (set bytes i (48 + left % 10)) from i end (left / 10)) e
    (more_at x bytes from q end left D (omega arith) low high)

-- all digits, behind what stands before them
pub digits_all : (x : ℕ) (bytes : List ℕ) (from at end left : ℕ) → DigitsFrom x bytes from at end left → at ≡ from → from ≤ end
    → take end bytes ≡ take from bytes ++ decimal x
digits_all x bytes from at end left D e h =
    let none : at - from ≡ 0 = omega arith in
    let whole : end ≡ from + (end - from) = omega arith in
    ap (λ (k : ℕ). take k bytes) whole
    ∙ take-add from (end - from) bytes
    ∙ ap (λ (l : List ℕ). take from bytes ++ l)
    (ap (λ (k : ℕ). take (end - k) (drop k bytes)) (sym e)
    ∙ sym (ap (λ (k : ℕ). last_digits k left (take (end - at) (drop at bytes))) none)
    ∙ D.whole)
