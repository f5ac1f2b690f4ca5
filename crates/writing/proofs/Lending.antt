-- N9, F4: the laws of lending: what the output is once a part of it, lent from its middle on, is back with a section written over it.
-- Each takes what had been written before that section, so that sections add up; and the bytes of a number are its low ones and then its high ones.
-- Assumes nothing.
use mathlib.Core.Path.{◌≡◌, refl, sym, ap, ap₂, ◌∙◌}
use mathlib.Core.List.{List, [], ◌∷◌, ◌++◌, append_assoc, append-nil, map, map-append}
use Prim.Native.Nat.{ℕ, zero, suc, ◌+◌, ◌-◌, ◌*◌, ◌/◌, ◌%◌, ◌^◌, ◌≤◌, ◌<◌}
use native.Mathlib.Nat.{zero-add, suc-add, pow-suc, mul_comm, div-one, div-div-eq-div-mul}
use native.Mathlib.Numerals.{add-one}
use native.Mathlib.Omega.{arith}
use lib.ListN.{length, take, drop, get_or, length-append, length-drop, drop_of_length-le}
use lib.Seq.{take_at, drop_at, take_all, drop-drop, take-suc, length-take-le}
use Rattle.std.specs.Int.{w64, byte_at, bytes_low_first, to_le_bytes}
use borrow.Rule.Slice.PartMut.{mid_of, put_mid}
use Rattle.sets.specs.Lists.{append_all}
use Rattle.sets.proofs.Lists.{append_all_append}
use Rattle.sheet.specs.Numbers.{bytes}
use Rattle.sheet.specs.Writing.{step_bytes}
use Rattle.sheet.proofs.Numbers.{length_bytes, length_numbers}
use Rattle.sets.specs.Lists.{over}

-- one section behind another
over_both : (p q X : List ℕ) → p ++ over q (drop (length p) X) ≡ over (p ++ q) X
over_both p q X =
    ap (λ (l : List ℕ). p ++ (q ++ l)) (drop-drop (length q) (length p) X)
    ∙ sym (append_assoc p q (drop (length p + length q) X))
    ∙ ap (λ (j : ℕ). (p ++ q) ++ drop j X) (sym (length-append p q))

-- the rest behind p is lent, and comes back with q over it (F4)
pub lent_over : (p q X : List ℕ) {X' Y : List ℕ} {a k : ℕ} → X' ≡ over p X → a ≡ length p → k ≡ length X' - a → Y ≡ over q (mid_of a k X')
    → put_mid a k X' Y ≡ over (p ++ q) X
lent_over p q X {X'} {Y} {a} {k} x at count y =
    ap₂ (λ (f b : List ℕ). f ++ b) front (ap₂ (λ (b c : List ℕ). b ++ c) (y ∙ ap (over q) whole) none ∙ append-nil (over q (drop (length p) X)))
    ∙ over_both p q X
  where
    front : take a X' ≡ p
    front = ap (take a) x ∙ take_at p (drop (length p) X) a (sym at)

    behind : drop a X' ≡ drop (length p) X
    behind = ap (drop a) x ∙ drop_at p (drop (length p) X) a (sym at)

    whole : mid_of a k X' ≡ drop (length p) X
    whole = take_all k (drop a X') (omega (arith, length-drop a X')) ∙ behind

    none : drop k (drop a X') ≡ []
    none = drop_of_length-le (drop a X') {i = k} (omega (arith, length-drop a X'))

-- ---- the bytes of a number, the low ones in front (S1)

pub bytes_split : (a b x : ℕ) → bytes (a + b) x ≡ bytes a x ++ bytes b (x / 256 ^ a)
bytes_split zero b x = ap₂ (λ (k y : ℕ). bytes k y) (zero-add b) (omega arith)
bytes_split (suc a) b x =
    ap (λ (k : ℕ). bytes k x) (suc-add a b)
    ∙ ap (λ (l : List ℕ). x % 256 ∷ l) (bytes_split a b (x / 256) ∙ ap (λ (y : ℕ). bytes a (x / 256) ++ bytes b y) power)
  where
    power : x / 256 / 256 ^ a ≡ x / 256 ^ suc a
    power = div-div-eq-div-mul x 256 (256 ^ a) ∙ ap (λ (y : ℕ). x / y) (mul_comm 256 (256 ^ a) ∙ sym (pow-suc 256 a))

-- the eight bytes that the library makes of a number
low_first : (i k x : ℕ) → bytes_low_first i k x ≡ bytes k (x / 256 ^ i)
low_first i zero x = refl
low_first i (suc k) x =
    ap₂ (λ (d : ℕ) (l : List ℕ). d ∷ l) (lowest i) (low_first (suc i) k x ∙ ap (bytes k) higher)
  where
    lowest : (j : ℕ) → byte_at j x ≡ x / 256 ^ j % 256
    lowest zero = ap (λ (y : ℕ). y % 256) (sym (div-one x))
    lowest (suc j) = refl

    higher : x / 256 ^ suc i ≡ x / 256 ^ i / 256
    higher = ap (λ (y : ℕ). x / y) (pow-suc 256 i) ∙ sym (div-div-eq-div-mul x (256 ^ i) 256)

-- S1: the first of them are those of the number in so many bytes
pub low_bytes : (n x : ℕ) → n ≤ 8 → take n (to_le_bytes w64 x) ≡ bytes n x
low_bytes n x h =
    ap (take n) (low_first 0 8 x ∙ ap (bytes 8) (div-one x) ∙ ap (λ (k : ℕ). bytes k x) whole ∙ bytes_split n (8 - n) x)
    ∙ take_at (bytes n x) (bytes (8 - n) (x / 256 ^ n)) n (length_bytes n x)
  where
    whole : 8 ≡ n + (8 - n)
    whole = omega arith

-- ---- the steps written so far (S5, N9)

pub steps_length : (k : ℕ) (xs : List ℕ) → k ≤ length xs → length (step_bytes (take k xs)) ≡ 8 * k
steps_length k xs h = length_numbers 8 (take k xs) ∙ ap (λ (j : ℕ). 8 * j) (length-take-le k xs h)

pub steps_next : (k : ℕ) (xs : List ℕ) → k < length xs → step_bytes (take k xs) ++ bytes 8 (get_or xs k 0) ≡ step_bytes (take (k + 1) xs)
steps_next k xs h =
    ap (λ (l : List ℕ). step_bytes (take k xs) ++ l) (sym (append-nil (bytes 8 x)))
    ∙ sym (append_all_append (map (bytes 8) (take k xs)) (bytes 8 x ∷ []))
    ∙ ap append_all (sym (map-append (bytes 8) (take k xs) (x ∷ [])))
    ∙ ap step_bytes (sym (take-suc xs k 0 h) ∙ ap (λ (j : ℕ). take j xs) (sym (add-one k)))
  where
    x : ℕ
    x = get_or xs k 0
