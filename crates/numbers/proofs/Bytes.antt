-- S1: the number that the library reads from eight bytes, the last of them zeros; and how large a number in some bytes is at most.
-- S5: the first step of a step section, and those behind it.
-- Assumes nothing.
use Rattle.std.proofs.Common.{◌≡◌, refl, ap, ◌∙◌, arith, List, [], ◌∷◌, ◌++◌, map, ℕ, zero, suc, ◌+◌, ◌-◌, ◌*◌, ◌/◌, ◌^◌, ◌<◌, ◌≤◌}
use Rattle.std.proofs.Common.{length, take, drop, get_or, replicate, length-append, length-drop}
use Rattle.std.proofs.Math.Nat.{pow-suc}
use Rattle.sheet.specs.Numbers.{AreBytes, number, field, parts}
use Rattle.sheet.specs.Sections.{steps_in}
use Rattle.sheet.proofs.Numbers.{field_split, field_one, number_part}

-- ---- a number in some bytes (S1)

-- what eight bytes are worth, as the library adds them up
abbrev pub worth : List ℕ → ℕ
worth b =
    get_or b 0 0 + get_or b 1 0 * 256 + get_or b 2 0 * 65536 + get_or b 3 0 * 16777216 + get_or b 4 0 * 4294967296 + get_or b 5 0 * 1099511627776
    + get_or b 6 0 * 281474976710656 + get_or b 7 0 * 72057594037927936

-- a field is its first byte, and the field behind it
field_first : (at size : ℕ) (b : List ℕ) → field at (1 + size) b ≡ get_or b at 0 + 256 * field (at + 1) size b
field_first at size b = let e = field_split at 1 size b in let f = field_one at b in omega arith

field_none : (at : ℕ) (b : List ℕ) → field at 0 b ≡ 0
unfolding field
field_none at b = refl

take_whole : (n : ℕ) (b : List ℕ) → length b ≡ n → take n b ≡ b
take_whole zero [] e = refl
take_whole (suc n) (d ∷ b) e = ap (λ (l : List ℕ). d ∷ l) (take_whole n b (omega arith))
take_whole zero (d ∷ b) e = absurd (omega arith)
take_whole (suc n) [] e = absurd (omega arith)

number_eight : (b : List ℕ) → length b ≡ 8 → worth b ≡ number b
number_eight b h =
    omega (
      arith,
      ap number (take_whole 8 b h),
      number_part 0 8 b,
      field_first 0 7 b,
      field_first 1 6 b,
      field_first 2 5 b,
      field_first 3 4 b,
      field_first 4 3 b,
      field_first 5 2 b,
      field_first 6 1 b,
      field_first 7 0 b,
      field_none 8 b,
    )

zeros : (n k : ℕ) → number (drop n (replicate k 0)) ≡ 0
zeros zero zero = refl
zeros zero (suc k) = let e = zeros 0 k in omega arith
zeros (suc n) zero = refl
zeros (suc n) (suc k) = zeros n k

before_zeros : (a b : List ℕ) → number b ≡ 0 → number (a ++ b) ≡ number a
before_zeros [] b e = e
before_zeros (d ∷ a) b e = let r = before_zeros a b e in omega arith

-- S1: the number in some bytes, at most eight, with zeros behind them
pub number_padded : (n : ℕ) (a : List ℕ) → n ≤ 8 → length a ≡ n → worth (a ++ drop n (replicate 8 0)) ≡ number a
number_padded n a h e =
    number_eight (a ++ drop n (replicate 8 0)) (omega (arith, length-append a (drop n (replicate 8 0)), length-drop {A = ℕ} n (replicate 8 0)))
    ∙ before_zeros a (drop n (replicate 8 0)) (zeros n 8)

-- S1: a number in n bytes is below 256 ^ n
pub number_below : (b : List ℕ) → AreBytes b → number b < 256 ^ length b
number_below [] h = omega arith
number_below (d ∷ b) h =
    let r = number_below b (λ i. h (suc i)) in
    let less : d < 256 = h 0 in
    omega (arith, pow-suc 256 (length b))

-- ---- the steps of a section (S5)

pub first_step : (b : List ℕ) → 8 ≤ length b → steps_in b ≡ field 0 8 b ∷ steps_in (drop 8 b)
unfolding field
first_step b h =
    let count : length b / 8 ≡ suc (length (drop 8 b) / 8) = omega (arith, length-drop 8 b) in
    ap (λ (k : ℕ). map number (parts 8 k b)) count

-- the section behind the first eight bytes
pub behind_first : (b : List ℕ) → take (length b - 8) (drop 8 b) ≡ drop 8 b
behind_first b = take_whole (length b - 8) (drop 8 b) (length-drop 8 b)
