-- P1: decimal numbers: read back, digits alone, no 0 in front, no other text; and how many places a number needs.
-- Assumes nothing.
use mathlib.Core.Path.{◌≡◌, refl, ap, ap₂, ◌∙◌}
use mathlib.Core.Logic.{◌≢◌, inl, inr}
use mathlib.Core.List.Memᴰ
use mathlib.Core.List.{List, [], ◌∷◌, Memᴰ}
use Prim.Native.Nat.{ℕ, zero, suc, ◌+◌, ◌-◌, ◌*◌, ◌/◌, ◌%◌, ◌^◌, ◌≤◌, ◌<◌}
use native.Mathlib.Nat.{pow-suc}
use native.Mathlib.Omega.{arith}
use lib.ListN.{get_or}
use Rattle.answers.specs.Report.{digits_before, decimal}
use Rattle.answers.specs.Decimals.{value_after, value, Decimals}

-- ---- with as many places as the number counts

abbrev Reads : ℕ → Type 0
Reads k = (x : ℕ) (t : List ℕ) → x ≤ k → value (digits_before k x t) ≡ value_after x t

reads_more : (k : ℕ) → Reads k → Reads (suc k)
reads_more k before zero t h = refl
reads_more k before (suc x) t h =
    before (suc x / 10) ((48 + suc x % 10) ∷ t) (omega arith) ∙ ap (λ (y : ℕ). value_after y t) (omega arith)

reads : (k : ℕ) → Reads k
reads zero x t h = ap (λ (y : ℕ). value_after y t) (omega arith)
reads (suc k) x t h = reads_more k (reads k) x t h

abbrev Digit : ℕ → Type 0
Digit c = (48 ≤ c) × (c ≤ 57)

abbrev DigitsAlone : ℕ → Type 0
DigitsAlone k = (x : ℕ) (t : List ℕ) → ((c : ℕ) → Memᴰ c t → Digit c) → (c : ℕ) → Memᴰ c (digits_before k x t) → Digit c

alone_more : (k : ℕ) → DigitsAlone k → DigitsAlone (suc k)
alone_more k before zero t each c m = each c m
alone_more k before (suc x) t each c m =
    before (suc x / 10) ((48 + suc x % 10) ∷ t)
    (λ d n. elim (Memᴰ.cases_cons n) [ inl e ↦ (omega arith, omega arith) | inr r ↦ each d r ]) c m

alone : (k : ℕ) → DigitsAlone k
alone zero x t each c m = each c m
alone (suc k) x t each c m = alone_more k (alone k) x t each c m

abbrev NoZeroFirst : ℕ → Type 0
NoZeroFirst k = (x : ℕ) (t : List ℕ) → x ≢ 0 → x ≤ k → get_or (digits_before k x t) 0 48 ≢ 48

-- the first digit of what is left, or this one where nothing is
first_more : (k : ℕ) → NoZeroFirst k → (d y : ℕ) (t : List ℕ) → d ≤ k → (d ≡ 0 → y ≢ 48) → get_or (digits_before k d (y ∷ t)) 0 48 ≢ 48
first_more zero before d y t h last = last (omega arith)
first_more (suc k) before zero y t h last = last refl
first_more (suc k) before (suc d) y t h last = before (suc d) (y ∷ t) (λ e. omega arith) h

first : (k : ℕ) → NoZeroFirst k
first zero x t n h = absurd (n (omega arith))
first (suc k) zero t n h = absurd (n refl)
first (suc k) (suc x) t n h = first_more k (first k) (suc x / 10) (48 + suc x % 10) t (omega arith) (λ e q. omega arith)

no_zero : (x : ℕ) → x ≢ 0 → get_or (decimal x) 0 48 ≢ 48
no_zero zero n = absurd (n refl)
no_zero (suc x) n = first (suc x) (suc x) [] n (omega arith)

told : (x : ℕ) → value (decimal x) ≡ x
told zero = refl
told (suc x) = reads (suc x) (suc x) [] (omega arith)

digit_each : (x c : ℕ) → Memᴰ c (decimal x) → Digit c
digit_each zero c m = elim (Memᴰ.cases_cons m) [ inl e ↦ (omega arith, omega arith) | inr r ↦ absurd (Memᴰ.not-nil r) ]
digit_each (suc x) c m = alone (suc x) (suc x) [] (λ d n. absurd (Memᴰ.not-nil n)) c m

-- ---- fewer places serve as well

below_power : (x : ℕ) → x < 10 ^ x
below_power zero = omega arith
below_power (suc x) = let e = pow-suc 10 x in let h = below_power x in omega arith

-- any two numbers of places serve alike, where the number has no more digits than either
abbrev Alike : ℕ → Type 0
Alike k = (l x : ℕ) (t : List ℕ) → x < 10 ^ k → x < 10 ^ l → digits_before k x t ≡ digits_before l x t

-- P1: of 0 nothing is written in front
pub digits_of_zero : (l : ℕ) (t : List ℕ) → t ≡ digits_before l 0 t
digits_of_zero zero t = refl
digits_of_zero (suc l) t = refl

alike_more : (k : ℕ) → Alike k → Alike (suc k)
alike_more k before l zero t h g = digits_of_zero l t
alike_more k before zero (suc x) t h g = absurd (omega arith)
alike_more k before (suc l) (suc x) t h g =
    let e = pow-suc 10 k in
    let f = pow-suc 10 l in
    before l (suc x / 10) ((48 + suc x % 10) ∷ t) (omega arith) (omega arith)

alike : (k : ℕ) → Alike k
alike zero l x t h g = let e : x ≡ 0 = omega arith in digits_of_zero l t ∙ ap (λ (y : ℕ). digits_before l y t) (omega arith)
alike (suc k) l x t h g = alike_more k (alike k) l x t h g

-- a number that is not 0 and has at most k digits, in k places
pub decimal_places : (k x : ℕ) → x ≢ 0 → x < 10 ^ k → decimal x ≡ digits_before k x []
decimal_places k zero n h = absurd (n refl)
decimal_places k (suc x) n h = alike (suc x) k (suc x) [] (below_power (suc x)) h

-- ---- no other text

abbrev DigitsIn : List ℕ → Type 0
DigitsIn l = (c : ℕ) → Memᴰ c l → Digit c

one_place : (j m : ℕ) (t : List ℕ) → m ≢ 0 → digits_before (suc j) m t ≡ digits_before j (m / 10) ((48 + m % 10) ∷ t)
one_place j zero t n = absurd (n refl)
one_place j (suc m) t n = refl

-- the number told before a text, in j places, and the text are the number told by both
after_only : (l : List ℕ) (n k j : ℕ) → DigitsIn l → n ≢ 0 → value_after n l < 10 ^ k → n < 10 ^ j
    → digits_before k (value_after n l) [] ≡ digits_before j n l
after_only [] n k j each some h g = alike k j n [] h g
after_only (c ∷ cs) n k j each some h g =
    let low = (each c (Memᴰ.head refl)).0 in
    let high = (each c (Memᴰ.head refl)).1 in
    let m = 10 * n + (c - 48) in
    let e = pow-suc 10 j in
    let more : m ≢ 0 = λ q. some (omega arith) in
    let before : m / 10 ≡ n = omega arith in
    let last : 48 + m % 10 ≡ c = omega arith in
    after_only cs m k (suc j) (λ d r. each d (Memᴰ.tail r)) more h (omega arith)
    ∙ one_place j m cs more
    ∙ ap₂ (λ (x y : ℕ). digits_before j x (y ∷ cs)) before last

value_some : (l : List ℕ) (n : ℕ) → n ≢ 0 → value_after n l ≢ 0
value_some [] n some = some
value_some (c ∷ cs) n some = value_some cs (10 * n + (c - 48)) (λ q. some (omega arith))

text_only : (l : List ℕ) → DigitsIn l → get_or l 0 48 ≢ 48 → decimal (value l) ≡ l
text_only [] each first = absurd (first refl)
text_only (c ∷ cs) each first =
    let low = (each c (Memᴰ.head refl)).0 in
    let high = (each c (Memᴰ.head refl)).1 in
    let n = 10 * 0 + (c - 48) in
    let some : n ≢ 0 = λ q. first (omega arith) in
    let v = value_after n cs in
    let last : 48 + n % 10 ≡ c = omega arith in
    decimal_places v v (value_some cs n some) (below_power v)
    ∙ after_only cs n v 1 (λ d r. each d (Memᴰ.tail r)) some (below_power v) (omega arith)
    ∙ one_place 0 n cs some
    ∙ ap (λ (y : ℕ). y ∷ cs) last

pub decimals : Decimals
decimals =
    record {
      read_back = told;
      digits_alone = digit_each;
      zero_printed = refl;
      no_zero_first = no_zero;
      no_other = text_only;
    }
