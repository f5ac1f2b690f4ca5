-- P1 to P5: how long the text of a sheet can be: each action and state takes three bytes, each other number at most twenty-one.
-- Assumes nothing.
use mathlib.Core.Path.{refl}
use mathlib.Core.List.{List, [], ◌∷◌, ◌++◌, map, Memᴰ}
use Prim.Native.Nat.{ℕ, zero, suc, ◌+◌, ◌*◌, ◌/◌, ◌%◌, ◌^◌, ◌≤◌, ◌<◌}
use native.Mathlib.Nat.{pow-suc, mul-suc}
use native.Mathlib.Omega.{arith}
use lib.ListN.{length, length-append}
use Rattle.sets.specs.Lists.{append_all, below, upward}
use Rattle.sets.specs.Bits.{members}
use Rattle.sets.proofs.Members.{members_mem, members_few}
use Rattle.systems.specs.Checking.{flat}
use Rattle.sheet.specs.Bounds.{most_components}
use Rattle.answers.specs.Report.{digits_before, part, line, step_word, end_word, step_texts, end_texts}

-- ---- numbers (P1)

-- `digits_before k x t` writes the digits of x in front of the text t, with k places at most. `Few k` says of it: where x is below 10 ^ j,
-- it writes at most j digits.
abbrev Few : ℕ → Type 0
Few k = (j x : ℕ) (t : List ℕ) → x < 10 ^ j → length (digits_before k x t) ≤ j + length t

-- what holds with k places holds with one place more
few_more : (k : ℕ) → Few k → Few (suc k)
few_more k before j zero t h = omega arith
few_more k before j (suc x) t h = by_power j h
  where
    by_power : (j : ℕ) → suc x < 10 ^ j → length (digits_before k (suc x / 10) ((48 + suc x % 10) ∷ t)) ≤ j + length t
    by_power zero h = absurd (omega arith)
    by_power (suc j) h =
        let e = pow-suc 10 j in
        let r = before j (suc x / 10) ((48 + suc x % 10) ∷ t) (omega arith) in
        omega arith

-- so it holds with any number of places
digits_few : (k : ℕ) → Few k
digits_few zero j x t h = omega arith
digits_few (suc k) j x t h = few_more k (digits_few k) j x t h

-- a number below 10 ^ k has at most k digits; with the space in front of it, it takes one byte more
part_few : (k x : ℕ) → 0 < k → x < 10 ^ k → length (part x) ≤ suc k
part_few k zero some h = omega arith
part_few k (suc x) some h = let r = digits_few (suc x) k (suc x) [] h in omega arith

-- the same of the numbers of a list, one behind another
parts_few : (k : ℕ) → 0 < k → (xs : List ℕ) → ((x : ℕ) → Memᴰ x xs → x < 10 ^ k) → length (append_all (map part xs)) ≤ suc k * length xs
parts_few k some [] h = omega arith
parts_few k some (x ∷ xs) h =
    let a = length-append (part x) (append_all (map part xs)) in
    let p = part_few k x some (h x (Memᴰ.head refl)) in
    let r = parts_few k some xs (λ y m. h y (Memᴰ.tail m)) in
    let e = mul-suc (suc k) (length xs) in
    omega arith

-- each number of the list has at most 20 digits
abbrev pub In20 : List ℕ → Type 0
In20 [] = Unit {0}
In20 (x ∷ xs) = (x < 10 ^ 20) × In20 xs

in20_each : (xs : List ℕ) → In20 xs → (x : ℕ) → Memᴰ x xs → x < 10 ^ 20
in20_each [] h x x4 = elim x4 [ ]
in20_each (y ∷ ys) h x (Memᴰ.head e) = rw e h.0
in20_each (y ∷ ys) h x (Memᴰ.tail t) = in20_each ys h.1 x t

pub line_most : (word xs : List ℕ) → In20 xs → length (line word xs) ≤ length word + 21 * length xs + 1
line_most word xs h =
    let a = length-append word (append_all (map part xs) ++ (10 ∷ [])) in
    let b = length-append (append_all (map part xs)) (10 ∷ []) in
    let r = parts_few 20 (omega arith) xs (in20_each xs h) in
    omega arith

-- ---- sets (P4, P5)

members_text : (x : ℕ) → length (append_all (map part (members x))) ≤ 3 * length (members x)
members_text x = parts_few 2 (omega arith) (members x) (λ i m. let l = ((members_mem x i).0 m).0 in omega arith)

step_line : (x : ℕ) → length (line step_word (members x)) ≤ 5 + 3 * length (members x)
step_line x =
    let b = length-append (append_all (map part (members x))) (10 ∷ []) in
    let r = members_text x in
    omega arith

end_line : (j x : ℕ) → j < 100 → length (line end_word (j ∷ members x)) ≤ 199
end_line j x h =
    let parts = append_all (map part (members x)) in
    let a = length-append (part j ++ parts) (10 ∷ []) in
    let b = length-append (part j) parts in
    let p = part_few 2 j (omega arith) h in
    let r = members_text x in
    let f = members_few x in
    omega arith

-- ---- lines of steps and of end sets (P4, P5)

pub steps_most : (xs : List ℕ) → length (step_texts xs) ≤ 5 * length xs + 3 * length (flat xs)
steps_most [] = omega arith
steps_most (x ∷ xs) =
    let a = length-append (line step_word (members x)) (step_texts xs) in
    let b = length-append (members x) (flat xs) in
    let p = step_line x in
    let r = steps_most xs in
    omega arith

upward_most : (held : ℕ → ℕ) (j k : ℕ) → j + k ≤ 100 → length (end_texts held (upward j k)) ≤ 199 * k
unfolding upward
upward_most held j zero h = omega arith
upward_most held j (suc k) h =
    let a = length-append (line end_word (j ∷ members (held j))) (end_texts held (upward (suc j) k)) in
    let p = end_line j (held j) (omega arith) in
    let r = upward_most held (suc j) k (omega arith) in
    omega arith

pub ends_most : (held : ℕ → ℕ) (n : ℕ) → n ≤ most_components → length (end_texts held (below n)) ≤ 3184
unfolding below
ends_most held n h = let r = upward_most held 0 n (omega arith) in omega arith
