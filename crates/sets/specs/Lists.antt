-- G4: tests over a list, lists joined or written over the front of another, and lists whose elements rise.
-- Assumes nothing.
use Rattle.std.specs.Prelude.{Bool, true, false, ◌&&◌, ◌||◌, ℕ, zero, suc, ◌<◌, length, drop}
use mathlib.Core.List.{List, [], ◌∷◌, ◌++◌, Memᴰ}

module _ {ℓ} {A : Type ℓ} where
  -- some element passes the test
  abbrev pub any_of : (A → Bool) → List A → Bool
  any_of p [] = false
  any_of p (x ∷ xs) = p x || any_of p xs

  -- every element passes the test
  abbrev pub all_of : (A → Bool) → List A → Bool
  all_of p [] = true
  all_of p (x ∷ xs) = p x && all_of p xs

  -- the lists of a list of lists, one behind another
  abbrev pub append_all : List (List A) → List A
  append_all [] = []
  append_all (x ∷ xs) = x ++ append_all xs

  -- the element before the list where the test passes, else the list alone
  abbrev pub keep : Bool → A → List A → List A
  keep true x xs = x ∷ xs
  keep false x xs = xs

  -- N9: a list written over the front of another, whose elements behind it stay
  abbrev pub over : List A → List A → List A
  over xs ys = xs ++ drop (length xs) ys

  -- no element stands twice
  abbrev pub Distinct : List A → Type ℓ
  Distinct [] = Unit {ℓ}
  Distinct (x ∷ xs) = (¬ Memᴰ x xs) × Distinct xs

-- k numbers, rising from i
unfoldable pub upward : ℕ → ℕ → List ℕ
upward i zero = []
upward i (suc k) = i ∷ upward (suc i) k

-- the numbers below n, rising
unfoldable pub below : ℕ → List ℕ
unfolding upward
below n = upward 0 n

-- every element of the list is above i, and each above the one before it
abbrev pub RisingAbove : ℕ → List ℕ → Type 0
RisingAbove i [] = Unit {0}
RisingAbove i (x ∷ xs) = (i < x) × RisingAbove x xs

-- each element is above the one before it
abbrev pub Rising : List ℕ → Type 0
Rising [] = Unit {0}
Rising (x ∷ xs) = RisingAbove x xs
