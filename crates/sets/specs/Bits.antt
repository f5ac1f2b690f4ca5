-- S1: a set of numbers below 64 as one number, with one bit for each element: sets of states and of actions (document 01, the sheet).
-- Assumes nothing.
use Rattle.std.specs.Prelude.{Bool, List, [], ◌∷◌, ℕ, zero, suc, ◌/◌, ◌%◌, ◌^◌, eqb}
use Rattle.std.specs.Int.Bits.{bit_or}
use Rattle.sets.specs.Lists.{keep}

-- i is an element of the set x
abbrev pub member : ℕ → ℕ → Bool
member x i = eqb (x / 2 ^ i % 2) 1

-- the elements of x among the k numbers from i on, rising
unfoldable pub members_from : ℕ → ℕ → ℕ → List ℕ
members_from i zero x = []
members_from i (suc k) x = keep (member x i) i (members_from (suc i) k x)

-- the elements of the set x, rising
unfoldable pub members : ℕ → List ℕ
unfolding members_from
members x = members_from 0 64 x

-- the set x with the element i
abbrev pub with : ℕ → ℕ → ℕ
with i x = bit_or (2 ^ i) x

-- the set of the elements of a list
abbrev pub set_of : List ℕ → ℕ
set_of [] = 0
set_of (i ∷ is) = with i (set_of is)
