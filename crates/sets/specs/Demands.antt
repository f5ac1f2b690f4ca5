-- T1, T2: the demand of document 02, request 2, on the walk over a set. It speaks of whatever calls of `take_lowest` take, turn after turn,
-- where each keeps its promise (specs/Walk: `Takes` is its `ensures`). That a call ends and keeps it is what the check of the code proves.
-- Assumes nothing.
use Rattle.std.specs.Prelude.{◌≡◌, ◌↔◌, ◌⊎◌, true, ℕ, ◌^◌, ◌<◌}
use mathlib.Core.List.{List, ◌++◌, Memᴰ}
use Rattle.sets.specs.Lists.{Distinct, Rising}
use Rattle.sets.specs.Bits.{member, members}
use Rattle.sets.specs.Walk.{Turns, Walk}

-- T2: of every set of 64 bits, and of all that is taken from it
pub record WalkDemand : Type 0 where
  -- T2: in a whole walk a number is taken exactly when its bit is set
  pub own_exactly : (x : ℕ) (taken : List ℕ) → Walk x taken → (i : ℕ) → Memᴰ i taken ↔ (member x i ≡ true)
  -- T2: none is taken twice, also in a walk that is left early
  pub each_once : (x : ℕ) (taken : List ℕ) (z : ℕ) → Turns x taken z → Distinct taken
  -- T2: each is above the one that was taken before it, also in a walk that is left early
  pub rising : (x : ℕ) (taken : List ℕ) (z : ℕ) → Turns x taken z → Rising taken
  -- T2: in a walk that is left early an element is taken or is still left
  pub taken_or_left : (x : ℕ) (taken : List ℕ) (z : ℕ) → Turns x taken z → (i : ℕ)
      → (member x i ≡ true) ↔ (Memᴰ i taken ⊎ (member z i ≡ true))
  -- T2: and what is left lies above what is taken
  pub left_above : (x : ℕ) (taken : List ℕ) (z : ℕ) → Turns x taken z → (i : ℕ) → Memᴰ i taken → (j : ℕ) → member z j ≡ true → i < j
  -- T1: every set of 64 bits is walked until nothing is left
  pub walked : (x : ℕ) → x < 2 ^ 64 → Walk x (members x)
  -- T2: the elements, rising, as promises of the places name them, begin with what is taken; in a whole walk they are what is taken
  pub as_members : (x : ℕ) (taken : List ℕ) (z : ℕ) → Turns x taken z → members x ≡ taken ++ members z
  pub only : (x : ℕ) (taken : List ℕ) → Walk x taken → taken ≡ members x
