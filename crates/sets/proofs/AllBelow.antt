-- S1, G4: the set of all numbers below k, as a number: 2 ^ k - 1.
-- Assumes nothing.
use mathlib.Core.Path.{◌≡◌, ◌∙◌}
use mathlib.Core.Logic.{◌↔◌}
use mathlib.Core.Bool.{true}
use Prim.Native.Nat.{ℕ, ◌-◌, ◌*◌, ◌%◌, ◌^◌, ◌<◌}
use native.Mathlib.Nat.{one-mul}
use native.Mathlib.Omega.{arith}
use lib.Dec.{lit<}
use lib.Pow.{shl_exact}
use Rattle.sets.specs.Lists.{below}
use Rattle.sets.specs.Bits.{member, set_of}
use Rattle.sets.proofs.Bools.{iff_bool}
use Rattle.sets.proofs.Lists.{mem_below}
use Rattle.sets.proofs.Members.{member_ext, set_of_member, full_member}

-- S1: its elements are the numbers below k
pub below_exact : (k i : ℕ) → (member (set_of (below k)) i ≡ true) ↔ (i < k)
below_exact k i = (λ m. (mem_below k i).0 ((set_of_member (below k) i).0 m), λ l. (set_of_member (below k) i).1 ((mem_below k i).1 l))

-- S1: one number less than the next power of 2
pub below_told : (k : ℕ) → 2 ^ k - 1 ≡ set_of (below k)
below_told k =
    member_ext (2 ^ k - 1) (set_of (below k)) (λ i. iff_bool (member (2 ^ k - 1) i) (member (set_of (below k)) i) (
      λ m. (below_exact k i).1 ((full_member k i).0 m),
      λ m. (full_member k i).1 ((below_exact k i).0 m),
    ))

-- S1: 1 shifted by less than 64 places loses no bit
pub shifted : (k : ℕ) → k < 64 → 1 * 2 ^ k % 2 ^ 64 ≡ 2 ^ k
shifted k l = shl_exact 1 k 64 (lit< tt) (omega arith) ∙ one-mul (2 ^ k)
