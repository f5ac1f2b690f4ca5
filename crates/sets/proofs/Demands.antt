-- T1, T2: the demand on the walk, proved: the record of `specs/Demands.antt`; and what it says at the edges.
-- Assumes nothing.
use mathlib.Core.Path.{◌≡◌, refl, subst}
use mathlib.Core.List.{[], ◌∷◌}
use Prim.Native.Nat.{◌-◌, ◌^◌}
use lib.Dec.{lit<}
use Rattle.sets.specs.Lists.{below}
use Rattle.sets.specs.Bits.{members}
use Rattle.sets.specs.Walk.{Walk}
use Rattle.sets.specs.Demands.{WalkDemand}
use Rattle.sets.proofs.Members.{members_zero}
use Rattle.sets.proofs.Walks.{turns_split, turns_once, turns_rising, turns_above, turns_members, walk_own, walk_every, walk_members}

-- T1, T2: every field
pub walk_demand : WalkDemand
walk_demand =
    record {
      own_exactly = walk_own;
      each_once = turns_once;
      rising = turns_rising;
      taken_or_left = turns_split;
      left_above = turns_above;
      walked = walk_every;
      as_members = turns_members;
      only = walk_members;
    }

-- ---- worked out at the edges (T1)

last_element : members (2 ^ 63) ≡ 63 ∷ []
unfolding members
last_element = refl

all_elements : members (2 ^ 64 - 1) ≡ below 64
unfolding members below
all_elements = refl

-- T1: from what `walked` says: no element, the last one alone, all of them
pub walk_edges : WalkDemand → Walk 0 [] × Walk (2 ^ 63) (63 ∷ []) × Walk (2 ^ 64 - 1) (below 64)
walk_edges D = (
  subst (Walk 0) members_zero (D.walked 0 (lit< tt)),
  subst (Walk (2 ^ 63)) last_element (D.walked (2 ^ 63) (lit< tt)),
  subst (Walk (2 ^ 64 - 1)) all_elements (D.walked (2 ^ 64 - 1) (lit< tt)),
)
