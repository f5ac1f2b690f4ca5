-- N8: an action given its level: the room that is left, and for each component one past its last step once the action stands there.
-- Assumes nothing.
use mathlib.Core.Path.{◌≡◌, refl, sym, ap, ◌∙◌}
use mathlib.Core.Bool.{true, false}
use mathlib.Core.List.{List, [], ◌∷◌, Memᴰ}
use mathlib.Core.Logic.{◌⊎◌, inl, inr}
use Prim.Native.Nat.{ℕ, ◌+◌, ◌^◌, ◌≤◌, ◌<◌}
use native.Mathlib.Omega.{arith}
use lib.ListN.{get_or}
use Rattle.sets.specs.Bits.{members}
use Rattle.sets.proofs.Bools.{true_or_false}
use Rattle.sets.proofs.Members.{member_lt, members_mem}
use Rattle.traces.specs.Foata.{put_at, reach}
use Rattle.traces.proofs.Reach.{reach_miss, reach_hit}
use Rattle.sheet.specs.Bounds.{most_components}
use Rattle.dependence.specs.participants.Participants.{participates, OfSixteen}
use Rattle.dependence.specs.participants.Levels.{largest}
use Rattle.normal_form.specs.levels.Levels.{LevelTaken, Room}
use Rattle.normal_form.specs.Words.{LastSteps}

-- the entry of each component of the list is at most the largest
largest_covers : (last js : List ℕ) (j : ℕ) → Memᴰ j js → get_or last j 0 ≤ largest last js
largest_covers last [] j x' = elim x' [ ]
largest_covers last (i ∷ js) j (Memᴰ.head e) = let q = ap (λ (x : ℕ). get_or last x 0) e in omega arith
largest_covers last (i ∷ js) j (Memᴰ.tail t) = let rest = largest_covers last js j t in omega arith

-- the largest entry leaves the room that each of them leaves
largest_room : (most : ℕ) (last js : List ℕ) (k : ℕ) → k ≤ most → ((j : ℕ) → Memᴰ j js → get_or last j 0 + k ≤ most)
    → largest last js + k ≤ most
largest_room most last [] k h each = omega arith
largest_room most last (j ∷ js) k h each =
    let here = each j (Memᴰ.head refl) in
    let rest = largest_room most last js k h (λ i m. each i (Memᴰ.tail m)) in
    omega arith

-- so does the level of an action with these participants
pub level_room : {mine : ℕ} → mine < 2 ^ most_components → (last : List ℕ) (most k : ℕ) → Room most last k → largest last (members mine) + k ≤ most
level_room {mine} small last most k room =
    let few = room 0 (omega arith) in
    largest_room most last (members mine) k (omega arith)
    (λ j m. room j (member_lt most_components mine j small ((members_mem mine j).0 m).1))

module _ (o : List ℕ) (fit : OfSixteen o) (a : ℕ) (last : List ℕ) where
  module _ (last' : List ℕ) (level : ℕ) (taken : LevelTaken (get_or o a 0) last last' level) where
    -- where there is room for one action, the level is one of the steps that there may be
    pub level_below : (most : ℕ) → Room most last 1 → level < most
    level_below most room = let f = taken.found in let r = level_room (fit.small a) last most 1 room in omega arith

    -- one step's room was taken at most
    pub room_left : (most k : ℕ) → Room most last (1 + k) → Room most last' k
    room_left most k room j h = go (true_or_false (participates o j a))
      where
        go : (participates o j a ≡ true) ⊎ (participates o j a ≡ false) → get_or last' j 0 + k ≤ most
        go (inl m) =
            let e = taken.raised.has j h m in
            let f = taken.found in
            let r = level_room (fit.small a) last most (1 + k) room in
            omega arith
        go (inr m) = let e = taken.raised.others j h m in let r = room j h in omega arith

    module _ (ss : List (List ℕ)) (told : LastSteps o last ss) where
      -- no participant of the action was reached beyond its level
      behind : (j : ℕ) → j < most_components → participates o j a ≡ true → reach (participates o j) ss ≤ level
      behind j h m =
          let e = told j h in
          let f = taken.found in
          omega (arith, largest_covers last (members (get_or o a 0)) j ((members_mem (get_or o a 0) j).1 (omega arith, m)))

      -- the action was put into the step of its level: the entries tell of the steps then
      pub lasts : LastSteps o last' (put_at a level ss)
      lasts j h = go (true_or_false (participates o j a))
        where
          go : (participates o j a ≡ true) ⊎ (participates o j a ≡ false) → get_or last' j 0 ≡ reach (participates o j) (put_at a level ss)
          go (inl m) = let far = behind j h m in taken.raised.has j h m ∙ omega (arith, reach_hit (participates o j) a level ss m)
          go (inr m) = taken.raised.others j h m ∙ told j h ∙ sym (reach_miss (participates o j) a level ss m)
