-- Walking over the components of an action, from the lowest up: so its restated step is found, and entered for each of them (N8).
-- Assumes nothing.
use mathlib.Core.Path.{◌≡◌, refl, ap, ◌∙◌}
use mathlib.Core.Bool.{true, false}
use mathlib.Core.List.{List}
use mathlib.Core.Logic.{◌⊎◌, inl, inr}
use Prim.Native.Nat.{ℕ, suc, ◌+◌, ◌^◌, ◌<◌, max}
use native.Mathlib.Numerals.{add-one}
use native.Mathlib.Omega.{arith}
use lib.ListN.{length, get_or, set}
use lib.Seq.{get_or-set_same, get_or-set_other}
use Rattle.sets.specs.Bits.{member, members}
use Rattle.sets.specs.Walk.{Takes}
use Rattle.sets.proofs.Bools.{true_or_false, not_both, false_iff}
use Rattle.sets.proofs.Members.{member_zero, member_lt, members_zero}
use Rattle.sets.proofs.Walks.{taken_first, taken_or_left}
use Rattle.dependence.specs.participants.Levels.{largest}
use Rattle.normal_form.specs.levels.Levels.{LevelsRaised}

-- the component that is taken is one of sixteen
pub first_below : {x first rest : ℕ} → x < 2 ^ 16 → Takes x first rest → first < 16
first_below h t = member_lt 16 _ _ h t.own

-- no component is left
pub raised_none : (left level : ℕ) (last : List ℕ) → left ≡ 0 → LevelsRaised left level last last
raised_none left level last e =
    record { has = λ j h m. absurd (not_both m (ap (λ (x : ℕ). member x j) e ∙ member_zero j)); others = λ j h m. refl }

-- the first component was entered, and then the rest
pub raised_more : {left low rest : ℕ} (level : ℕ) (last after : List ℕ) → low < length last → Takes left low rest
    → LevelsRaised rest level (set last low (level + 1)) after → LevelsRaised left level last after
raised_more {left} {low} {rest} level last after fits t M =
    record {
      has = λ j h m. has j h ((taken_or_left t j).0 m) (true_or_false (member rest j));
      others = λ j h m. others j h (λ s. not_both ((taken_or_left t j).1 s) m);
    }
  where
    has : (j : ℕ) → j < 16 → (j ≡ low) ⊎ (member rest j ≡ true) → (member rest j ≡ true) ⊎ (member rest j ≡ false) → get_or after j 0 ≡ suc level
    has j h s (inl m) = M.has j h m
    has j h (inr m) (inr n) = absurd (not_both m n)
    has j h (inl q) (inr n) =
        M.others j h n
        ∙ ap (λ (k : ℕ). get_or (set last low (level + 1)) k 0) q
        ∙ get_or-set_same last low (level + 1) 0 fits
        ∙ add-one level

    others : (j : ℕ) → j < 16 → ¬ ((j ≡ low) ⊎ (member rest j ≡ true)) → get_or after j 0 ≡ get_or last j 0
    others j h n =
        M.others j h ((false_iff (member rest j)).1 (λ m. n (inr m))) ∙ get_or-set_other last low j (level + 1) 0 (λ q. n (inl q))

-- the largest entry, with the first component taken out
pub largest_more : (last : List ℕ) {left low rest : ℕ} (at next all : ℕ) → Takes left low rest → next ≡ max at (get_or last low 0)
    → max at (largest last (members left)) ≡ all → max next (largest last (members rest)) ≡ all
largest_more last at next all t e h = let q = ap (largest last) (taken_first t) in omega arith

-- nothing is left
pub largest_none : (last : List ℕ) (left at all : ℕ) → left ≡ 0 → max at (largest last (members left)) ≡ all → at ≡ all
largest_none last left at all e h =
    let q : largest last (members left) ≡ 0 = ap (λ (x : ℕ). largest last (members x)) e ∙ ap (largest last) members_zero in omega arith
