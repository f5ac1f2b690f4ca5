-- T2: a walk as an iterator: it has a set of elements left, and each turn takes the lowest of them.
-- Assumes nothing.
use Rattle.std.specs.Prelude.{◌≡◌, List, ℕ, Option, MatchOption}
use Rattle.sets.specs.Bits.{members}
use Rattle.sets.specs.Walk.{Takes}
use Rattle.sets.specs.declared.Elements.{Elements}

-- the elements that are still to come, the lowest first
abbrev pub left_in : Elements → List ℕ
left_in s = members s.left

-- one turn: the lowest element is taken, and the others are left; there is none where nothing is left
abbrev pub NextTaken : Elements → Option ℕ → Elements → Type 0
NextTaken s r t = MatchOption r ((s.left ≡ 0) × (t.left ≡ 0)) (λ i. Takes s.left i t.left)
