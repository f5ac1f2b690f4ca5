-- For each component one past the last step that has an action of it, in a list: raised for the participants of an action, and with room left.
-- The functions over it carry out N8.
-- Assumes nothing.
use Rattle.std.specs.Prelude.{◌≡◌, true, false, List, ℕ, suc, ◌+◌, ◌-◌, ◌^◌, ◌≤◌, ◌<◌, get_or}
use Rattle.sets.specs.Bits.{member, members}
use Rattle.sheet.specs.Bounds.{most_components}
use Rattle.dependence.specs.participants.Levels.{largest}

-- the entries of `last` after an action at a level: one past it for the components of a set, the others as they were
pub record LevelsRaised (mine level : ℕ) (before after : List ℕ) : Type 0 where
  pub has : (j : ℕ) → j < most_components → member mine j ≡ true → get_or after j 0 ≡ suc level
  pub others : (j : ℕ) → j < most_components → member mine j ≡ false → get_or after j 0 ≡ get_or before j 0

-- an action with these participants was given its level
pub record LevelTaken (mine : ℕ) (before after : List ℕ) (level : ℕ) : Type 0 where
  pub found : level ≡ largest before (members mine)
  pub raised : LevelsRaised mine level before after

-- so many steps at the most have room for k more actions, wherever they are placed
abbrev pub Room : ℕ → List ℕ → ℕ → Type 0
Room most last k = (j : ℕ) → j < most_components → get_or last j 0 + k ≤ most

-- the largest number of 64 bits: a level below it can be raised
abbrev pub most_of_word : ℕ
most_of_word = 2 ^ 64 - 1
