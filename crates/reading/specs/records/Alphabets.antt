-- The actions that some of the alphabets of decoded records have.
-- Assumes nothing.
use Rattle.std.specs.Prelude.{◌≡◌, Bool, not, List, ℕ, length}
use Rattle.sets.specs.Lists.{any_of, below}
use Rattle.sets.specs.Bits.{member}
use Rattle.sheet.specs.declared.Component.{Component}
use Rattle.sheet.specs.Sections.{alphabet_at}

-- the set has just what the alphabets of the components have (R6)
pub record UnionOfAlphabets (l : List Component) (all : ℕ) : Type 0 where
  pub exact : (a : ℕ) → member all a ≡ any_of (λ j. member (alphabet_at l j) a) (below (length l))

-- R6, of the alphabets of the components
abbrev pub unused_in : List Component → ℕ → Bool
unused_in l m = any_of (λ a. not (any_of (λ j. member (alphabet_at l j) a) (below (length l)))) (below m)
