-- N8: the steps of a word's normal form in an array.
-- Assumes nothing.
use Rattle.std.specs.Prelude.{◌≡◌, Bool, List, ◌++◌, map, ℕ, ◌-◌, ◌≤◌, length, replicate}
use Rattle.sets.specs.Bits.{set_of}
use Rattle.traces.specs.Foata.{foata}

-- the array holds the steps ss as sets, `count` of them, and behind them zeros
pub record HoldsSteps (packed : List ℕ) (count : ℕ) (ss : List (List ℕ)) : Type 0 where
  pub counted : count ≡ length ss
  pub few : count ≤ length packed
  pub packed_sets : packed ≡ map set_of ss ++ replicate (length packed - count) 0

-- it holds the steps of the word's normal form under a dependence
abbrev pub HoldsFoata : (ℕ → ℕ → Bool) → List ℕ → List ℕ → ℕ → Type 0
HoldsFoata dep w packed count = HoldsSteps packed count (foata dep w)
