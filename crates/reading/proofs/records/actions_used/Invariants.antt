-- `records::actions_used`, which serves R6: the actions of the components so far.
-- Assumes nothing.
use Rattle.std.proofs.Common.{◌≡◌, ℕ}
use Rattle.sets.specs.Lists.{any_of, below}
use Rattle.sets.specs.Bits.{member}
use Rattle.sheet.specs.Sections.{alphabet_at}
use Rattle.reading.proofs.records.actions_used.Given as goal

abbrev pub invariant-loop-component : goal.invariant-loop-component
invariant-loop-component l = (a : ℕ) → member l.all a ≡ any_of (λ j. member (alphabet_at l.components j) a) (below l.component-index)
