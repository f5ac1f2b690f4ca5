-- When two sheets are related (N4, N5; document 01, the restated sheet).
-- Assumes nothing.
use Rattle.std.specs.Prelude.{◌≡◌, List, ℕ}
use Rattle.traces.specs.Words.{Related}
use Rattle.systems.specs.Independence.{dependent}
use Rattle.systems.specs.Checking.{flat}
use Rattle.sheet.specs.Layout.{steps_at, component_count, action_count, front, tables, steps}
use Rattle.sheet.specs.Verdict.{Accepted}

-- N4: over the same components and transitions: the same bytes before S, and the same S, n and m
pub record SameTables (b c : List ℕ) : Type 0 where
  pub same_front : front b ≡ front c
  pub same_steps_at : steps_at b ≡ steps_at c
  pub same_components : component_count b ≡ component_count c
  pub same_actions : action_count b ≡ action_count c

-- N5: both accepted, over the same tables, and swaps of independent neighbours lead from one flat list to the other
pub record RelatedSheets (b c : List ℕ) : Type 0 where
  pub first_accepted : Accepted b
  pub second_accepted : Accepted c
  pub same_tables : SameTables b c
  pub swaps : Related (dependent (tables b)) (flat (steps b)) (flat (steps c))
