-- The columns merged as far as it goes, into a step section (V3).
-- Assumes nothing.
use Rattle.std.specs.Prelude.{◌≡◌, List, map, ℕ, ◌≤◌, length}
use Rattle.systems.specs.Tables.{Tables, InOrder}
use Rattle.sheet.specs.Bounds.{most_steps}
use Rattle.sheet.specs.Writing.{step_bytes}
use Rattle.columns.specs.Merging.{single, Merged}
use Rattle.dependence.specs.participants.Participants.{Participants}
use Rattle.merging.specs.legible.Reading.{rest_in}
use Rattle.merging.specs.heads.Heads.{NoneReady}

-- a word was taken from the columns, by tables with these participants; it stands in the section, each action a step of its own; and of
-- what is left no action heads the columns of all of its components
pub record MergedInto (o : List ℕ) (cs cs' : List (List ℕ)) (section : List ℕ) : Type 0 where
  pub word : List ℕ
  pub few : length word ≤ most_steps
  pub written : section ≡ step_bytes (map single word)
  pub size : length cs' ≡ length cs
  pub merged : (T : Tables) → InOrder T → Participants T o → Merged T (rest_in cs) word (rest_in cs')
  pub none_ready : NoneReady o cs'
