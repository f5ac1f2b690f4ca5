-- An accepted sheet with what judging told of it: its sizes, its components and their end sets; and steps that may stand in place of its own (N1, S6).
-- Assumes nothing.
use Rattle.std.specs.Prelude.{◌≡◌, List, ℕ, ◌*◌, ◌<◌, ◌≤◌, length, get_or}
use Rattle.std.proofs.Math.Option.{none}
use Rattle.systems.specs.Running.{start}
use Rattle.systems.specs.Checking.{first_fault, flat}
use Rattle.sheet.specs.declared.Component.{Component}
use Rattle.sheet.specs.Bounds.{step_size, most_steps, most_in_steps}
use Rattle.sheet.specs.Layout.{component_count, tables}
use Rattle.sheet.specs.Sections.{steps_in, Decoded}
use Rattle.sheet.specs.Verdict.{Accepted}
use Rattle.answers.specs.declared.Sizes.{Sizes}
use Rattle.answers.specs.SizesRead.{SizesRead}
use Rattle.answers.specs.Ends.{end_set}

-- N1: the sheet b is accepted, and z has its sizes (S6)
pub record AcceptedSheet (b : List ℕ) (z : Sizes) : Type 0 where
  pub sheet_accepted : Accepted b
  pub sizes_read : SizesRead b z

-- E5: the end sets of the sheet b, one for each of its components
pub record EndsOf (b ends : List ℕ) : Type 0 where
  pub count : length ends ≡ component_count b
  pub each : (j : ℕ) → j < component_count b → get_or ends j 0 ≡ end_set b j

-- N1: the sheet b is accepted, z has its sizes (S6), the components are its own, decoded (S3), and the sets are their end sets (E5)
pub record JudgedSheet (b : List ℕ) (z : Sizes) (components : List Component) (ends : List ℕ) : Type 0 where
  pub sheet : AcceptedSheet b z
  pub decoded : Decoded (tables b) components
  pub ends_told : EndsOf b ends

-- N1: a value that holds the sheet `own` is over the sheet b
abbrev pub OverSheet : List ℕ → List ℕ → Type 0
OverSheet b own = own ≡ b

-- the steps of a section can be executed over the tables of the sheet b (R10 to R12), have few enough actions together (L6), and are not more
-- than a sheet may have (L5)
pub record SectionRuns (b section : List ℕ) : Type 0 where
  pub fine : first_fault (tables b) (start (tables b)) 0 (steps_in section) ≡ none
  pub few : length (flat (steps_in section)) ≤ most_in_steps
  pub short : length section ≤ step_size * most_steps
