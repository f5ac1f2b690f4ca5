-- S5: the steps of a step section, one after another.
-- Assumes nothing.
use Rattle.std.specs.Prelude.{List, ℕ}
use Rattle.sheet.specs.Sections.{steps_in}
use Rattle.numbers.specs.declared.Steps.{Steps}

-- the steps that are still to come, the first in front
abbrev pub steps_left : Steps → List ℕ
steps_left s = steps_in s.section.now
