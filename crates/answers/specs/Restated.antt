-- N8: the restated sheet: the bytes before S as they are, the steps of the normal form, and a trailer for these.
-- That no other accepted sheet is related and meets the process condition is a theorem, `restated_only`.
-- Assumes nothing.
use Rattle.std.specs.Prelude.{List, map, ℕ}
use Rattle.sets.specs.Bits.{set_of}
use Rattle.traces.specs.Foata.{foata}
use Rattle.systems.specs.Tables.{Tables}
use Rattle.systems.specs.Independence.{dependent}
use Rattle.systems.specs.Checking.{flat}
use Rattle.sheet.specs.Layout.{front, component_count, action_count, tables, steps}
use Rattle.sheet.specs.Writing.{sheet_of}

-- the steps of the normal form of some steps, each as a set of actions
abbrev pub normal : Tables → List ℕ → List ℕ
normal T xs = map set_of (foata (dependent T) (flat xs))

-- those of the sheet b
unfoldable pub restated_steps : List ℕ → List ℕ
restated_steps b = normal (tables b) (steps b)

-- S2, N9: the sheet b with the steps xs in place of its own: the bytes before S as they are, and a trailer to fit
abbrev pub with_steps : List ℕ → List ℕ → List ℕ
with_steps b xs = sheet_of (front b) (component_count b) (action_count b) xs

-- N8: with those of its normal form
unfoldable pub restated : List ℕ → List ℕ
restated b = with_steps b (restated_steps b)
