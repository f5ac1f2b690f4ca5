-- N7: the process check of an accepted sheet: yes, or the first step that offends against the process condition.
-- Assumes nothing.
use Rattle.std.specs.Prelude.{List, map, ℕ}
use Rattle.std.proofs.Math.Option.{Option}
use Rattle.sets.specs.Bits.{members}
use Rattle.systems.specs.Independence.{dependent}
use Rattle.sheet.specs.Layout.{tables, steps}
use Rattle.sheet.specs.Verdict.{verdict}
use Rattle.traces.specs.Offences.{first_offence}
use Rattle.answers.specs.Outcomes.{Outcome, given, after}

-- the first step that offends; none is yes
unfoldable pub process_check : List ℕ → Outcome (Option ℕ)
process_check b = after (verdict b) (given (first_offence (dependent (tables b)) (map members (steps b))))
