-- `transitions::falls`, which serves R8: some string is not above the one before it exactly when that was seen, or is so from the last string
-- on that was compared.
-- Assumes nothing.
use Rattle.std.proofs.Common.{◌≡◌, ◌-◌, ◌≤◌, drop}
use Rattle.std.specs.Prelude.{not, ◌||◌}
use Rattle.sheet.specs.Refusals.{rising_bytes}
use Rattle.reading.proofs.transitions.falls.Given as goal

abbrev pub invariant-loop-k : goal.invariant-loop-k
invariant-loop-k l = (1 ≤ l.k) × (not (rising_bytes l.strings) ≡ (l.falls || not (rising_bytes (drop (l.k - 1) l.strings))))
