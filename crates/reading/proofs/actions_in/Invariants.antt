-- `reading::actions_in`, which serves R9 and A4: what is counted, at most 64 a step, and the actions from step k on are all actions.
-- Assumes nothing.
use Rattle.std.proofs.Common.{◌≡◌, ◌+◌, ◌*◌, ◌≤◌, length, drop}
use Rattle.systems.specs.Checking.{flat}
use Rattle.sheet.specs.Sections.{steps_in}
use Rattle.reading.proofs.actions_in.Given as goal

abbrev pub invariant-loop-k : goal.invariant-loop-k
invariant-loop-k l = (l.sum ≤ 64 * l.k) × (l.sum + length (flat (drop l.k (steps_in l.section))) ≡ length (flat (steps_in l.section)))
