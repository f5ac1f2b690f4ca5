-- S5: the steps before the index stand over what was there.
use Rattle.std.proofs.Common.{◌≡◌, take}
use Rattle.sets.specs.Lists.{over}
use Rattle.sheet.specs.Writing.{step_bytes}
use Rattle.writing.proofs.write_steps.Given as goal

abbrev pub invariant-loop-k : goal.invariant-loop-k
invariant-loop-k l = l.out ≡ over (step_bytes (take l.k l.steps)) l.fn.out
