-- Once the actions that are left have been entered, all have (N3).
use Rattle.std.proofs.Common.{ℕ, List}
use Rattle.dependence.specs.participants.Participants.{ComponentEntered}
use Rattle.dependence.proofs.participants.enter.Given as goal

abbrev pub invariant-loop-a : goal.invariant-loop-a
invariant-loop-a l = (after : List ℕ) → ComponentEntered l.a-iterator.left l.j l.found after → ComponentEntered l.fn.alphabet l.j l.fn.found after
