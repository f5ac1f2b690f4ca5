-- V3: the action is taken from the columns of its components but of those that are left.
use Rattle.merging.specs.legible.Reading.{labels_of}
use Rattle.merging.proofs.heads.Taking.{TakenBut}
use Rattle.merging.proofs.heads.take_action.Given as goal

abbrev pub invariant-loop-j : goal.invariant-loop-j
invariant-loop-j l =
    TakenBut l.participants l.a (labels_of l.fn.left) (labels_of l.left) l.waiting l.ready l.j-iterator.left
