-- V3: the components before the index have shown their first labels.
use Rattle.std.proofs.Common.{◌<◌}
use Rattle.merging.specs.legible.Reading.{labels_of, rest_in}
use Rattle.merging.specs.heads.Heads.{Shown}
use Rattle.merging.proofs.heads.show_all.Given as goal

abbrev pub invariant-loop-j : goal.invariant-loop-j
invariant-loop-j l = Shown l.participants (rest_in (labels_of l.left)) (λ i. i < l.j) l.waiting l.ready
