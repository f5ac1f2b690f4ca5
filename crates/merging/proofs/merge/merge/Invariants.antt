-- V3: the word that was taken so far stands in the section; the participants and the columns that are lent stay.
use Rattle.std.proofs.Common.{◌≡◌}
use Rattle.merging.specs.legible.Reading.{labels_of}
use Rattle.merging.proofs.merge.Words.{MergedSoFar}
use Rattle.merging.proofs.merge.merge.Given as goal

abbrev pub invariant-loop-k : goal.invariant-loop-k
invariant-loop-k l =
    (l.heads.participants.now ≡ l.fn.participants)
    × (l.heads.left.ghost_name ≡ l.initial.heads.left.ghost_name)
    × MergedSoFar l.fn.participants (labels_of l.fn.left) (labels_of l.heads.left.now) l.fn.section l.section l.k
