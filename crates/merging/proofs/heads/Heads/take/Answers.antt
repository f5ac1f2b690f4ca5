-- V3: where nothing is ready no action heads all of its columns; else the lowest ready action is taken.
use Rattle.std.proofs.Common.{refl, subst, ℕ}
use Rattle.sets.specs.Bits.{member}
use Rattle.sets.proofs.Bools.{false_iff}
use Rattle.sets.proofs.Walks.{taken_with_left}
use Rattle.merging.specs.legible.Reading.{labels_of, rest_in}
use Rattle.merging.specs.heads.Heads.{Shown, Everywhere}
use Rattle.merging.proofs.heads.Lining.{none_ready}
use Rattle.merging.proofs.heads.Heads.take.Goals as goal

pub returns-then-self-eq0-clause-taken : goal.returns-then-self-eq0-clause-taken
returns-then-self-eq0-clause-taken c =
    let s = c.args.self.now in
    (none_ready s.participants.now (labels_of s.left.now) s.waiting.now s.ready s.lined s.shown c.if-self-eq0.true, refl)

pub take_action-self-requires : goal.take_action-self-requires
take_action-self-requires c =
    let s = c.args.self.now in
    let took = c.take_lowest-a in (
      s.lined,
      took.ensures.below,
      (false_iff (member took.new.left took.result)).1 (λ m. ((took.ensures.rest took.result).0 m).1 refl),
      subst (λ (x : ℕ). Shown s.participants.now (rest_in (labels_of s.left.now)) Everywhere s.waiting.now x) (taken_with_left took.ensures) s.shown,
    )
