-- V3: one component more, and all of them.
use Rattle.std.proofs.Common.{◌≡◌, sym, arith, subst, length, List, ℕ}
use Rattle.merging.specs.legible.Reading.{labels_of}
use Rattle.merging.specs.heads.Heads.{FirstBelow, ShowsFirst}
use Rattle.merging.proofs.Slices.{labels_at, labels_length}
use Rattle.merging.proofs.heads.Lining.{first_below, shown_start, shown_next, shown_everywhere}
use Rattle.merging.proofs.heads.show_all.Goals as goal

pub loop-j-init : goal.loop-j-init
loop-j-init c = shown_start c.args.participants.now (labels_of c.args.left.now) c.args.waiting.now c.requires.1

pub show-ready-requires : goal.show-ready-requires
show-ready-requires c =
    let lined = c.requires.0 in
    let few = lined.few in
    let long = labels_length c.args.left.now in (
      omega arith,
      lined.sixteen.size,
      c.loop-j.invariant.size,
      subst FirstBelow (labels_at c.args.left.now c.loop-j.j _ c.loop-j-test.true) (first_below c.args.participants.now (labels_of c.args.left.now) lined c.loop-j.j),
    )

pub loop-j-preserved : goal.loop-j-preserved
loop-j-preserved c =
    let l = c.loop-j in
    let o = c.args.participants.now in
    let cs = labels_of c.args.left.now in
    shown_next o cs c.requires.0 l.j l.waiting l.ready _ _ l.invariant
    (subst (λ (x : List ℕ). ShowsFirst x l.j o l.waiting l.ready c.show-ready.new.waiting c.show-ready.result)
    (sym (labels_at c.args.left.now l.j _ c.loop-j-test.true)) c.show-ready.ensures)

pub returns : goal.returns
returns c =
    let all : c.loop-j.j ≡ length (labels_of c.args.left.now) = let e = labels_length c.args.left.now in omega arith in
    shown_everywhere c.args.participants.now (labels_of c.args.left.now) c.loop-j.j c.loop-j.waiting c.loop-j.ready c.requires.0 all c.loop-j.invariant
