-- V3: one component more, and all of them.
use Rattle.std.proofs.Common.{◌≡◌, sym, ap, ◌∙◌, rules, arith, subst, ◌-◌, ◌<◌, ◌≤◌, length, take, drop, get_or, set, List, [], ℕ}
use Rattle.merging.specs.legible.Reading.{labels_of, rest_in}
use Rattle.merging.specs.heads.Heads.{FirstBelow, ShowsFirst}
use Rattle.merging.proofs.Slices.{labels_length, labels_at, labels_set, behind_first}
use Rattle.merging.proofs.heads.Taking.{TakenBut, taken_none, taken_inside, taken_some, taken_first, taken_more, taken_all}
use Rattle.merging.proofs.heads.take_action.Goals as goal
use Rattle.merging.proofs.heads.take_action.Goals.{In-Some}

pub loop-j-init : goal.loop-j-init
loop-j-init c =
    let a = c.args in
    let r = c.requires in
    let none = taken_none a.participants.now a.a (labels_of a.left.now) a.waiting.now a.others r.0 r.1 r.2 r.3 in
    let whole : get_or a.participants.now a.a 0 ≡ c.into_iter-j-iterator.result.left = search rules in
    subst (TakenBut a.participants.now a.a (labels_of a.left.now) (labels_of a.left.now) (set a.waiting.now a.a 0) a.others) whole none

-- the component whose turn it is: its column is there, with a label left
module _ (c : In-Some) where
  inside : c.in-Some.j < length c.loop-j.left
  inside = let i = taken_inside _ _ _ _ _ _ _ _ _ c.loop-j.invariant c.in-Some.ensures.steps in let l = labels_length c.loop-j.left in omega arith

  abbrev column : List ℕ
  column = (get_or c.loop-j.left c.in-Some.j record { ref_ptr = (0, 0); now = [] }).now

  here : rest_in (labels_of c.loop-j.left) c.in-Some.j ≡ column
  here = labels_at c.loop-j.left c.in-Some.j _ inside

  some_label : 1 ≤ length column
  some_label = let s = taken_some _ _ _ _ _ _ _ _ _ c.loop-j.invariant c.in-Some.ensures.steps in let l = ap length here in omega arith

  -- what is left of it then
  next_labels : drop 1 (rest_in (labels_of c.loop-j.left) c.in-Some.j) ≡ take (length column - 1) (drop 1 column)
  next_labels = ap (drop 1) here ∙ sym (behind_first column)

pub slice_copy_out-labels : goal.slice_copy_out-labels
slice_copy_out-labels c = inside c

pub slice_bounds-labels-count : goal.slice_bounds-labels-count
slice_bounds-labels-count c = some_label (goal.at.slice_bounds-labels-count c).In-Some

pub slice_bounds-labels-start : goal.slice_bounds-labels-start
slice_bounds-labels-start c = some_label (goal.at.slice_bounds-labels-start c).In-Some

pub bounds-left-j : goal.bounds-left-j
bounds-left-j c = inside (goal.at.bounds-left-j c).In-Some

pub show-ready-requires : goal.show-ready-requires
show-ready-requires c =
    let t = c.loop-j.invariant in
    let few = t.lined.few in
    let long = labels_length c.loop-j.left in
    let i = inside (goal.at.show-ready-requires c).In-Some in (
      omega arith,
      t.lined.sixteen.size,
      t.shown.size,
      subst FirstBelow (next_labels (goal.at.show-ready-requires c).In-Some) (taken_first _ _ _ _ _ _ _ _ _ t c.in-Some.ensures.steps),
    )

pub loop-j-preserved : goal.loop-j-preserved
loop-j-preserved c =
    let turn = (goal.at.loop-j-preserved c).In-Some in
    let l = c.loop-j in
    let j = c.in-Some.j in
    let o = c.args.participants.now in
    let cs = labels_of l.left in
    let shows = subst (λ (x : List ℕ). ShowsFirst x j o l.waiting l.ready c.show-ready.new.waiting c.show-ready.result) (sym (next_labels turn)) c.show-ready.ensures in
    let more = taken_more _ _ _ _ _ _ _ _ _ l.invariant c.in-Some.ensures.steps c.show-ready.new.waiting c.show-ready.result shows in
    let stored : set cs j (drop 1 (rest_in cs j)) ≡ labels_of (set l.left j _) = ap (set cs j) (next_labels turn) ∙ sym (labels_set l.left j _) in
    subst (λ (x : List (List ℕ)). TakenBut o c.args.a (labels_of c.args.left.now) x c.show-ready.new.waiting c.show-ready.result c.next.new.self.left) stored more

pub returns : goal.returns
returns c = taken_all _ _ _ _ _ _ _ c.in-None.ensures.steps.0 c.loop-j.invariant
