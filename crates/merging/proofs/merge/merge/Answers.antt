-- V3: one action more, and its step behind the others; in the end none is ready.
use Rattle.std.proofs.Common.{◌≡◌, refl, sym, ap, ◌∙◌, rules, arith, subst, ◌-◌, ◌*◌, length, take, map, List, ℕ}
use Rattle.std.proofs.Math.Seq.{take_all}
use Rattle.std.specs.Borrow.{Bor}
use borrow.Rule.Slice.PartMut.{mid_of}
use Rattle.sets.specs.Lists.{over}
use Rattle.sheet.specs.Bounds.{step_size}
use Rattle.sheet.specs.Numbers.{bytes}
use Rattle.sheet.specs.Writing.{step_bytes}
use Rattle.writing.proofs.Lending.{lent_over}
use Rattle.columns.specs.Merging.{single}
use Rattle.merging.specs.legible.Reading.{labels_of}
use Rattle.merging.specs.heads.Heads.{labels_left, NoneReady, ReadyTaken}
use Rattle.merging.specs.merge.Merging.{MergedInto}
use Rattle.merging.proofs.Slices.{labels_length}
use Rattle.merging.proofs.merge.Words.{so_far_none, single_step, section_length, so_far_more, so_far_all, none_left}
use Rattle.merging.proofs.merge.merge.Goals as goal

pub loop-k-init : goal.loop-k-init
loop-k-init c = (refl, refl, so_far_none c.args.participants.now (labels_of c.args.left.now) c.args.section.now)

-- what is told of the columns that are left is told of the same columns
same_left : (o : List ℕ) (cs₀ : List (List ℕ)) {a b : List (Bor (List ℕ))} (section : List ℕ) → MergedInto o cs₀ (labels_of a) section → a ≡ b
    → MergedInto o cs₀ (labels_of b) section
same_left o cs₀ section told e = subst (λ (l : List (Bor (List ℕ))). MergedInto o cs₀ (labels_of l) section) e told

pub returns-in_default : goal.returns-in_default
returns-in_default c =
    let l = c.loop-k in
    let o = c.args.participants.now in
    let cs₀ = labels_of c.args.left.now in
    let none = subst (λ (p : List ℕ). NoneReady p (labels_of l.heads.left.now)) l.invariant.0 c.in_default.ensures.taken.0 in
    let all = so_far_all o cs₀ (labels_of l.heads.left.now) c.args.section.now l.section l.k c.requires.1 l.invariant.2 none in
    let still = subst (λ (cs : List (List ℕ)). MergedInto o cs₀ cs (take (8 * l.k) l.section)) (sym c.in_default.ensures.taken.1) all in
    same_left o cs₀ (take (8 * l.k) l.section) still (search rules)

pub loop-k-preserved : goal.loop-k-preserved
loop-k-preserved c =
    let l = c.loop-k in
    let o = c.args.participants.now in
    let m = l.invariant.2 in
    let a = c.in-Some.a in
    let took = c.in-Some.ensures in
    let old = labels_of l.heads.left.now in
    let new = labels_of c.take.new.self.left.now in
    let lent = mid_of (8 * l.k) (length l.section - 8 * l.k) l.section in
    let ready = subst (λ (p : List ℕ). ReadyTaken p a old new) l.invariant.0 took.taken in
    let same = labels_length c.take.new.self.left.now ∙ took.as_many ∙ sym (labels_length l.heads.left.now) in
    let written = lent_over (step_bytes (map single m.word)) (bytes step_size (single a)) c.args.section.now m.written
    (ap (λ (k : ℕ). step_size * k) (sym m.counted) ∙ sym (section_length m.word)) refl
    (c.put.ensures ∙ ap (λ (x : ℕ). over (bytes step_size x) lent) (c.with.ensures ∙ single_step a)) in (
      took.participants_kept ∙ l.invariant.0,
      took.same_columns ∙ l.invariant.1,
      so_far_more o (labels_of c.args.left.now) old c.args.section.now l.section l.k a m new ready same _ written (search rules),
    )

pub returns : goal.returns
returns c =
    let l = c.loop-k in
    let o = c.args.participants.now in
    let cs₀ = labels_of c.args.left.now in
    let m = l.invariant.2 in
    let all : l.k ≡ 1024 = omega arith in
    let long : length l.section ≡ 8 * l.k = let z = c.requires.2 in let s = m.size in omega arith in
    let none : labels_left (labels_of l.heads.left.now) ≡ 0 = let f = m.few in let r = c.requires.1 in omega arith in
    let told = so_far_all o cs₀ (labels_of l.heads.left.now) c.args.section.now l.section l.k c.requires.1 m (none_left o (labels_of l.heads.left.now) none) in
    let whole : take (8 * l.k) l.section ≡ l.section = take_all (8 * l.k) l.section (omega arith) in
    same_left o cs₀ l.section (subst (MergedInto o cs₀ (labels_of l.heads.left.now)) whole told) (search rules)
