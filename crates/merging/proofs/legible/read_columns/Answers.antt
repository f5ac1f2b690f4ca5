-- R18, V2: one column more; where there is none, and where the last test fails, no columns fill the bytes; else the columns read do.
use Rattle.std.proofs.Common.{◌≡◌, ◌≢◌, refl, sym, rules, arith, subst, inl, inr, ◌⊎◌, ◌+◌, ◌*◌, ◌<◌, length, List, ℕ}
use Rattle.sheet.specs.Bounds.{most_in_steps}
use Rattle.merging.specs.legible.Reading.{labels_of}
use Rattle.merging.proofs.Slices.{labels_set}
use Rattle.merging.proofs.legible.Reading.{ReadUpTo, read_more, read_out, read_all, read_past}
use Rattle.merging.proofs.legible.read_columns.Goals as goal
use Rattle.merging.proofs.legible.read_columns.Goals.{then-not-is_empty-via-then-not-is_empty, then-not-is_empty-via-else-not-is_empty+then-components-columns}

pub returns-in_default : goal.returns-in_default
returns-in_default c =
    let l = c.loop-j in
    let none = c.in_default.ensures in
    rw c.refuse.ensures (
      refl,
      read_out c.args.columns.now c.args.components.now (labels_of l.left) l.behind.now l.j l.invariant c.loop-j-test.true none,
    )

pub loop-j-preserved : goal.loop-j-preserved
loop-j-preserved c =
    let l = c.loop-j in
    let a = c.args in
    subst (λ (cs : List (List ℕ)). ReadUpTo a.columns.now a.components.now cs c.in-Some.others.now (l.j + 1)) (sym (labels_set l.left l.j c.in-Some.labels))
    (read_more a.columns.now a.components.now (labels_of l.left) l.behind.now l.j l.invariant c.loop-j-test.true c.in-Some.labels.now c.in-Some.others.now
    c.in-Some.ensures)

pub returns-then-not-is_empty : goal.returns-then-not-is_empty
returns-then-not-is_empty c =
    let l = c.loop-j in
    let a = c.args in
    let all : l.j ≡ length a.components.now = omega arith in
    let past : (length l.behind.now ≢ 0) ⊎ (2 * length a.components.now + most_in_steps < length a.columns.now) =
    elim c.then-not-is_empty.branch [
      | then-not-is_empty-via-then-not-is_empty w ↦ inl (let e = c.is_empty.ensures in search rules)
      | then-not-is_empty-via-else-not-is_empty+then-components-columns w ↦ inr w.if-components-columns.true
    ] in
    rw c.refuse-then-not-is_empty.ensures (
      refl,
      read_past a.columns.now a.components.now (labels_of l.left) l.behind.now l.j l.invariant all past,
    )

pub returns : goal.returns
returns c =
    let l = c.loop-j in
    let a = c.args in
    let all : l.j ≡ length a.components.now = omega arith in
    let none : length l.behind.now ≡ 0 = let e = c.is_empty.ensures in search rules in
    (refl, read_all a.columns.now a.components.now (labels_of l.left) l.behind.now l.j l.invariant all none (omega arith))
