-- R18, V2: the count, as many labels of the alphabet, and what is behind them.
use Rattle.std.proofs.Common.{◌≡◌, sym, ap, ap₂, ◌∙◌, rules, arith, subst, ◌≤◌, length, take, drop, List, ℕ}
use Rattle.sets.proofs.Bools.{not_both}
use Rattle.sheet.specs.Numbers.{AreBytes, field}
use Rattle.sheet.proofs.Numbers.{field_within}
use Rattle.merging.specs.legible.Reading.{LabelsOwn}
use Rattle.merging.proofs.legible.Counts.{column_split, begins_inside, begins_labels}
use Rattle.merging.proofs.legible.first_column.Goals as goal

-- the count is read from the first two bytes
count_told : (b front : List ℕ) (count : ℕ) → front ≡ take 2 b → count ≡ field 0 2 front → count ≡ field 0 2 b
count_told b front count e f = f ∙ ap (field 0 2) e ∙ field_within 0 2 2 b (omega arith)

pub returns-in_err-labels : goal.returns-in_err-labels
returns-in_err-labels c =
    let b = c.args.bytes.now in
    let split = c.in_ok-front.ensures.cases in
    let count = count_told b c.in_ok-front.front.now c.number-count.result split.1 c.number-count.ensures.0 in
    let short = c.in_err-labels.ensures.cases in
    rw c.from_residual-in_err-labels.ensures (λ labels behind B. let i = begins_inside B in omega arith)

pub returns-then-not-labels_own : goal.returns-then-not-labels_own
returns-then-not-labels_own c =
    let b = c.args.bytes.now in
    let split = c.in_ok-front.ensures.cases in
    let count = count_told b c.in_ok-front.front.now c.number-count.result split.1 c.number-count.ensures.0 in
    let labels : c.in_ok-labels.labels.now ≡ take (field 0 2 b) (drop 2 b) =
    c.in_ok-labels.ensures.cases.1 ∙ ap₂ (λ (n : ℕ) (l : List ℕ). take n l) count split.2 in
    λ own behind B.
    not_both (c.labels_own.ensures.1 (subst (LabelsOwn c.args.alphabet) (begins_labels B ∙ sym labels) B.own)) c.if-not-labels_own.true

pub returns : goal.returns
returns c =
    let b = c.args.bytes.now in
    let split = c.in_ok-front.ensures.cases in
    let count = count_told b c.in_ok-front.front.now c.number-count.result split.1 c.number-count.ensures.0 in
    let rest = c.in_ok-labels.ensures.cases in
    let bytes : AreBytes b = λ i. let fits = c.type_inv.bytes i in search rules in
    let labels : c.in_ok-labels.labels.now ≡ take (field 0 2 b) (drop 2 b) = rest.1 ∙ ap₂ (λ (n : ℕ) (l : List ℕ). take n l) count split.2 in
    let others : c.in_ok-labels.others.now ≡ drop (field 0 2 b) (drop 2 b) = rest.2 ∙ ap₂ (λ (n : ℕ) (l : List ℕ). drop n l) count split.2 in
    let inside : field 0 2 b ≤ length (drop 2 b) = let l = ap length split.2 in let h = rest.0 in omega arith in
    record {
      split = column_split 2 b c.in_ok-labels.labels.now c.in_ok-labels.others.now bytes split.0 inside labels others;
      few = let h = c.number-count.ensures.1 in let l = rest.3 in omega arith;
      own = c.labels_own.ensures.0 c.if-not-labels_own.false;
    }
