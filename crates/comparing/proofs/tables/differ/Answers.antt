-- `tables::differ` meets its contract (R14): one number that differs tells the tables apart, else the bytes before S do.
-- Assumes nothing.
use mathlib.Core.Path.{◌≡◌, ◌∙◌}
use mathlib.Core.Bool.{not}
use mathlib.Core.List.{List}
use Prim.Native.Nat.{ℕ}
use lib.Dec.{eqb}
use lib.Pointwise.{pointwise}
use Rattle.sheet.specs.Layout.{front}
use Rattle.answers.specs.TwoSheets.{tables_differ}
use Rattle.comparing.proofs.Sameness.{pointwise_decides}
use Rattle.comparing.proofs.tables.Refusal14.{differ_n, differ_m, differ_s, differ_front}
use Rattle.comparing.proofs.tables.differ.Goals as goal

pub returns-then-one-two : goal.returns-then-one-two
returns-then-one-two c = differ_n _ _ _ _ c.args.one.now.judged.sheet c.args.two.now.judged.sheet c.if-one-two.true

pub returns-then-one-two-2 : goal.returns-then-one-two-2
returns-then-one-two-2 c = differ_m _ _ _ _ c.args.one.now.judged.sheet c.args.two.now.judged.sheet c.if-one-two-2.true

pub returns-then-one-two-3 : goal.returns-then-one-two-3
returns-then-one-two-3 c = differ_s _ _ _ _ c.args.one.now.judged.sheet c.args.two.now.judged.sheet c.if-one-two-3.true

pub returns : goal.returns
returns c =
    let same : (x y : List ℕ) → x ≡ front c.args.one.now.sheet.now → y ≡ front c.args.two.now.sheet.now
    → not (pointwise eqb x y) ≡ tables_differ c.args.one.now.sheet.now c.args.two.now.sheet.now =
    λ x y e f. rw (e, f)
    (differ_front _ _ _ _ c.args.one.now.judged.sheet c.args.two.now.judged.sheet c.if-one-two.false c.if-one-two-2.false c.if-one-two-3.false
    _ (pointwise_decides _ _)) in
    c.ne.ensures ∙ same _ _ c.front.ensures c.front-2.ensures
