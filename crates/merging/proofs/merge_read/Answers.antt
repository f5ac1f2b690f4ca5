-- R19, V3, O9: 19 where labels are left over, else what the merged word answers.
use Rattle.std.proofs.Common.{refl, sym, ap, subst, List, ℕ}
use Rattle.sheet.specs.Layout.{tables}
use Rattle.dependence.specs.participants.Participants.{Participants}
use Rattle.answers.specs.Outcomes.{outcome_of}
use Rattle.columns.specs.Calls.{ColumnsAnswer}
use Rattle.columns.specs.ColumnRefusals.{ColumnsIn}
use Rattle.merging.specs.legible.Reading.{labels_of}
use Rattle.merging.specs.Words.{WordGiven, WordAnswer}
use Rattle.merging.proofs.LinedColumns.{Found, found_by, columns_found, few_left, lined}
use Rattle.merging.proofs.MergedColumns.{left_not, word_given, word_answered}
use Rattle.merging.proofs.merge_read.Goals as goal
use Rattle.merging.proofs.merge_read.Goals.{After-of-restatable}

-- what is known of the columns, whatever bytes hold them
known : (c : After-of-restatable) (d : List ℕ) → ColumnsIn c.args.accepted.now.sheet.now d (labels_of c.args.left.now)
    → Found c.args.accepted.now.sheet.now c.args.accepted.now.sizes c.args.accepted.now.components.now c.of-restatable.result.participants.now
    d (labels_of c.args.left.now)
known c d held =
    let a = c.args.accepted.now in
    found_by a.judged.sheet a.judged.decoded
    (subst (λ (b : List ℕ). Participants (tables b) c.of-restatable.result.participants.now) c.of-restatable.ensures c.of-restatable.result.entered)
    held

pub merge-steps-requires : goal.merge-steps-requires
merge-steps-requires c =
    let f = known (goal.at.merge-steps-requires c).After-of-restatable c.requires.0 c.requires.1 in (lined f, few_left f, refl)

pub returns-then-some_left : goal.returns-then-some_left
returns-then-some_left c d held =
    let f = known (goal.at.returns-then-some_left c).After-of-restatable d held in
    ColumnsAnswer.not_executable f.sheet.sheet_accepted _ (columns_found f)
    (left_not f c.merge-steps.ensures c.some_left.ensures c.if-some_left.true) (ap outcome_of c.refuse.ensures) refl

pub restate_word-requires : goal.restate_word-requires
restate_word-requires c =
    let f = known (goal.at.restate_word-requires c).After-of-restatable c.requires.0 c.requires.1 in
    subst (λ (b : List ℕ). WordGiven b c.merge-steps.result.now) (sym c.of-restatable.ensures) (word_given f c.merge-steps.ensures)

pub returns : goal.returns
returns c d held =
    let f = known (goal.at.returns c).After-of-restatable d held in
    word_answered f c.merge-steps.ensures c.some_left.ensures c.if-some_left.false
    (subst (λ (b : List ℕ). WordAnswer b c.merge-steps.result.now c.args.out.now c.restate_word.result c.restate_word.new.out) c.of-restatable.ensures
    c.restate_word.ensures)
