-- R16, R17, O8: a bad row, then an idle component, by what was found of each; then the sizes.
use Rattle.std.proofs.Common.{sym, ◌∙◌}
use Rattle.rows.proofs.judge.Alphabets.{bad_rows, idle_components}
use Rattle.rows.proofs.judge.Answers.{refused_16, refused_17, accepted}
use Rattle.rows.proofs.judge.judge_rows.Goals as goal

pub returns-then-row_unused-row_repeated : goal.returns-then-row_unused-row_repeated
returns-then-row_unused-row_repeated c =
    let bad = bad_rows _ _ _ _ c.args.rows.stand c.fill_alphabets.ensures.1 _ _ c.row_unused.ensures c.row_repeated.ensures in
    refused_16 _ _ _ c.refuse.ensures c.requires.0 (sym bad ∙ c.if-row_unused-row_repeated.true)

pub returns-then-some_empty : goal.returns-then-some_empty
returns-then-some_empty c =
    let stand = c.args.rows.stand in
    let left = c.fill_alphabets.ensures.1 in
    let bad = bad_rows _ _ _ _ stand left _ _ c.row_unused.ensures c.row_repeated.ensures in
    let idle = c.some_empty.ensures ∙ idle_components _ _ _ _ stand left in
    refused_17 _ _ _ c.refuse-then-some_empty.ensures c.requires.0 (sym bad ∙ c.if-row_unused-row_repeated.false)
    (sym idle ∙ c.if-some_empty.true)

pub returns : goal.returns
returns c =
    let stand = c.args.rows.stand in
    let left = c.fill_alphabets.ensures in
    let bad = bad_rows _ _ _ _ stand left.1 _ _ c.row_unused.ensures c.row_repeated.ensures in
    let idle = c.some_empty.ensures ∙ idle_components _ _ _ _ stand left.1 in
    rw c.sizes_by.ensures
    (accepted _ _ _ _ c.requires.0 (sym bad ∙ c.if-row_unused-row_repeated.false) (sym idle ∙ c.if-some_empty.false) stand left.0 left.1)
