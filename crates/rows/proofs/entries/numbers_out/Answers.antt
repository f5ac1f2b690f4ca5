-- R15: each transition count stands in the bytes, and a column with a number out of range is found, or there is none.
use Rattle.std.proofs.Common.{arith, refl, sym, ◌∙◌}
use Rattle.rows.proofs.entries.Columns.{begin_told, columns_found, columns_passed}
use Rattle.rows.proofs.entries.numbers_out.Goals as goal

pub overflow_add-part : goal.overflow_add-part
overflow_add-part c =
    let r = c.args.rows.stand in
    let t = begin_told _ _ _ _ c.loop-j.j _ r c.requires (let s = c.requires.size in let n = r.n_told in omega arith) refl in
    let i = t.inside in
    omega arith

pub bounds-rows-part : goal.bounds-rows-part
bounds-rows-part c =
    let r = c.args.rows.stand in
    let t = begin_told _ _ _ _ c.loop-j.j _ r c.requires (let s = c.requires.size in let n = r.n_told in omega arith) refl in
    let i = t.inside in
    omega arith

pub column_out-requires : goal.column_out-requires
column_out-requires c =
    let r = c.args.rows.stand in
    let s = c.requires.size in
    let n = r.n_told in
    (omega arith, (begin_told _ _ _ _ c.loop-j.j _ r c.requires (omega arith) refl).count_told)

pub returns-then-column_out : goal.returns-then-column_out
returns-then-column_out c =
    let s = c.requires.size in
    let n = c.args.rows.stand.n_told in
    columns_found _ _ c.loop-j.j (omega arith) (sym c.column_out.ensures ∙ c.if-column_out.true)

pub returns : goal.returns
returns c =
    let s = c.requires.size in
    let n = c.args.rows.stand.n_told in
    columns_passed _ _ _ (omega arith) c.loop-j.invariant
