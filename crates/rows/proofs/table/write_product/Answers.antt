-- B6: the records, the transitions in the rest behind them, and the trailer behind both.
use Rattle.std.proofs.Common.{arith, refl, ap, ◌∙◌, ℕ, List, []}
use Rattle.sets.specs.Lists.{over}
use Rattle.writing.proofs.Sections.{to_write_length, to_write_lent, to_write_more, to_write_end}
use Rattle.products.specs.ProductBytes.{product_of}
use Rattle.products.specs.ProductSheet.{product_front}
use Rattle.rows.specs.table.Parts.{transition_part}
use Rattle.rows.proofs.table.Fronts.{sheet_long, front_short, records_fit, records_first, sheet_closed}
use Rattle.rows.proofs.table.write_product.Goals as goal

pub write_records-t-requires : goal.write_records-t-requires
write_records-t-requires c = records_fit _ _ c.requires

pub write_transitions-requires : goal.write_transitions-requires
write_transitions-requires c =
    let b = c.args.product.now.rows.bytes.now in
    let e = c.write_records-t.ensures in
    to_write_lent (records_first b _ c.requires e.0 e.1) (transition_part b) [] refl

pub close_sheet-requires : goal.close_sheet-requires
close_sheet-requires c =
    let b = c.args.product.now.rows.bytes.now in
    let e = c.write_records-t.ensures in
    let t = c.write_transitions.ensures in
    let both = to_write_more (records_first b _ c.requires e.0 e.1) (transition_part b) [] refl refl t.1 t.0 in
    let s = (to_write_end both refl).0 in
    let short = front_short b _ c.args.product.now.read in
    let long = to_write_length both in
    let room = sheet_long (product_of b) in
    (omega arith, omega (arith, c.requires))

pub returns : goal.returns
returns c =
    let p = c.args.product.now in
    let b = p.rows.bytes.now in
    let out = c.args.out.now in
    let e = c.write_records-t.ensures in
    let t = c.write_transitions.ensures in
    let both = to_write_more (records_first b _ c.requires e.0 e.1) (transition_part b) [] refl refl t.1 t.0 in
    let end = to_write_end both refl in
    c.close_sheet.ensures (product_front (product_of b)) out end.0 end.1
    ∙ ap (λ (l : List ℕ). over l out) (sheet_closed b p.rows.n p.rows.m p.rows.stand.n_told p.rows.stand.m_told)
