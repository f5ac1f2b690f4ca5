-- B9: one row more is written, and all of them.
use Rattle.std.proofs.Common.{refl, sym, ap, ◌∙◌, ℕ, ◌+◌, List, [], ◌∷◌, ◌++◌, get_or}
use Rattle.sets.specs.Lists.{append_all}
use Rattle.sets.specs.Bits.{members}
use Rattle.sets.proofs.Members.{members_zero}
use Rattle.sets.proofs.Walks.{taken_first}
use Rattle.writing.proofs.Sections.{to_write_all, to_write_lent, to_write_more, to_write_end}
use Rattle.products.specs.ProductBytes.{product_of}
use Rattle.rows.proofs.table.Places.{rows_few}
use Rattle.rows.proofs.table.Leaving.{row_transition, from_set, row_written, text, next_row, first_mine, within_rest}
use Rattle.rows.proofs.table.write_leaving.Goals as goal

pub loop-g-init : goal.loop-g-init
loop-g-init c =
    let a = c.args in
    let few = rows_few _ _ _ a.column.rows.stand in
    rw (c.into_iter-g-iterator.ensures.into_iter_gives, c.of-g-items.ensures)
    (record {
      within = λ g m. m;
      written = to_write_all _ _ _ (ap append_all (from_set (product_of a.column.rows.bytes.now) a.column.j a.q a.rows c.requires.0 few)) c.requires.1;
    })

pub transition_at-at-requires : goal.transition_at-at-requires
transition_at-at-requires c =
    first_mine c.in-Some.ensures.steps c.args.rows c.loop-g.invariant.within _ c.args.column.j c.args.q c.requires.0

pub write_transition-used-requires : goal.write_transition-used-requires
write_transition-used-requires c =
    let a = c.args in
    let b = a.column.rows.bytes.now in
    to_write_lent c.loop-g.invariant.written (row_transition (product_of b) a.column.j a.q c.in-Some.g) _
    (next_row b a.column.j a.q (taken_first c.in-Some.ensures.steps))

pub loop-g-preserved : goal.loop-g-preserved
loop-g-preserved c =
    let a = c.args in
    let b = a.column.rows.bytes.now in
    let t = c.in-Some.ensures.steps in
    let at = c.transition_at-at.result in
    let rest = text b a.column.j a.q (members c.next.new.self.left) in
    let row = sym (row_written b a.column.j a.q c.in-Some.g at c.transition_at-at.ensures) in
    record {
      within = within_rest t a.rows c.loop-g.invariant.within;
      written =
          to_write_more c.loop-g.invariant.written (a.column.j ∷ a.q ∷ c.in-Some.g ∷ get_or b (at + 1) 0 ∷ []) rest
          (next_row b a.column.j a.q (taken_first t) ∙ ap (λ (l : List ℕ). l ++ rest) row) refl
          c.write_transition-used.ensures.1 c.write_transition-used.ensures.0;
    }

pub returns : goal.returns
returns c =
    let a = c.args in
    to_write_end c.loop-g.invariant.written
    (ap (text a.column.rows.bytes.now a.column.j a.q) (ap members c.in-None.ensures.steps.0 ∙ members_zero))
