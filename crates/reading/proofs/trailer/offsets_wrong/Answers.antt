-- `trailer::offsets_wrong`, which serves R4: the offset of the steps is tested first, and the tests together are refusal 4.
-- Assumes nothing.
use Rattle.std.proofs.Common.{◌≡◌, sym, ◌∙◌, List, ℕ, ◌-◌, ◌*◌, ◌%◌, length, get_or}
use Rattle.std.specs.Prelude.{Bool, true, false, not, ◌||◌, ltb, eqb}
use mathlib.Core.Bool.{or-true, or-false, or_assoc}
use Rattle.sheet.specs.Numbers.{field}
use Rattle.sheet.specs.Layout.{records_at, transitions_at, steps_at}
use Rattle.sheet.specs.Refusals.{outside, offsets_wrong}
use Rattle.reading.proofs.trailer.Trailer.{components_read}
use Rattle.reading.proofs.trailer.offsets_wrong.Goals as goal

-- the offsets as they are read
module _ (b : List ℕ) (c t s : ℕ) (ec : c ≡ field (length b - 10) 2 b) (et : t ≡ field (length b - 8) 2 b) (es : s ≡ field (length b - 6) 2 b) where
  steps_misplaced : outside t (length b - 10) s ≡ true → true ≡ offsets_wrong b
  unfolding offsets_wrong records_at transitions_at steps_at
  steps_misplaced h = rw (← ec, ← et, ← es, h, or-true)

  steps_placed : outside t (length b - 10) s ≡ false → (n : ℕ) → n ≡ get_or b (length b - 4) 0 → (x y : Bool)
      → x ≡ (not (eqb ((s - t) % 4) 0) || ltb 8192 (s - t)) → y ≡ (not (eqb ((length b - 10 - s) % 8) 0) || ltb 8192 (length b - 10 - s))
      → (((not (eqb c 0) || not (eqb t (16 * n))) || x) || y) ≡ offsets_wrong b
  unfolding offsets_wrong records_at transitions_at steps_at
  steps_placed h n en x y ex ey = rw (← ec, ← et, ← es, h, or-false, components_read b, ← en, ex, ey) (simp or_assoc)

pub returns-then-out_of_range : goal.returns-then-out_of_range
returns-then-out_of_range c =
    steps_misplaced c.args.sheet.now c.number-c.result c.number-t.result c.number-s.result c.number-c.ensures.0 c.number-t.ensures.0
    c.number-s.ensures.0 (sym c.out_of_range.ensures ∙ c.if-out_of_range.true)

pub returns : goal.returns
returns c =
    steps_placed c.args.sheet.now c.number-c.result c.number-t.result c.number-s.result c.number-c.ensures.0 c.number-t.ensures.0
    c.number-s.ensures.0 (sym c.out_of_range.ensures ∙ c.if-out_of_range.false) c.from.result c.from.ensures
    c.section_length_wrong.result c.section_length_wrong-2.result c.section_length_wrong.ensures c.section_length_wrong-2.ensures
