-- O8: what the reader answers: 15, 16, 17, or the sizes.
-- Assumes nothing.
use mathlib.Core.Path.{◌≡◌, sym, ap, ap₂, ◌∙◌, subst}
use mathlib.Core.Bool.{true, false}
use mathlib.Core.List.{List}
use Prim.Native.Nat.{ℕ, ◌+◌, ◌*◌}
use native.Mathlib.Omega.{arith}
use Rattle.sheet.specs.Bounds.{record_size, transition_size}
use Rattle.answers.specs.declared.Sizes.{Sizes}
use Rattle.answers.specs.declared.Refusal.{Refusal}
use Rattle.answers.specs.declared.Refusal.TheVariants.{NotProduct, BadRow, IdleComponent}
use Rattle.answers.specs.declared.Answer.{Answer}
use Rattle.answers.specs.declared.Answer.TheVariants.{Refused}
use Rattle.answers.specs.Outcomes.{refused, number_of}
use Rattle.products.specs.ProductBytes.{rows_at, product_of}
use Rattle.products.specs.ProductRefusals.{WellFormed}
use Rattle.products.specs.ProductVerdict.{malformed, bad_row, idle_component, rows_outcome}
use Rattle.rows.specs.entries.Rows.{RowsStand}
use Rattle.rows.specs.declared.product.Part.{Part}
use Rattle.rows.specs.Reading.{BeginsLeft, AlphabetsLeft, ReadProduct, SheetSizes}
use Rattle.rows.specs.judge.Judging.{sizes_by, Judged}
use Rattle.products.proofs.Refusals.{malformed_exact}
use Rattle.products.proofs.Firing.{InRange}
use Rattle.rows.proofs.judge.Elements.{elements_counted}
use Rattle.products.proofs.Records.{front_length}

module _ (b : List ℕ) (l : List Part) (r : Answer) where
  refusal : (k : Refusal) → r ≡ Refused k 0 0 → ((size : ℕ) → rows_outcome b size ≡ refused (number_of k) 0 0) → Judged b l r
  refusal k e told = subst (Judged b l) (sym e) told

  pub refused_15 : r ≡ Refused NotProduct 0 0 → malformed b ≡ true → Judged b l r
  unfolding rows_outcome
  refused_15 e h = refusal NotProduct e (λ size. rw h)

  pub refused_16 : r ≡ Refused BadRow 0 0 → malformed b ≡ false → bad_row (product_of b) ≡ true → Judged b l r
  unfolding rows_outcome
  refused_16 e f h = refusal BadRow e (λ size. rw (f, h))

  pub refused_17 : r ≡ Refused IdleComponent 0 0 → malformed b ≡ false → bad_row (product_of b) ≡ false → idle_component (product_of b) ≡ true
      → Judged b l r
  unfolding rows_outcome
  refused_17 e f g h = refusal IdleComponent e (λ size. rw (f, g, h))

-- ---- what a product that is not malformed gives

module _ (b : List ℕ) (h : malformed b ≡ false) where
  formed : WellFormed b
  formed = (malformed_exact b).0 h

  formed_range : InRange (product_of b)
  unfolding product_of
  formed_range = record { few_rows = formed.rows_high; components = formed.components; numbers = formed.numbers }

-- what was found, put together
pub accepted : (b : List ℕ) (l : List Part) (n m : ℕ) → malformed b ≡ false → bad_row (product_of b) ≡ false
    → idle_component (product_of b) ≡ false → RowsStand b n m → BeginsLeft b l → AlphabetsLeft b l
    → SheetSizes b (sizes_by l m) × ReadProduct b l
unfolding product_of
accepted b l n m f g h s left found = (
  record {
    n_told = left.size;
    m_told = s.m_told;
    t_told = ap (λ (x : ℕ). record_size * x) left.size;
    s_told =
        ap₂ (λ (x y : ℕ). record_size * x + transition_size * y) left.size (elements_counted b l (formed_range b f) found)
        ∙ sym (front_length (product_of b));
  },
  record { well_formed = f; no_bad_row = g; no_idle_component = h; begins_left = left; alphabets_left = found },
)

-- the rows, by the sizes that were told
pub rows_by : (b : List ℕ) (l : List Part) (z : Sizes) → SheetSizes b z → ReadProduct b l → RowsStand b z.n z.m
rows_by b l z S R =
    let w = (malformed_exact b).0 R.well_formed in
    let e = S.n_told in
    let f = S.m_told in
    record {
      n_told = e;
      m_told = f;
      few_components = let k = w.components_high in omega arith;
      few_rows = let k = w.rows_high in omega arith;
      length_fits = w.length_fits ∙ ap₂ (λ (x y : ℕ). rows_at b + x * y) (sym e) (sym f);
    }
