-- B6, O8: the call's answer and output: 15, 16 or 17 as the reader told it, else 13, else the sheet that the product becomes.
-- Assumes nothing.
use mathlib.Core.Path.{◌≡◌, refl, sym, ap, ◌∙◌}
use mathlib.Core.List.{List}
use Prim.Native.Nat.{ℕ, ◌+◌, ◌≤◌, ◌<◌}
use native.Mathlib.Omega.{arith}
use lib.ListN.{length}
use Rattle.sets.specs.Lists.{over}
use Rattle.sheet.specs.Bounds.{trailer_size}
use Rattle.answers.specs.declared.Sizes.{Sizes}
use Rattle.answers.specs.declared.Refusal.{Refusal}
use Rattle.answers.specs.declared.Refusal.TheVariants.{NoRoom}
use Rattle.answers.specs.declared.Answer.{Answer}
use Rattle.answers.specs.declared.Answer.TheVariants.{Accepted, Given, Refused}
use Rattle.answers.specs.Outcomes.{given, refused, values, one_value, number_of}
use Rattle.answers.specs.LentOutput.{length_or13}
use Rattle.answers.proofs.LentOutput.{fitting_long, fitting_short}
use Rattle.answers.proofs.Passing.{NotAccepted}
use Rattle.products.specs.ProductBytes.{product_of}
use Rattle.products.specs.ProductSheet.{product_sheet}
use Rattle.products.specs.ProductVerdict.{rows_outcome}
use Rattle.rows.specs.declared.product.Part.{Part}
use Rattle.rows.specs.Reading.{ReadProduct, SheetSizes}
use Rattle.rows.specs.Calls.{RowsAnswer}
use Rattle.rows.specs.judge.Judging.{Judged}
use Rattle.rows.proofs.table.Fronts.{sheet_long}
use Rattle.rows.proofs.Demands.{refused_left, given_left}

-- a refused call leaves the output as it came
refused_right : (b out : List ℕ) (r : Refusal) (i s : ℕ) → rows_outcome b (length out) ≡ refused (number_of r) i s
    → RowsAnswer b out (Refused r i s) out
refused_right b out r i s e =
    record { answer_told = ap (values one_value) (sym e); output_left = sym (refused_left b out (number_of r) i s e) }

-- O8: what the reader refuses, the call refuses, whatever the room
pub rows_refused : (b out : List ℕ) (l : List Part) (r : Answer) → NotAccepted r → Judged b l r → RowsAnswer b out r out
rows_refused b out l (Accepted z) h j = absurd (h z refl)
rows_refused b out l (Given x) h j = absurd j
rows_refused b out l (Refused r i s) h j = refused_right b out r i s (j (length out))

module _ (b : List ℕ) (l : List Part) (z : Sizes) (S : SheetSizes b z) (R : ReadProduct b l) where
  -- B6: how long the sheet is
  pub sheet_length : z.s + trailer_size ≡ length (product_sheet (product_of b))
  sheet_length = omega (arith, S.s_told, sheet_long (product_of b))

  -- none of 15, 16 and 17 holds
  past_refusals : (size : ℕ) → rows_outcome b size ≡ length_or13 (product_sheet (product_of b)) size
  unfolding rows_outcome
  past_refusals size = rw (R.well_formed, R.no_bad_row, R.no_idle_component)

  -- R13: the sheet does not fit
  pub rows_short : (out : List ℕ) → length out < z.s + trailer_size → (r : Answer) → r ≡ Refused NoRoom 0 0 → RowsAnswer b out r out
  rows_short out h r e =
      rw e
      (refused_right b out NoRoom 0 0
      (past_refusals (length out) ∙ fitting_short (product_sheet (product_of b)) (length out) (let e = sheet_length in omega arith)))

  -- B6: it does, and is written
  pub rows_written : (out after : List ℕ) → z.s + trailer_size ≤ length out → after ≡ over (product_sheet (product_of b)) out
      → RowsAnswer b out (Given (z.s + trailer_size)) after
  rows_written out after h e =
      let enough : rows_outcome b (length out) ≡ given (length (product_sheet (product_of b))) =
      past_refusals (length out) ∙ fitting_long (product_sheet (product_of b)) (length out) (let s = sheet_length in omega arith) in
      record {
        answer_told = ap (λ (k : ℕ). given (one_value k)) sheet_length ∙ ap (values one_value) (sym enough);
        output_left = e ∙ sym (given_left b out (length (product_sheet (product_of b))) enough);
      }
