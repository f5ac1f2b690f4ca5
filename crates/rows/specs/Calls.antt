-- What the call answers and leaves, and which refusal is due (B6, O8; document 02, request 1).
-- Assumes nothing.
use Rattle.std.specs.Prelude.{◌≡◌, ◌⊎◌, List, ℕ, length}
use Rattle.answers.specs.declared.Answer.{Answer}
use Rattle.answers.specs.Outcomes.{values, one_value, outcome_of}
use Rattle.answers.specs.FirstRefusal.{Refusal, Numbered, TooShort}
use Rattle.products.specs.ProductBytes.{product_of}
use Rattle.products.specs.ProductRefusals.{WellFormed, BadRow, IdleComponent}
use Rattle.products.specs.ProductSheet.{product_sheet}
use Rattle.products.specs.ProductVerdict.{rows_outcome, rows_output}

-- B6: the bytes written, and the output afterwards
pub record RowsAnswer (b out : List ℕ) (r : Answer) (after : List ℕ) : Type 0 where
  pub answer_told : outcome_of r ≡ values one_value (rows_outcome b (length out))
  pub output_left : after ≡ rows_output b out

-- O8: the refusal that is due: 15, 16 and 17 each where its condition holds and no earlier one does, then 13
abbrev pub RowsRefusal : List ℕ → ℕ → Refusal
RowsRefusal b room k i s =
    ((¬ WellFormed b) × Numbered 15 k i s)
    ⊎ (WellFormed b × (
    (BadRow (product_of b) × Numbered 16 k i s)
    ⊎ ((¬ BadRow (product_of b)) × (
    (IdleComponent (product_of b) × Numbered 17 k i s)
    ⊎ ((¬ IdleComponent (product_of b)) × TooShort room (product_sheet (product_of b)) k i s)))))
