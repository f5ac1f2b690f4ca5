-- What the call answers and leaves, and which refusal is due (V3, V4, O9; document 02, request 3).
-- Assumes nothing.
use Rattle.std.specs.Prelude.{◌≡◌, ◌⊎◌, List, ℕ, length}
use Rattle.sheet.specs.Verdict.{Verdict, verdict, Accepted}
use Rattle.answers.specs.declared.Answer.{Answer}
use Rattle.answers.specs.Outcomes.{refused, values, one_value, outcome_of}
use Rattle.answers.specs.Restated.{restated}
use Rattle.answers.specs.Restating.{restating, output_after}
use Rattle.answers.specs.FirstRefusal.{Refusal, Numbered, TooShort, AfterSheet}
use Rattle.columns.specs.ColumnRefusals.{ColumnsIn, Legible, HasColumns, Executable}

-- V3: for the sheet b and the columns in the bytes d, the answer and the output afterwards, by cases
pub data ColumnsAnswer (b d out : List ℕ) (r : Answer) (after : List ℕ) : Type 0 where
  -- V4: the sheet itself is refused
  sheet_refused : (k i : ℕ) → verdict b ≡ Verdict.refused k i → outcome_of r ≡ refused k i 0 → after ≡ out → ColumnsAnswer b d out r after
  -- R18: the bytes are no columns for its components
  not_legible : Accepted b → (¬ Legible b d) → outcome_of r ≡ refused 18 0 0 → after ≡ out → ColumnsAnswer b d out r after
  -- R19: no accepted sheet over its tables has the columns
  not_executable : Accepted b → (cs : List (List ℕ)) → ColumnsIn b d cs → (¬ Executable b cs) → outcome_of r ≡ refused 19 0 0 → after ≡ out
      → ColumnsAnswer b d out r after
  -- V3, R13: some sheet c has them: what restating c answers and writes
  as_restated : Accepted b → (cs : List (List ℕ)) → ColumnsIn b d cs → (c : List ℕ) → HasColumns b cs c
      → outcome_of r ≡ values one_value (restating c (length out)) → after ≡ output_after c out → ColumnsAnswer b d out r after

-- O9: the refusal that is due: 1 to 12 of the sheet; then 18 and 19, each where its condition holds and no earlier one does; then 13
abbrev pub ColumnsRefusal : List ℕ → List ℕ → ℕ → Refusal
ColumnsRefusal b d room =
    AfterSheet 0 b
    (λ k i s. ((¬ Legible b d) × Numbered 18 k i s)
    ⊎ ((cs : List (List ℕ)) × ColumnsIn b d cs × (
    ((¬ Executable b cs) × Numbered 19 k i s)
    ⊎ ((c : List ℕ) × HasColumns b cs c × TooShort room (restated c) k i s))))
