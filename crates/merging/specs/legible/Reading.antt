-- What the reader of columns tells: the labels of each column, and whether columns fill the bytes (R18, V2).
-- Assumes nothing.
use Rattle.std.specs.Prelude.{◌≡◌, true, List, [], ◌++◌, map, ℕ, ◌^◌, ◌<◌, Option, MatchOption, length, get_or}
use Rattle.std.specs.Borrow.{Bor}
use Rattle.sets.specs.Bits.{member}
use Rattle.sheet.specs.declared.Component.{Component}
use Rattle.sheet.specs.Sections.{alphabet_at}
use Rattle.answers.specs.declared.Sizes.{Sizes}
use Rattle.answers.specs.declared.Answer.{Answer}
use Rattle.answers.specs.declared.Answer.TheVariants.{Accepted, Given, Refused}
use Rattle.answers.specs.declared.Refusal.TheVariants.{NotColumns}
use Rattle.columns.specs.ColumnBytes.{count_size, column_bytes}
use Rattle.columns.specs.ColumnRefusals.{FilledBy}
use Rattle.columns.specs.Merging.{Rest}

-- V2: the columns that some slices hold: all labels of each, or those that are left
abbrev pub labels_of : List (Bor (List ℕ)) → List (List ℕ)
labels_of left = map (λ x. x.now) left

-- V2: the labels of each column; behind the last there are none
abbrev pub rest_in : List (List ℕ) → Rest
rest_in cs j = get_or cs j []

-- every label is in the alphabet (R18)
abbrev pub LabelsOwn : ℕ → List ℕ → Type 0
LabelsOwn alphabet l = (i : ℕ) → i < length l → member alphabet (get_or l i 0) ≡ true

-- the bytes begin with a column: a count, and as many labels, all of the alphabet (V2, R18)
pub record BeginsWith (d : List ℕ) (alphabet : ℕ) (labels behind : List ℕ) : Type 0 where
  pub split : d ≡ column_bytes labels ++ behind
  pub few : length labels < 256 ^ count_size
  pub own : LabelsOwn alphabet labels

-- the labels of the column that the bytes begin with, and what is behind it; or none, where they begin with no column (R18)
abbrev pub ColumnFound : List ℕ → ℕ → Option (Bor (List ℕ) × Bor (List ℕ)) → Type 0
ColumnFound d alphabet r =
    MatchOption r ((labels behind : List ℕ) → ¬ BeginsWith d alphabet labels behind) (λ p. BeginsWith d alphabet p.0.now p.1.now)

-- R18, F1: what the reader answers for a sheet with the sizes z and these components: these sizes, and the columns that fill the bytes; or 18,
-- where no columns fill them
abbrev pub ColumnsRead : List ℕ → Sizes → List Component → List (List ℕ) → Answer → Type 0
ColumnsRead d z l cs (Accepted w) = (w ≡ z) × FilledBy d (length l) (alphabet_at l) cs
ColumnsRead d z l cs (Given x) = ⊥
ColumnsRead d z l cs (Refused k i s) = (Refused k i s ≡ Refused NotColumns 0 0) × ((es : List (List ℕ)) → ¬ FilledBy d (length l) (alphabet_at l) es)
