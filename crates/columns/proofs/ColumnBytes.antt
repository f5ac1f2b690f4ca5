-- V2, R18: columns written as bytes are read back, so that bytes are those of at most one list of columns; and the test of R18 decides it.
-- Assumes nothing.
use mathlib.Core.Path.{◌≡◌, refl, sym, ap, ap₂, ◌∙◌}
use mathlib.Core.Logic.{◌↔◌}
use mathlib.Core.Bool.{true, ◌&&◌}
use mathlib.Core.List.{List, [], ◌∷◌, ◌++◌}
use Prim.Native.Nat.{ℕ, zero, suc, ◌^◌, ◌<◌}
use native.Mathlib.Omega.{arith}
use lib.ListN.{length, take, drop, get_or, length-append}
use lib.Seq.{take-append_seam, drop-append_seam}
use Rattle.sets.specs.Lists.{append_all, below}
use Rattle.sets.specs.Bits.{member}
use Rattle.sets.proofs.Bools.{and_true, leb_true}
use Rattle.sets.proofs.Lists.{all_of_intro, all_of_elim, mem_below}
use Rattle.sheet.specs.Numbers.{number}
use Rattle.sheet.specs.Layout.{component_count}
use Rattle.sheet.specs.Refusals.{same_numbers}
use Rattle.sheet.proofs.Numbers.{number_bytes}
use Rattle.sheet.proofs.Limits.{same_numbers_fact}
use Rattle.columns.specs.ColumnBytes.{column_bytes, columns_bytes}
use Rattle.columns.specs.ColumnRefusals.{FilledBy, ColumnsIn, Legible}
use Rattle.columns.specs.Reading.{first_column, behind_first, read_columns, few_labels, labels_own, are_columns, legible}

-- ---- read back

-- V2: of bytes that begin with a column of few enough labels, that column is read, and the bytes behind it
module _ (c rest : List ℕ) (few : length c < 256 ^ 2) where
  count_read : number (take 2 (column_bytes c ++ rest)) ≡ length c
  count_read = number_bytes 2 (length c) few

  first_read : first_column (column_bytes c ++ rest) ≡ c
  first_read = ap (λ (k : ℕ). take k (c ++ rest)) count_read ∙ take-append_seam c rest

  behind_read : behind_first (column_bytes c ++ rest) ≡ rest
  behind_read = ap (λ (k : ℕ). drop k (c ++ rest)) count_read ∙ drop-append_seam c rest

-- V2: columns of few enough labels together are read back from their bytes
pub columns_read : (cs : List (List ℕ)) → length (append_all cs) < 256 ^ 2 → read_columns (length cs) (columns_bytes cs) ≡ cs
columns_read [] few = refl
columns_read (c ∷ cs) few =
    let l = length-append c (append_all cs) in
    ap₂ (λ (x : List ℕ) (r : List (List ℕ)). x ∷ r) (first_read c (columns_bytes cs) (omega arith))
    (ap (read_columns (length cs)) (behind_read c (columns_bytes cs) (omega arith)) ∙ columns_read cs (omega arith))

-- R18: the columns that fill some bytes are those that are read in them
pub columns_in_read : {d : List ℕ} {n : ℕ} {alphabet : ℕ → ℕ} {cs : List (List ℕ)} → FilledBy d n alphabet cs → read_columns n d ≡ cs
columns_in_read {cs = cs} x =
    let few = x.few in
    ap₂ read_columns (sym x.one_each) x.filled ∙ columns_read cs (omega arith)

-- R18: so they are one
pub columns_in_one : {d : List ℕ} {n : ℕ} {alphabet : ℕ → ℕ} {cs ds : List (List ℕ)} → FilledBy d n alphabet cs → FilledBy d n alphabet ds
    → cs ≡ ds
columns_in_one x y = sym (columns_in_read x) ∙ columns_in_read y

-- R18: it asks the same of as many components whose alphabets are the same
pub filled_over : {d : List ℕ} {n : ℕ} {alphabet : ℕ → ℕ} {cs : List (List ℕ)} (m : ℕ) (other : ℕ → ℕ) → n ≡ m
    → ((j : ℕ) → j < n → alphabet j ≡ other j) → FilledBy d n alphabet cs → FilledBy d m other cs
filled_over {n = n} m other e same x =
    record {
      filled = x.filled;
      one_each = x.one_each ∙ e;
      few = x.few;
      own = λ j l a i. let h : j < n = omega arith in ap (λ (y : ℕ). member y a) (sym (same j h)) ∙ x.own j h a i;
    }

-- ---- the test of R18

read_length : (n : ℕ) (d : List ℕ) → length (read_columns n d) ≡ n
read_length zero d = refl
read_length (suc n) d = ap suc (read_length n (behind_first d))

-- R18: the test, of as many columns as there are components
pub columns_exact : (b d : List ℕ) (cs : List (List ℕ)) → length cs ≡ component_count b → (are_columns b d cs ≡ true) ↔ ColumnsIn b d cs
columns_exact b d cs e = (there, back)
  where
    there : are_columns b d cs ≡ true → ColumnsIn b d cs
    there h =
        let f = (and_true (same_numbers (columns_bytes cs) d) (few_labels cs && labels_own b cs)).0 h in
        let g = (and_true (few_labels cs) (labels_own b cs)).0 f.1 in
        record {
          filled = sym ((same_numbers_fact (columns_bytes cs) d).0 f.0);
          one_each = e;
          few = (leb_true _ _).0 g.0;
          own = λ j l. all_of_elim _ (get_or cs j []) (all_of_elim _ (below (component_count b)) g.1 j ((mem_below (component_count b) j).1 l));
        }

    back : ColumnsIn b d cs → are_columns b d cs ≡ true
    back x =
        (and_true (same_numbers (columns_bytes cs) d) (few_labels cs && labels_own b cs)).1 (
          (same_numbers_fact (columns_bytes cs) d).1 (sym x.filled),
          (and_true (few_labels cs) (labels_own b cs)).1 (
            (leb_true _ _).1 x.few,
            all_of_intro _ (below (component_count b)) (λ j m. all_of_intro _ (get_or cs j []) (x.own j ((mem_below (component_count b) j).0 m))),
          ),
        )

-- R18: the test of the columns that are read passes exactly where the bytes are columns
pub legible_exact : (b d : List ℕ) → (legible b d ≡ true) ↔ Legible b d
unfolding legible
legible_exact b d =
    let n = component_count b in (
      λ h. (read_columns n d, (columns_exact b d (read_columns n d) (read_length n d)).0 h),
      λ h. ap (are_columns b d) (columns_in_read h.1) ∙ (columns_exact b d h.0 h.1.one_each).1 h.1,
    )
