-- V2, R18: columns in bytes: how many bytes they have, one column more behind others, and the column that some bytes begin with, found again
-- in them: its labels, and what is behind it.
-- Assumes nothing.
use mathlib.Core.Path.{◌≡◌, refl, sym, ap, ap₂, ◌∙◌}
use mathlib.Core.List.{List, [], ◌∷◌, ◌++◌, map, map-append, append_assoc, append-nil}
use Prim.Native.Nat.{ℕ, ◌+◌, ◌*◌, ◌^◌, ◌≤◌, ◌<◌}
use native.Mathlib.Omega.{arith}
use lib.ListN.{length, take, drop, length-append}
use lib.Seq.{take_at, drop_at, length-take-le}
use Rattle.std.proofs.lemmas.List.{take-append-drop}
use Rattle.sets.specs.Lists.{append_all}
use Rattle.sets.proofs.Lists.{append_all_append}
use Rattle.sheet.specs.Numbers.{AreBytes, number, bytes, field}
use Rattle.sheet.proofs.Numbers.{bytes_take, bytes_number, number_bytes, number_part, length_bytes}
use Rattle.columns.specs.ColumnBytes.{count_size, column_bytes, columns_bytes}
use Rattle.merging.specs.legible.Reading.{BeginsWith}

-- V2: how many bytes columns have: two for each, and one for each label
pub bytes_length : (cs : List (List ℕ)) → length (columns_bytes cs) ≡ 2 * length cs + length (append_all cs)
bytes_length [] = refl
bytes_length (c ∷ cs) =
    length-append (column_bytes c) (columns_bytes cs)
    ∙ omega (arith, length-append (bytes 2 (length c)) c, length_bytes 2 (length c), bytes_length cs, length-append c (append_all cs))

-- V2: one column more
pub columns_more : (cs : List (List ℕ)) (c : List ℕ) → columns_bytes (cs ++ (c ∷ [])) ≡ columns_bytes cs ++ column_bytes c
columns_more cs c =
    ap append_all (map-append column_bytes cs (c ∷ [])) ∙ append_all_append (map column_bytes cs) (column_bytes c ∷ [])
    ∙ ap (λ (l : List ℕ). columns_bytes cs ++ l) (append-nil (column_bytes c))

-- ---- a number of k bytes, and as many bytes behind it as it says

-- the bytes of the number that stands in front
front_bytes : (k : ℕ) (d : List ℕ) → AreBytes d → k ≤ length d → take k d ≡ bytes k (field 0 k d)
front_bytes k d h fits =
    sym (bytes_number (take k d) (bytes_take k d h)) ∙ ap₂ (λ (j x : ℕ). bytes j x) (length-take-le k d fits) (number_part 0 k d)

-- the bytes are a count, as many labels, and what is behind them
column_here : (k : ℕ) (d : List ℕ) → AreBytes d → k ≤ length d → field 0 k d ≤ length (drop k d)
    → d ≡ (bytes k (length (take (field 0 k d) (drop k d))) ++ take (field 0 k d) (drop k d)) ++ drop (field 0 k d) (drop k d)
column_here k d h fits inside =
    sym (take-append-drop k d)
    ∙ ap₂ (λ (p q : List ℕ). p ++ q) (front_bytes k d h fits ∙ ap (bytes k) (sym long)) (sym (take-append-drop count (drop k d)))
    ∙ sym (append_assoc (bytes k (length labels)) labels (drop count (drop k d)))
  where
    count : ℕ
    count = field 0 k d

    labels : List ℕ
    labels = take count (drop k d)

    long : length labels ≡ count
    long = length-take-le count (drop k d) inside

-- V2: a count, as many labels, and what is behind them are the bytes
pub column_split : (k : ℕ) (d labels others : List ℕ) → AreBytes d → k ≤ length d → field 0 k d ≤ length (drop k d)
    → labels ≡ take (field 0 k d) (drop k d) → others ≡ drop (field 0 k d) (drop k d) → d ≡ (bytes k (length labels) ++ labels) ++ others
column_split k d labels others h fits inside e f =
    column_here k d h fits inside ∙ sym (ap₂ (λ (l o : List ℕ). (bytes k (length l) ++ l) ++ o) e f)

-- such a count, its labels and what is behind them are found again
module _ (k : ℕ) (d c behind : List ℕ) (e : d ≡ (bytes k (length c) ++ c) ++ behind) (few : length c < 256 ^ k) where
  begun : d ≡ bytes k (length c) ++ (c ++ behind)
  begun = e ∙ append_assoc (bytes k (length c)) c behind

  first_count : field 0 k d ≡ length c
  first_count =
      sym (number_part 0 k d)
      ∙ ap (λ (l : List ℕ). number (take k l)) begun
      ∙ ap number (take_at (bytes k (length c)) (c ++ behind) k (length_bytes k (length c)))
      ∙ number_bytes k (length c) few

  first_rest : drop k d ≡ c ++ behind
  first_rest = ap (drop k) begun ∙ drop_at (bytes k (length c)) (c ++ behind) k (length_bytes k (length c))

  first_inside : k + field 0 k d ≤ length d
  first_inside =
      let l = ap length begun ∙ length-append (bytes k (length c)) (c ++ behind) in
      omega (arith, first_count, length_bytes k (length c), length-append c behind)

  first_labels : c ≡ take (field 0 k d) (drop k d)
  first_labels = sym (ap₂ (λ (j : ℕ) (l : List ℕ). take j l) first_count first_rest ∙ take_at c behind (length c) refl)

  first_behind : behind ≡ drop (field 0 k d) (drop k d)
  first_behind = sym (ap₂ (λ (j : ℕ) (l : List ℕ). drop j l) first_count first_rest ∙ drop_at c behind (length c) refl)

-- R18, V2: of the column that the bytes begin with
module _ {d : List ℕ} {alphabet : ℕ} {labels behind : List ℕ} (B : BeginsWith d alphabet labels behind) where
  -- R18: it lies inside of them
  pub begins_inside : count_size + field 0 count_size d ≤ length d
  begins_inside = first_inside count_size d labels behind B.split B.few

  -- V2: its labels
  pub begins_labels : labels ≡ take (field 0 count_size d) (drop count_size d)
  begins_labels = first_labels count_size d labels behind B.split B.few

  -- V2: what is behind it
  pub begins_behind : behind ≡ drop (field 0 count_size d) (drop count_size d)
  begins_behind = first_behind count_size d labels behind B.split B.few
