-- S3: the fields of a record, as they are read, and all records decoded one after another.
-- Assumes nothing.
use Rattle.std.proofs.Common.{◌≡◌, refl, sym, ap, ◌∙◌, arith, List, ℕ, ◌+◌, ◌*◌, ◌<◌, ◌≤◌, length, get_or, add-one}
use Rattle.sheet.specs.declared.Component.{Component}
use Rattle.sheet.specs.Numbers.{field}
use Rattle.sheet.specs.Layout.{states_of, initial_of, alphabet_of, tables_of}
use Rattle.sheet.specs.Sections.{base_of, no_component, Decoded}
use Rattle.sheet.proofs.Numbers.{field_one}
use Rattle.sheet.proofs.Sections.{base_same}
use Rattle.reading.specs.records.Decoding.{RecordDecoded}

-- ---- the fields of a record, as they are read

module _ (b : List ℕ) (j x : ℕ) where
  pub states_field : x ≡ get_or b (16 * j) 0 → x ≡ states_of b j
  unfolding states_of
  states_field e = e ∙ sym (field_one (16 * j) b)

  pub initial_field : x ≡ field (16 * j + 4) 4 b → x ≡ initial_of b j
  unfolding initial_of
  initial_field e = e

  pub alphabet_field : x ≡ field (16 * j + 8) 8 b → x ≡ alphabet_of b j
  unfolding alphabet_of
  alphabet_field e = e

-- ---- one record behind another

-- where the states of the next component begin
pub base_next : (b : List ℕ) (j : ℕ) → base_of (tables_of b 0 0) (j + 1) ≡ base_of (tables_of b 0 0) j + states_of b j
unfolding tables_of
base_next b j = ap (base_of (tables_of b 0 0)) (add-one j)

-- all records are those of the tables, with any number of actions
pub all_decoded : (b : List ℕ) (l : List Component) (n m : ℕ) → length l ≡ n → n ≤ 16
    → ((k : ℕ) → k < n → RecordDecoded b k (base_of (tables_of b 0 0) k) (get_or l k no_component)) → Decoded (tables_of b n m) l
unfolding tables_of
all_decoded b l n m e few told =
    record {
      count = e;
      few = omega arith;
      states_told = λ j h. (told j (omega arith)).states_decoded;
      initial_told = λ j h. (told j (omega arith)).initial_decoded;
      alphabet_told = λ j h. (told j (omega arith)).alphabet_decoded;
      base_told = λ j h. (told j (omega arith)).begins ∙ base_same (tables_of b 0 0) (tables_of b n m) j (λ i k. refl);
    }
