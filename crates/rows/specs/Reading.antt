-- A product that was read and not refused, with what the reader found (R15, R16, R17): where each component begins, each alphabet,
-- and the sizes of the sheet that it becomes (B7 to B9).
-- Assumes nothing.
use Rattle.std.specs.Prelude.{◌≡◌, false, List, ℕ, ◌*◌, ◌<◌, length, get_or}
use Rattle.sheet.specs.Bounds.{record_size}
use Rattle.answers.specs.declared.Sizes.{Sizes}
use Rattle.rows.specs.declared.product.Part.{Part}
use Rattle.products.specs.ProductBytes.{components_in, rows_in, component_at, product_of}
use Rattle.products.specs.ProductSheet.{alphabet, product_front}
use Rattle.products.specs.ProductVerdict.{malformed, bad_row, idle_component}

-- R15, B7: what a list of parts has behind its end
abbrev pub no_part : Part
no_part = record { begin = 0; alphabet = 0 }

-- R15: where the bytes of component j begin, by the parts
abbrev pub begin_at : List Part → ℕ → ℕ
begin_at l j = (get_or l j no_part).begin

-- B7: its alphabet
abbrev pub alphabet_at : List Part → ℕ → ℕ
alphabet_at l j = (get_or l j no_part).alphabet

-- R15: there is a part for each component, and it has where the component begins
pub record BeginsLeft (b : List ℕ) (l : List Part) : Type 0 where
  pub size : length l ≡ components_in b
  pub told : (j : ℕ) → j < components_in b → begin_at l j ≡ component_at b j

-- B7: and its alphabet
pub record AlphabetsLeft (b : List ℕ) (l : List Part) : Type 0 where
  pub size : length l ≡ components_in b
  pub told : (j : ℕ) → j < components_in b → alphabet_at l j ≡ alphabet (product_of b) j

-- R15, R16, R17: none of 15, 16 and 17 holds, and the parts are those of the components
pub record ReadProduct (b : List ℕ) (l : List Part) : Type 0 where
  pub well_formed : malformed b ≡ false
  pub no_bad_row : bad_row (product_of b) ≡ false
  pub no_idle_component : idle_component (product_of b) ≡ false
  pub begins_left : BeginsLeft b l
  pub alphabets_left : AlphabetsLeft b l

-- B8, B9: the sizes are those of the sheet
pub record SheetSizes (b : List ℕ) (z : Sizes) : Type 0 where
  pub n_told : z.n ≡ components_in b
  pub m_told : z.m ≡ rows_in b
  pub t_told : z.t ≡ record_size * components_in b
  pub s_told : z.s ≡ length (product_front (product_of b))

-- B8, B9: the part is that of component j of a product that is not malformed
pub record ColumnOf (b : List ℕ) (j : ℕ) (p : Part) : Type 0 where
  pub well_formed : malformed b ≡ false
  pub component_below : j < components_in b
  pub begin_told : p.begin ≡ component_at b j
  pub alphabet_told : p.alphabet ≡ alphabet (product_of b) j
