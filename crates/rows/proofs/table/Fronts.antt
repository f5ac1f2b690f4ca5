-- B8, B9: the bytes before the steps: records, then transitions; and the sheet that they are closed to.
-- Assumes nothing.
use mathlib.Core.Path.{◌≡◌, refl, sym, ap, ap₂, ◌∙◌}
use mathlib.Core.List.{List, [], ◌++◌, append-nil}
use Prim.Native.Nat.{ℕ, ◌+◌, ◌*◌, ◌<◌, ◌≤◌}
use native.Mathlib.Nat.{mul-le-mul}
use native.Mathlib.Omega.{arith}
use lib.ListN.{length, length-append}
use Rattle.sets.specs.Lists.{over}
use Rattle.sheet.specs.Bounds.{trailer_size, most_components, most_actions}
use Rattle.sheet.specs.Writing.{trailer, sheet_of}
use Rattle.writing.proofs.Sections.{StillToWrite}
use Rattle.products.specs.Product.{Product}
use Rattle.products.specs.ProductBytes.{components_in, rows_in, product_of}
use Rattle.products.specs.ProductSheet.{product_front, product_sheet}
use Rattle.rows.specs.declared.product.Part.{Part}
use Rattle.rows.specs.Reading.{ReadProduct}
use Rattle.rows.specs.table.Parts.{record_part, transition_part}
use Rattle.products.proofs.Records.{front_length}
use Rattle.products.proofs.Counts.{transitions_few}
use Rattle.products.proofs.Refusals.{left_sound}
use Rattle.rows.proofs.table.Places.{components_told, rows_told}

-- B8, B9: the sheet is as long as its front and its trailer
pub sheet_long : (P : Product) → length (product_sheet P) ≡ length (product_front P) + trailer_size
unfolding product_sheet sheet_of trailer
sheet_long P =
    let front = product_front P in
    let long = length-append front (trailer (length front) P.components P.rows) in
    omega arith

front_split : (b : List ℕ) → product_front (product_of b) ≡ record_part b ++ transition_part b
unfolding product_front
front_split b = refl

-- B9: the steps begin at a number of two bytes
pub front_short : (b : List ℕ) (l : List Part) → ReadProduct b l → length (product_front (product_of b)) < 65536
front_short b l R =
    let ok = left_sound b R.well_formed R.no_bad_row R.no_idle_component in
    let most : (product_of b).rows * (product_of b).components ≤ most_actions * most_components =
    mul-le-mul ok.range.few_rows ok.components_high in
    omega (arith, front_length (product_of b), transitions_few (product_of b) ok.range, ok.components_high)

module _ (b X : List ℕ) (room : length (product_sheet (product_of b)) ≤ length X) where
  -- B8: there is room for the records
  pub records_fit : length (record_part b) ≤ length X
  records_fit =
      let long = ap length (front_split b) ∙ length-append (record_part b) (transition_part b) in
      omega (arith, sheet_long (product_of b))

  -- B8, F4: the records stand in front, and the transitions are still to be written
  pub records_first : {X' : List ℕ} {used : ℕ} → used ≡ length (record_part b) → X' ≡ over (record_part b) X
      → StillToWrite (product_front (product_of b)) (transition_part b ++ []) X X' used
  records_first e w =
      record {
        done = record_part b;
        split = front_split b ∙ ap (λ (l : List ℕ). record_part b ++ l) (sym (append-nil (transition_part b)));
        place = e;
        written = w;
        fits = omega (arith, sheet_long (product_of b));
      }

-- B8, B9: the sheet, closed with the counts that were read
pub sheet_closed : (b : List ℕ) (n m : ℕ) → n ≡ components_in b → m ≡ rows_in b
    → sheet_of (product_front (product_of b)) n m [] ≡ product_sheet (product_of b)
unfolding product_sheet
sheet_closed b n m e f =
    ap₂ (λ (i k : ℕ). sheet_of (product_front (product_of b)) i k []) (sym (components_told b n e)) (sym (rows_told b m f))
