-- B8, B9: the places of a product that was read: each component and each of its numbers in the rows stands within the bytes.
-- Assumes nothing.
use mathlib.Core.Path.{◌≡◌, refl, sym, ap, ap₂, ◌∙◌, subst}
use mathlib.Core.Bool.{Bool, true, false}
use mathlib.Core.List.{List, ◌++◌}
use mathlib.Core.Option.{some, none-ne-some}
use Prim.Native.Nat.{ℕ, zero, suc, ◌+◌, ◌-◌, ◌*◌, ◌<◌, ◌≤◌}
use native.Mathlib.Omega.{arith}
use lib.Dec.{eqb}
use lib.ListN.{length, get_or}
use Rattle.sets.specs.Bits.{member, with}
use Rattle.sheet.specs.Bounds.{most_actions, most_states}
use Rattle.sheet.specs.Numbers.{bytes}
use Rattle.rows.specs.declared.product.Part.{Part}
use Rattle.products.specs.ProductBytes.{components_in, rows_in, component_at, rows_at, idle, entry, unless_idle, product_of}
use Rattle.products.specs.ProductRefusals.{WellFormed}
use Rattle.products.specs.ProductSheet.{alphabet, record_bytes}
use Rattle.rows.specs.Reading.{no_part, ReadProduct, ColumnOf}
use Rattle.rows.specs.entries.Rows.{RowsStand}
use Rattle.rows.specs.table.Columns.{TransitionAt}
use Rattle.rows.proofs.table.Upward.{left_from, left_next}
use Rattle.products.proofs.Alphabets.{alphabet_rows}
use Rattle.products.proofs.Refusals.{malformed_exact}

-- ---- the components (B8, B9)

later : (b : List ℕ) (j d : ℕ) → component_at b j ≤ component_at b (j + d)
unfolding component_at
later b j zero = let e : j ≡ j + 0 = omega arith in subst (λ (k : ℕ). component_at b j ≤ component_at b k) e (omega arith)
later b j (suc d) =
    let e : suc (j + d) ≡ j + suc d = omega arith in
    subst (λ (k : ℕ). component_at b j ≤ component_at b k) e (omega (arith, later b j d))

next_component : (b : List ℕ) (j : ℕ) → component_at b (suc j) ≡ component_at b j + 3 + 2 * get_or b (component_at b j + 2) 0
unfolding component_at
next_component b j = refl

-- a component ends before the rows begin
component_inside : (b : List ℕ) (j : ℕ) → j < components_in b → component_at b j + 3 + 2 * get_or b (component_at b j + 2) 0 ≤ rows_at b
unfolding rows_at
component_inside b j h =
    let d = components_in b - suc j in
    let e : suc j + d ≡ components_in b = omega arith in
    subst (λ (k : ℕ). component_at b j + 3 + 2 * get_or b (component_at b j + 2) 0 ≤ component_at b k) e
    (omega (arith, later b (suc j) d, next_component b j))

-- ---- the counts (B8, B9)

pub components_told : (b : List ℕ) (n : ℕ) → n ≡ components_in b → (product_of b).components ≡ n
unfolding product_of
components_told b n e = sym e

pub rows_told : (b : List ℕ) (m : ℕ) → m ≡ rows_in b → (product_of b).rows ≡ m
unfolding product_of
rows_told b m e = sym e

pub rows_few : (b : List ℕ) (n m : ℕ) → RowsStand b n m → (product_of b).rows ≤ most_actions
unfolding product_of
rows_few b n m s = let e = s.m_told in let f = s.few_rows in omega arith

-- ---- a component and its numbers in the rows (B9)

-- what is not idle is the number itself
number_taken : (e : ℕ) (b : Bool) {t : ℕ} → unless_idle b e ≡ some t → unless_idle b e ≡ some e
number_taken e true {t} h = absurd (none-ne-some t h)
number_taken e false h = refl

-- a component of a product that was read
pub column_told : (b : List ℕ) (l : List Part) → ReadProduct b l → (j : ℕ) → j < length l → ColumnOf b j (get_or l j no_part)
column_told b l R j h =
    let low : j < components_in b = let s = R.begins_left.size in omega arith in
    record {
      well_formed = R.well_formed;
      component_below = low;
      begin_told = R.begins_left.told j low;
      alphabet_told = R.alphabets_left.told j low;
    }

module _ {b : List ℕ} {j : ℕ} {p : Part} (C : ColumnOf b j p) where
  formed : WellFormed b
  formed = (malformed_exact b).0 C.well_formed

  -- the bytes that its record is written from stand in the product
  pub record_inside : p.begin + 3 ≤ length b
  record_inside = let e = C.begin_told in omega (arith, component_inside b j C.component_below, formed.length_fits)

  pub initial_few : get_or b (p.begin + 1) 0 < most_states
  unfolding product_of
  initial_few =
      let range = formed.components j C.component_below in
      rw C.begin_told (omega (arith, range.initial_below, range.states_high))

  -- its states, by its first byte
  pub states_there : get_or b p.begin 0 ≡ ((product_of b).component j).states
  unfolding product_of
  states_there = ap (λ (k : ℕ). get_or b k 0) C.begin_told

  pub states_few : ((product_of b).component j).states ≤ most_states
  states_few = (formed.components j C.component_below).states_high

  -- B8: its record, from the product's bytes; x is the set of its initial state
  abbrev pub record_by : ℕ → List ℕ
  record_by x = bytes 1 (get_or b p.begin 0) ++ (bytes 3 0 ++ (bytes 4 x ++ bytes 8 p.alphabet))

  record_told : record_by (with (get_or b (p.begin + 1) 0) 0) ≡ record_bytes (product_of b) j
  unfolding record_bytes product_of
  record_told =
      ap₂ (λ (k x : ℕ). bytes 1 (get_or b k 0) ++ (bytes 3 0 ++ (bytes 4 (with (get_or b (k + 1) 0) 0) ++ bytes 8 x)))
      C.begin_told C.alphabet_told

  -- what is to be written from component j on
  pub record_next : (x : ℕ) → x ≡ with (get_or b (p.begin + 1) 0) 0
      → left_from (record_bytes (product_of b)) (product_of b).components j
      ≡ record_by x ++ left_from (record_bytes (product_of b)) (product_of b).components (j + 1)
  record_next x e =
      let f = record_bytes (product_of b) in
      let n = (product_of b).components in
      let k : n ≡ components_in b = components_told b (components_in b) refl in
      let low = C.component_below in
      left_next f n j (omega arith)
      ∙ ap (λ (t : List ℕ). t ++ left_from f n (j + 1)) (sym (ap record_by e ∙ record_told))

  module _ (g : ℕ) (part : member (alphabet (product_of b) j) g ≡ true) where
    pub row_below : g < rows_in b
    unfolding product_of
    row_below = ((alphabet_rows (product_of b) j g).0 part).0

    taken : (product_of b).takes g j ≡ some (entry b g j)
    unfolding product_of
    taken = number_taken (entry b g j) (eqb (entry b g j) idle) ((alphabet_rows (product_of b) j g).0 part).1.1

    -- the transition that its number in row g names stands in its bytes
    pub transition_there : (x at : ℕ) → x ≡ entry b g j → at ≡ p.begin + 3 + 2 * x → TransitionAt b j g at
    unfolding product_of
    transition_there x at e f =
        let w = formed in
        let t = entry b g j in
        let begin = C.begin_told in
        let few = w.numbers g j t row_below C.component_below taken in
        let range = w.components j C.component_below in
        let place : at ≡ component_at b j + 3 + 2 * t = omega arith in
        let next : at + 1 ≡ component_at b j + 4 + 2 * t = omega arith in
        let low = range.source_below t few in
        record {
          transition = t;
          taken = taken;
          inside = omega (arith, component_inside b j C.component_below, w.length_fits);
          source_told = ap (λ (k : ℕ). get_or b k 0) place;
          target_told = ap (λ (k : ℕ). get_or b k 0) next;
          source_few = rw (ap (λ (k : ℕ). get_or b k 0) place) (omega (arith, range.states_high));
        }
