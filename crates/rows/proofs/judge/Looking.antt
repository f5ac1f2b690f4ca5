-- R15, looked at over all bytes: the counts, the components, the length, the numbers of the rows.
-- Assumes nothing.
use mathlib.Core.Path.{◌≡◌, refl, sym, ap, ap₂, ◌∙◌}
use mathlib.Core.Logic.{◌↔◌, ◌≢◌, ◌⊎◌, inl, inr}
use mathlib.Core.Bool.{Bool, true, false, false≢true, ◌||◌}
use mathlib.Core.List.{List}
use mathlib.Core.Option.{Option, none, some}
use Prim.Native.Nat.{ℕ, suc, ◌+◌, ◌-◌, ◌*◌, ◌<◌, ◌≤◌}
use native.Mathlib.Omega.{arith}
use lib.Dec.{eqb, ltb}
use lib.ListN.{length, get_or}
use Rattle.sets.specs.Lists.{any_of, below}
use Rattle.sets.proofs.Bools.{true_or_false, or_false, eqb_false, ltb_false, leb_true, leb_false}
use Rattle.sets.proofs.Lists.{any_of_false, mem_below, some_below}
use Rattle.products.specs.Product.{Component}
use Rattle.products.specs.ProductBytes.{components_in, rows_in, component_at, rows_at, product_of}
use Rattle.products.specs.ProductRefusals.{WellFormed}
use Rattle.products.specs.ProductVerdict.{number_out, column_wrong, malformed}
use Rattle.rows.specs.declared.product.Part.{Part}
use Rattle.rows.specs.Reading.{BeginsLeft}
use Rattle.rows.specs.components.Reading.{Stands, AllRead}
use Rattle.rows.specs.entries.Rows.{RowsStand}
use Rattle.rows.specs.judge.Judging.{CountsFit}
use Rattle.products.proofs.Refusals.{malformed_exact}
use Rattle.rows.proofs.entries.Columns.{begins_rise}

-- ---- the counts

abbrev counts_out : ℕ → ℕ → Bool
counts_out n m = ((eqb n 0 || ltb 16 n) || eqb m 0) || ltb 64 m

pub counts_told : (b : List ℕ) (n m : ℕ) → n ≡ components_in b → m ≡ rows_in b → 2 ≤ length b → (counts_out n m ≡ false) ↔ CountsFit b
counts_told b n m e f l = (
  λ h.
      let rows_high = (or_false _ _).0 h in
      let rows_low = (or_false _ _).0 rows_high.0 in
      let components = (or_false _ _).0 rows_low.0 in
      record {
        both = l;
        components_low = let z = (eqb_false n 0).0 components.0 in omega arith;
        components_high = let z = (ltb_false 16 n).0 components.1 in omega arith;
        rows_low = let z = (eqb_false m 0).0 rows_low.1 in omega arith;
        rows_high = let z = (ltb_false 64 m).0 rows_high.1 in omega arith;
      },
  λ g.
      let n_low = g.components_low in
      let n_high = g.components_high in
      let m_low = g.rows_low in
      let m_high = g.rows_high in
      (or_false _ _).1 (
        (or_false _ _).1 (
          (or_false _ _).1 ((eqb_false n 0).1 (λ q. omega arith), (ltb_false 16 n).1 (omega arith)),
          (eqb_false m 0).1 (λ q. omega arith),
        ),
        (ltb_false 64 m).1 (omega arith),
      ),
)

pub n_read : (b : List ℕ) (n : ℕ) → n ≡ get_or b 0 0 → n ≡ components_in b
unfolding components_in
n_read b n e = e

pub m_read : (b : List ℕ) (m : ℕ) → m ≡ get_or b 1 0 → m ≡ rows_in b
unfolding rows_in
m_read b m e = e

-- ---- what is well_formed passes each look

ill_formed : (b : List ℕ) → ¬ WellFormed b → malformed b ≡ true
ill_formed b h = go (true_or_false (malformed b))
  where
    go : (malformed b ≡ true) ⊎ (malformed b ≡ false) → malformed b ≡ true
    go (inl e) = e
    go (inr e) = absurd (h ((malformed_exact b).0 e))

components_before : (b : List ℕ) → WellFormed b → (j : ℕ) → j ≤ components_in b → component_at b j ≤ length b
unfolding rows_at
components_before b w j l =
    let r = begins_rise b j (components_in b - j) in
    let e : j + (components_in b - j) ≡ components_in b = omega arith in
    let q : component_at b (j + (components_in b - j)) ≡ component_at b (components_in b) = ap (component_at b) e in
    let f = w.length_fits in
    omega arith

pub fitting_counts : (b : List ℕ) → WellFormed b → CountsFit b
unfolding component_at
fitting_counts b w =
    record {
      both = components_before b w 0 (omega arith);
      components_low = w.components_low;
      components_high = w.components_high;
      rows_low = w.rows_low;
      rows_high = w.rows_high;
    }

standing : (b : List ℕ) → WellFormed b → (j : ℕ) → j < components_in b → Stands b (component_at b j)
unfolding component_at product_of
standing b w j l = record { inside = let i = components_before b w (suc j) l in omega arith; in_range = w.components j l }

pub counts_refuse : (b : List ℕ) → ¬ CountsFit b → malformed b ≡ true
counts_refuse b h = ill_formed b (λ w. h (fitting_counts b w))

-- a number out of range
out_number : (C : Component) (o : Option ℕ) → number_out C o ≡ true → (t : ℕ) × (o ≡ some t) × (C.transitions ≤ t)
out_number C none h = absurd (false≢true h)
out_number C (some t) h = (t, refl, (leb_true C.transitions t).0 h)

-- the counts passed, and there is a part for each component
pub record Read (b : List ℕ) (l : List Part) (n m : ℕ) : Type 0 where
  pub fit : CountsFit b
  pub size : length l ≡ n
  pub n_told : n ≡ components_in b
  pub m_told : m ≡ rows_in b

pub read_by : (b : List ℕ) (l : List Part) (n m : ℕ) → length l ≡ n → CountsFit b × (n ≡ components_in b) × (m ≡ rows_in b) → Read b l n m
read_by b l n m e f = record { fit = f.0; size = e; n_told = f.1; m_told = f.2 }

pub components_refuse : {b : List ℕ} {l : List Part} {n m : ℕ} → Read b l n m
    → (j : ℕ) × (j < length l) × (¬ Stands b (component_at b j)) → malformed b ≡ true
components_refuse {b} {l} {n} {m} R out =
    ill_formed b (λ w. out.2 (standing b w out.0 (let h = out.1 in let q = R.n_told in let z = R.size in omega arith)))

-- the components were looked at, and stand
module _ {b : List ℕ} {l : List Part} {n m end : ℕ} (R : Read b l n m) (A : AllRead b l end) where
  pub end_inside : end ≤ length b
  unfolding component_at
  end_inside =
      let low = R.fit.components_low in
      let told = R.n_told in
      let long = R.size in
      let last = (A.all_stand (n - 1) (omega arith)).inside in
      let e : length l ≡ suc (n - 1) = omega arith in
      let q : end ≡ component_at b (suc (n - 1)) = A.end_told ∙ ap (component_at b) e in
      omega arith

  rows_begin : rows_at b ≡ end
  unfolding rows_at
  rows_begin = ap (component_at b) (sym (R.size ∙ R.n_told)) ∙ sym A.end_told

  pub length_refuse : length b - end ≢ n * m → malformed b ≡ true
  length_refuse h =
      ill_formed b (λ w.
      h
      (let long = w.length_fits in
      let at = rows_begin in
      let same : components_in b * rows_in b ≡ n * m = sym (ap₂ (λ (x y : ℕ). x * y) R.n_told R.m_told) in
      omega arith))

  pub rows_stand : length b - end ≡ n * m → RowsStand b n m
  rows_stand e =
      record {
        n_told = R.n_told;
        m_told = R.m_told;
        few_components = let h = R.fit.components_high in let q = R.n_told in omega arith;
        few_rows = let h = R.fit.rows_high in let q = R.m_told in omega arith;
        length_fits = let at = rows_begin in let i = end_inside in omega arith;
      }

  pub begins_left : BeginsLeft b l
  begins_left =
      record { size = R.size ∙ R.n_told; told = λ j h. A.begins_told j (let q = R.n_told in let z = R.size in omega arith) }

  numbers_right : (j : ℕ) → column_wrong (product_of b) j ≡ false → (g t : ℕ) → g < rows_in b → (product_of b).takes g j ≡ some t
      → t < ((product_of b).component j).transitions
  unfolding product_of
  numbers_right j h g t l e =
      let C = (product_of b).component j in
      let right = any_of_false (λ i. number_out C ((product_of b).takes i j)) (below (rows_in b)) h ((mem_below (rows_in b) g).1 l) in
      (leb_false C.transitions t).0 (sym (ap (number_out C) e) ∙ right)

  pub numbers_pass : length b - end ≡ n * m → any_of (column_wrong (product_of b)) (below n) ≡ false → malformed b ≡ false
  unfolding product_of
  numbers_pass e right =
      (malformed_exact b).1
      (record {
        components_low = R.fit.components_low;
        components_high = R.fit.components_high;
        rows_low = R.fit.rows_low;
        rows_high = R.fit.rows_high;
        length_fits = (rows_stand e).length_fits ∙ ap₂ (λ (x y : ℕ). rows_at b + x * y) R.n_told R.m_told;
        components = λ j l. (A.all_stand j (let q = R.n_told in let z = R.size in omega arith)).in_range;
        numbers = λ g j t l k q.
            let there : j < n = let o = R.n_told in omega arith in
            numbers_right j (any_of_false (column_wrong (product_of b)) (below n) right ((mem_below n j).1 there)) g t l q;
      })

  pub numbers_refuse : any_of (column_wrong (product_of b)) (below n) ≡ true → malformed b ≡ true
  unfolding product_of
  numbers_refuse h =
      let column = (some_below (column_wrong (product_of b)) n).0 h in
      let j = column.0 in
      let C = (product_of b).component j in
      let row = (some_below (λ g. number_out C ((product_of b).takes g j)) (rows_in b)).0 column.2 in
      let out = out_number C ((product_of b).takes row.0 j) row.2 in
      let inside : j < components_in b = let k = column.1 in let q = R.n_told in omega arith in
      ill_formed b (λ w. let l = w.numbers row.0 j out.0 row.1 inside out.1 in let k = out.2 in omega arith)
