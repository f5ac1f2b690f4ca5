-- R15, of the rows: where a number stands, and when it is out of range.
-- Assumes nothing.
use mathlib.Core.Path.{◌≡◌, refl, ap, ◌∙◌}
use mathlib.Core.Bool.{Bool, true, false, not, ◌&&◌}
use mathlib.Core.List.{List}
use Prim.Native.Nat.{ℕ, zero, suc, ◌+◌, ◌-◌, ◌*◌, ◌≤◌, ◌<◌}
use native.Mathlib.Nat.{le_refl}
use native.Mathlib.Omega.{arith}
use lib.Dec.{leb, eqb}
use lib.ListN.{length, get_or}
use Rattle.sets.proofs.Lists.{found_below, none_found}
use Rattle.sets.specs.Lists.{any_of, below}
use Rattle.products.specs.Product.{Component}
use Rattle.products.specs.ProductBytes.{idle, components_in, rows_in, rows_at, component_at, entry, unless_idle, product_of}
use Rattle.products.specs.ProductVerdict.{number_out, column_wrong}
use Rattle.rows.specs.declared.product.Part.{Part}
use Rattle.rows.specs.Reading.{begin_at, BeginsLeft}
use Rattle.rows.specs.entries.Rows.{RowsStand}

pub entry_told : (b : List ℕ) (n m g j at : ℕ) → RowsStand b n m → at ≡ rows_at b + n * g + j → get_or b at 0 ≡ entry b g j
unfolding entry
entry_told b n m g j at s e = ap (λ (k : ℕ). get_or b k 0) (e ∙ ap (λ (k : ℕ). rows_at b + k * g + j) s.n_told)

-- ---- a number out of range

abbrev pub out_at : List ℕ → ℕ → ℕ → Bool
out_at b j g = number_out ((product_of b).component j) ((product_of b).takes g j)

out_by : (C : Component) (x : ℕ) (t : Bool) → (not t && leb C.transitions x) ≡ number_out C (unless_idle t x)
out_by C x true = refl
out_by C x false = refl

pub number_told_fact : (b : List ℕ) (g j x count : ℕ) → x ≡ entry b g j → count ≡ ((product_of b).component j).transitions
    → (not (eqb x idle) && leb count x) ≡ out_at b j g
unfolding product_of
number_told_fact b g j x count e f =
    ap (λ (k : ℕ). not (eqb x idle) && leb k x) f
    ∙ out_by ((product_of b).component j) x (eqb x idle)
    ∙ ap (λ (y : ℕ). number_out ((product_of b).component j) (unless_idle (eqb y idle) y)) e

pub column_found : (b : List ℕ) (n m j g : ℕ) → RowsStand b n m → g < m → out_at b j g ≡ true → true ≡ column_wrong (product_of b) j
unfolding product_of
column_found b n m j g s l h = found_below (out_at b j) (rows_in b) g (let e = s.m_told in omega arith) h

pub column_passed : (b : List ℕ) (n m j g : ℕ) → RowsStand b n m → m ≤ g → ((k : ℕ) → k < g → out_at b j k ≡ false)
    → false ≡ column_wrong (product_of b) j
unfolding product_of
column_passed b n m j g s l h = none_found (out_at b j) (rows_in b) g (let e = s.m_told in omega arith) h

-- ---- the components stand before the rows

pub begins_rise : (b : List ℕ) (i k : ℕ) → component_at b i ≤ component_at b (i + k)
unfolding component_at
begins_rise b i zero = let e : i + 0 ≡ i = omega arith in rw e (le_refl (component_at b i))
begins_rise b i (suc k) = let r = begins_rise b i k in let e : i + suc k ≡ suc (i + k) = omega arith in rw e (omega arith)

count_inside : (b : List ℕ) (n m j : ℕ) → RowsStand b n m → j < n → component_at b j + 3 ≤ length b
unfolding component_at rows_at
count_inside b n m j s l =
    let r = begins_rise b (suc j) (n - suc j) in
    let e : suc j + (n - suc j) ≡ components_in b = let t = s.n_told in omega arith in
    let q : component_at b (suc j + (n - suc j)) ≡ rows_at b = ap (component_at b) e in
    let f = s.length_fits in
    omega arith

-- where component j begins, read from its part, and its transition count
pub record BeginTold (b : List ℕ) (j at : ℕ) : Type 0 where
  pub inside : at + 3 ≤ length b
  pub count_told : get_or b (at + 2) 0 ≡ ((product_of b).component j).transitions

pub begin_told : (b : List ℕ) (l : List Part) (n m j at : ℕ) → RowsStand b n m → BeginsLeft b l → j < n → at ≡ begin_at l j
    → BeginTold b j at
unfolding product_of
begin_told b parts n m j at s left l e =
    let f : at ≡ component_at b j = e ∙ left.told j (let t = s.n_told in omega arith) in
    let i = count_inside b n m j s l in
    record { inside = omega arith; count_told = ap (λ (k : ℕ). get_or b (k + 2) 0) f }

pub columns_found : (b : List ℕ) (n j : ℕ) → j < n → column_wrong (product_of b) j ≡ true → true ≡ any_of (column_wrong (product_of b)) (below n)
columns_found b n j l h = found_below (column_wrong (product_of b)) n j l h

pub columns_passed : (b : List ℕ) (n j : ℕ) → n ≤ j → ((k : ℕ) → k < j → column_wrong (product_of b) k ≡ false)
    → false ≡ any_of (column_wrong (product_of b)) (below n)
columns_passed b n j l h = none_found (column_wrong (product_of b)) n j l h
