-- R16: a row repeats an earlier one exactly when some earlier row agrees with it in every component.
-- Assumes nothing.
use mathlib.Core.Path.{◌≡◌, refl, sym, ap, ◌∙◌}
use mathlib.Core.Logic.{◌↔◌}
use mathlib.Core.Bool.{Bool, true, false, not, true≢false}
use mathlib.Core.List.{List}
use Prim.Native.Nat.{ℕ, ◌<◌, ◌≤◌}
use native.Mathlib.Omega.{arith}
use lib.Dec.{eqb}
use lib.ListN.{length, get_or}
use Rattle.sets.specs.Lists.{any_of, below}
use Rattle.sets.specs.Bits.{member}
use Rattle.sets.proofs.Bools.{not_both, not_true, false_iff, iff_bool, eqb_true, eqb_false}
use Rattle.sets.proofs.Lists.{all_of_intro, all_of_elim, mem_below, some_below, any_same}
use Rattle.sets.proofs.Members.{member_zero, member_some}
use Rattle.products.specs.ProductBytes.{idle, components_in, entry, unless_idle, product_of}
use Rattle.products.specs.ProductVerdict.{same_taken, same_row}
use Rattle.rows.specs.entries.Rows.{RowsStand}
use Rattle.rows.proofs.Tests.{any_by_index}
use Rattle.rows.specs.repeats.Earlier.{AgreeOn, EarlierAgree, some_left, repeats_below}

-- two bytes give the same number, or both idle, exactly when they are equal
same_byte : (x y : ℕ) → (same_taken (unless_idle (eqb x idle) x) (unless_idle (eqb y idle) y) ≡ true) ↔ (x ≡ y)
same_byte x y = go (eqb x idle) (eqb y idle) refl refl
  where
    go : (s t : Bool) → eqb x idle ≡ s → eqb y idle ≡ t → (same_taken (unless_idle s x) (unless_idle t y) ≡ true) ↔ (x ≡ y)
    go true true p q = (λ h. (eqb_true x idle).0 p ∙ sym ((eqb_true y idle).0 q), λ e. refl)
    go true false p q = (λ h. absurd (true≢false (sym h)), λ e. absurd ((eqb_false y idle).0 q (sym e ∙ (eqb_true x idle).0 p)))
    go false true p q = (λ h. absurd (true≢false (sym h)), λ e. absurd ((eqb_false x idle).0 p (e ∙ (eqb_true y idle).0 q)))
    go false false p q = eqb_true x y

same_row_fact : (b : List ℕ) (g h : ℕ) → (same_row (product_of b) g h ≡ true) ↔ AgreeOn b (components_in b) g h
unfolding product_of
same_row_fact b g h = (
  λ e j l. (same_byte (entry b h j) (entry b g j)).0 (all_of_elim _ (below (components_in b)) e j ((mem_below (components_in b) j).1 l)),
  λ r. all_of_intro _ (below (components_in b)) (λ j k. (same_byte (entry b h j) (entry b g j)).1 (r j ((mem_below (components_in b) j).0 k))),
)

-- a repeated row is left in the sets however many components are compared
repeated_left : (b : List ℕ) (n m k : ℕ) (same : List ℕ) → RowsStand b n m → length same ≡ m → EarlierAgree b k same → k ≤ n → (g : ℕ) → g < m
    → any_of (same_row (product_of b) g) (below g) ≡ true → not (eqb (get_or same g 0) 0) ≡ true
repeated_left b n m k same s z E few g l t =
    let r = (some_below (same_row (product_of b) g) g).0 t in
    let h = r.0 in
    let a = (E.exact g h (omega arith)).1 (r.1, λ i q. (same_row_fact b g h).0 r.2 i (let e = s.n_told in omega arith)) in
    (not_true _).1 ((eqb_false (get_or same g 0) 0).1 (λ e. not_both a (ap (λ (x : ℕ). member x h) e ∙ member_zero h)))

-- none is left, and so no row is repeated
pub none_left : (b : List ℕ) (n m k : ℕ) (same : List ℕ) → RowsStand b n m → length same ≡ m → EarlierAgree b k same → k ≤ n → some_left same ≡ false
    → false ≡ repeats_below (product_of b) m
none_left b n m k same s z E few h =
    sym ((false_iff _).1 (λ t.
    let r = (some_below (λ g. any_of (same_row (product_of b) g) (below g)) m).0 t in
    let left = repeated_left b n m k same s z E few r.0 r.1 r.2 in
    let found = (some_below (λ g. not (eqb (get_or same g 0) 0)) (length same)).1 (r.0, (let l = r.1 in omega arith), left) in
    not_both (any_by_index (λ x. not (eqb x 0)) 0 same ∙ found) h))

-- all components are compared, and a row is repeated exactly where some row is left
pub repeats_told : (b : List ℕ) (n m k : ℕ) (same : List ℕ) → RowsStand b n m → length same ≡ m → EarlierAgree b k same → k ≤ n → n ≤ k
    → some_left same ≡ repeats_below (product_of b) m
repeats_told b n m k same s z E few all =
    any_by_index (λ x. not (eqb x 0)) 0 same
    ∙ ap (λ (i : ℕ). any_of (λ g. not (eqb (get_or same g 0) 0)) (below i)) z
    ∙ any_same _ _ m (λ g l. iff_bool _ _ (found g l, repeated_left b n m k same s z E few g l))
  where
    found : (g : ℕ) → g < m → not (eqb (get_or same g 0) 0) ≡ true → any_of (same_row (product_of b) g) (below g) ≡ true
    found g l t =
        let r = member_some (get_or same g 0) ((eqb_false (get_or same g 0) 0).0 ((not_true _).0 t)) in
        let a = (E.exact g r.0 (omega arith)).0 r.1 in
        let same_all = (same_row_fact b g r.0).1 (λ i q. a.1 i (let e = s.n_told in omega arith)) in
        (some_below (same_row (product_of b) g) g).1 (r.0, a.0, same_all)
