-- B9: how many transitions the sheet of a product has: one for each row and component that takes part in it.
-- Assumes nothing.
use mathlib.Core.Path.{◌≡◌, refl, sym, ap, ap₂, ◌∙◌}
use mathlib.Core.Logic.{◌⊎◌, inl, inr}
use mathlib.Core.Bool.{Bool, true, false, cond}
use mathlib.Core.List.{List, [], ◌∷◌, map, Memᴰ}
use mathlib.Core.Option.{Option, none, some}
use Prim.Native.Nat.{ℕ, zero, suc, ◌+◌, ◌*◌, ◌<◌, ◌≤◌}
use native.Mathlib.Nat.{zero-add, mul-suc, eq-or-lt_of_le}
use native.Mathlib.Omega.{arith}
use lib.Dec.{eqb}
use lib.ListN.{length, length-append}
use Rattle.sets.specs.Lists.{append_all, keep, below, upward}
use Rattle.sets.proofs.Bools.{eqb_true, eqb_false}
use Rattle.sets.proofs.Lists.{mem_below, length_below}
use Rattle.products.specs.Product.{Product}
use Rattle.products.specs.ProductSheet.{takes_part, parts_of, leaving, transitions_from, transitions_of, sheet_transitions}
use Rattle.products.proofs.Firing.{InRange}

-- the sum of f over k numbers from i on
total : (ℕ → ℕ) → ℕ → ℕ → ℕ
total f i zero = 0
total f i (suc k) = f i + total f (suc i) k

length_all : (f : ℕ → List (List ℕ)) (i k : ℕ) → length (append_all (map f (upward i k))) ≡ total (λ j. length (f j)) i k
unfolding total upward
length_all f i zero = refl
length_all f i (suc k) =
    length-append (f i) (append_all (map f (upward (suc i) k))) ∙ ap (λ (m : ℕ). length (f i) + m) (length_all f (suc i) k)

total_same : (f h : ℕ → ℕ) → ((q : ℕ) → f q ≡ h q) → (i k : ℕ) → total f i k ≡ total h i k
unfolding total
total_same f h e i zero = refl
total_same f h e i (suc k) = ap₂ (λ (a b : ℕ). a + b) (e i) (total_same f h e (suc i) k)

total_add : (f h : ℕ → ℕ) (i k : ℕ) → total (λ q. f q + h q) i k ≡ total f i k + total h i k
unfolding total
total_add f h i zero = refl
total_add f h i (suc k) = let r = total_add f h (suc i) k in omega arith

total_zero : (i k : ℕ) → total (λ q. 0) i k ≡ 0
unfolding total
total_zero i zero = refl
total_zero i (suc k) = let r = total_zero (suc i) k in omega arith

-- 1 where q is p, else 0
one_at : ℕ → ℕ → ℕ
one_at p q = cond (eqb p q) 1 0

total_none : (p i k : ℕ) → p < i → total (one_at p) i k ≡ 0
unfolding total one_at
total_none p i zero h = refl
total_none p i (suc k) h =
    let r = total_none p (suc i) k (omega arith) in
    rw ((eqb_false p i).1 (λ e. omega arith)) (zero-add (total (one_at p) (suc i) k) ∙ r)

total_one : (p i k : ℕ) → i ≤ p → p < i + k → total (one_at p) i k ≡ 1
unfolding total one_at
total_one p i zero a b = absurd (omega arith)
total_one p i (suc k) a b = go (eq-or-lt_of_le a) (λ l. total_one p (suc i) k l (omega arith))
  where
    go : (i ≡ p) ⊎ (i < p) → (suc i ≤ p → total (one_at p) (suc i) k ≡ 1) → cond (eqb p i) 1 0 + total (one_at p) (suc i) k ≡ 1
    go (inl e) rest = rw ((eqb_true p i).1 (sym e)) (ap (λ (m : ℕ). 1 + m) (total_none p (suc i) k (omega arith)))
    go (inr l) rest = rw ((eqb_false p i).1 (λ e. omega arith)) (zero-add (total (one_at p) (suc i) k) ∙ rest l)

module _ (P : Product) (j : ℕ) (states : ℕ) where
  -- how many transitions row g gives the component
  single : (g : ℕ) (o : Option ℕ) → ((t : ℕ) → o ≡ some t → (P.component j).source t < states)
      → total (λ q. length (leaving (P.component j) j q g o)) 0 states ≡ length (keep (takes_part o) g [])
  unfolding total one_at
  single g none h = total_zero 0 states
  single g (some t) h = total_same (λ q. length (leaving (P.component j) j q g (some t))) (one_at ((P.component j).source t)) one 0 states
      ∙ total_one ((P.component j).source t) 0 states (omega arith) (omega (arith, h t refl))
    where
      one : (q : ℕ) → length (leaving (P.component j) j q g (some t)) ≡ one_at ((P.component j).source t) q
      one q = go (eqb ((P.component j).source t) q)
        where
          go : (b : Bool) → length (cond b ((j ∷ q ∷ g ∷ (P.component j).target t ∷ []) ∷ []) []) ≡ cond b 1 0
          go true = refl
          go false = refl

  all_singles : (gs : List ℕ) → ((g t : ℕ) → Memᴰ g gs → P.takes g j ≡ some t → (P.component j).source t < states)
      → total (λ q. length (append_all (map (λ g. leaving (P.component j) j q g (P.takes g j)) gs))) 0 states ≡ length (parts_of P j gs)
  all_singles [] h = total_zero 0 states
  all_singles (g ∷ gs) h =
      total_same _
      (λ q. length (leaving (P.component j) j q g (P.takes g j)) + length (append_all (map (λ k. leaving (P.component j) j q k (P.takes k j)) gs)))
      (λ q. length-append (leaving (P.component j) j q g (P.takes g j)) (append_all (map (λ k. leaving (P.component j) j q k (P.takes k j)) gs))) 0
      states
      ∙ total_add (λ q. length (leaving (P.component j) j q g (P.takes g j)))
      (λ q. length (append_all (map (λ k. leaving (P.component j) j q k (P.takes k j)) gs))) 0 states
      ∙ ap₂ (λ (a b : ℕ). a + b) (single g (P.takes g j) (λ t e. h g t (Memᴰ.head refl) e))
      (all_singles gs (λ k t m e. h k t (Memᴰ.tail m) e))
      ∙ sym (go (takes_part (P.takes g j)))
    where
      go : (b : Bool) → length (keep b g (parts_of P j gs)) ≡ length (keep b g []) + length (parts_of P j gs)
      go true = omega arith
      go false = sym (zero-add (length (parts_of P j gs)))

module _ (P : Product) (ok : InRange P) where
  -- the transitions of component j are as many as the rows in which it takes part
  pub transitions_count : (j : ℕ) → j < P.components → length (transitions_of P j) ≡ length (parts_of P j (below P.rows))
  unfolding transitions_of transitions_from below
  transitions_count j l =
      length_all (transitions_from P j) 0 (P.component j).states
      ∙ all_singles P j (P.component j).states (below P.rows)
      (λ g t m e. (ok.components j l).source_below t (ok.numbers g j t ((mem_below P.rows g).0 m) l e))

parts_few : (P : Product) (j : ℕ) (gs : List ℕ) → length (parts_of P j gs) ≤ length gs
parts_few P j [] = omega arith
parts_few P j (g ∷ gs) = go (takes_part (P.takes g j)) (parts_few P j gs)
  where
    go : (b : Bool) → length (parts_of P j gs) ≤ length gs → length (keep b g (parts_of P j gs)) ≤ suc (length gs)
    go true h = omega arith
    go false h = omega arith

total_at_most : (f : ℕ → ℕ) (most : ℕ) (i k : ℕ) → ((j : ℕ) → j < i + k → f j ≤ most) → total f i k ≤ most * k
unfolding total
total_at_most f most i zero h = omega arith
total_at_most f most i (suc k) h =
    let r = total_at_most f most (suc i) k (λ j l. h j (omega arith)) in
    let first = h i (omega arith) in
    omega (arith, mul-suc most k)

pub transitions_few : (P : Product) → InRange P → length (sheet_transitions P) ≤ P.rows * P.components
unfolding sheet_transitions below
transitions_few P ok =
    rw (length_all (transitions_of P) 0 P.components)
    (total_at_most (λ j. length (transitions_of P j)) P.rows 0 P.components
    (λ j l.
    let c = transitions_count P ok j (omega arith) in
    let few = parts_few P j (below P.rows) in
    let rows = length_below P.rows in
    omega arith))
