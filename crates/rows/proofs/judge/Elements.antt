-- B9: the sheet has one transition for each element of each alphabet.
-- Assumes nothing.
use mathlib.Core.Path.{◌≡◌, refl, sym, ap, ap₂, ◌∙◌}
use mathlib.Core.Bool.{Bool, true, false}
use mathlib.Core.List.{List, [], ◌∷◌, ◌++◌, map, map-append, append-nil, Memᴰ}
use Prim.Native.Nat.{ℕ, zero, suc, ◌+◌, ◌≤◌}
use native.Mathlib.Omega.{arith}
use lib.ListN.{length, length-append}
use Rattle.sets.specs.Lists.{append_all, keep, upward, below, RisingAbove, Rising}
use Rattle.sets.specs.Bits.{members}
use Rattle.sets.proofs.Lists.{mem_below, above_rising, below_last, append_all_append}
use Rattle.sets.proofs.Members.{set_of_member, members_set_of}
use Rattle.products.specs.Product.{Product}
use Rattle.products.specs.ProductBytes.{components_in, product_of}
use Rattle.products.specs.ProductSheet.{takes_part, parts_of, alphabet, transitions_of, sheet_transitions}
use Rattle.rows.specs.declared.product.Part.{Part}
use Rattle.rows.specs.Reading.{alphabet_at, AlphabetsLeft}
use Rattle.rows.specs.judge.Judging.{elements_of}
use Rattle.products.proofs.Alphabets.{alphabet_rows}
use Rattle.products.proofs.Firing.{InRange}
use Rattle.products.proofs.Counts.{transitions_count}

module _ {A B : Type 0} where
  -- lists joined from parts of the same lengths
  same_lengths : (f : ℕ → List A) (h : ℕ → List B) (js : List ℕ) → ((j : ℕ) → Memᴰ j js → length (f j) ≡ length (h j))
      → length (append_all (map f js)) ≡ length (append_all (map h js))
  same_lengths f h [] e = refl
  same_lengths f h (j ∷ js) e =
      length-append (f j) (append_all (map f js))
      ∙ ap₂ (λ (x y : ℕ). x + y) (e j (Memᴰ.head refl)) (same_lengths f h js (λ i m. e i (Memᴰ.tail m)))
      ∙ sym (length-append (h j) (append_all (map h js)))

module _ (P : Product) (j : ℕ) where
  -- the rows of a rising list in which the component takes part rise
  parts_above : (i : ℕ) (gs : List ℕ) → RisingAbove i gs → RisingAbove i (parts_of P j gs)
  parts_above i [] r = tt
  parts_above i (g ∷ gs) r = go (takes_part (P.takes g j)) (parts_above g gs r.1)
    where
      wider : (l : List ℕ) → RisingAbove g l → RisingAbove i l
      wider [] s = tt
      wider (x ∷ l) s = (let a = s.0 in let h = r.0 in omega arith, s.1)

      go : (t : Bool) → RisingAbove g (parts_of P j gs) → RisingAbove i (keep t g (parts_of P j gs))
      go true s = (r.0, s)
      go false s = wider (parts_of P j gs) s

  upward_above : (i k : ℕ) → RisingAbove i (upward (suc i) k)
  unfolding upward
  upward_above i zero = tt
  upward_above i (suc k) = (omega arith, upward_above (suc i) k)

  parts_rising : (m : ℕ) → Rising (parts_of P j (below m))
  unfolding below upward
  parts_rising zero = tt
  parts_rising (suc m) = go (takes_part (P.takes 0 j)) (parts_above 0 (upward 1 m) (upward_above 0 m))
    where
      go : (t : Bool) → RisingAbove 0 (parts_of P j (upward 1 m)) → Rising (keep t 0 (parts_of P j (upward 1 m)))
      go true s = s
      go false s = above_rising 0 (parts_of P j (upward 1 m)) s

  alphabet_members : P.rows ≤ 64 → members (alphabet P j) ≡ parts_of P j (below P.rows)
  unfolding alphabet
  alphabet_members few =
      members_set_of (parts_of P j (below P.rows)) (parts_rising P.rows)
      (λ g m. let l = ((alphabet_rows P j g).0 ((set_of_member (parts_of P j (below P.rows)) g).1 m)).0 in omega arith)

-- B9: as many as the sheet has transitions
pub elements_counted : (b : List ℕ) (l : List Part) → InRange (product_of b) → AlphabetsLeft b l
    → length (elements_of l) ≡ length (sheet_transitions (product_of b))
unfolding sheet_transitions product_of
elements_counted b l ok A =
    ap (λ (k : ℕ). length (append_all (map (λ j. members (alphabet_at l j)) (below k)))) A.size
    ∙ same_lengths (λ j. members (alphabet_at l j)) (transitions_of (product_of b)) (below (components_in b))
    (λ j m.
    let h = (mem_below (components_in b) j).0 m in
    ap (λ (x : ℕ). length (members x)) (A.told j h)
    ∙ ap length (alphabet_members (product_of b) j ok.few_rows)
    ∙ sym (transitions_count (product_of b) ok j h))

-- ---- counted one alphabet after another

-- the elements of the first n alphabets
abbrev pub elements_below : List Part → ℕ → List ℕ
elements_below l n = append_all (map (λ j. members (alphabet_at l j)) (below n))

joined_last : (f : ℕ → List ℕ) (j : ℕ) → append_all (map f (below (j + 1))) ≡ append_all (map f (below j)) ++ f j
joined_last f j =
    ap (λ (l : List ℕ). append_all (map f l)) (below_last j)
    ∙ ap append_all (map-append f (below j) (j ∷ []))
    ∙ append_all_append (map f (below j)) (f j ∷ [])
    ∙ ap (λ (r : List ℕ). append_all (map f (below j)) ++ r) (append-nil (f j))

pub count_none : (l : List Part) → 0 ≡ length (elements_below l 0)
unfolding below upward
count_none l = refl

pub count_more : (l : List Part) (j sum more : ℕ) → sum ≡ length (elements_below l j) → more ≡ length (members (alphabet_at l j))
    → sum + more ≡ length (elements_below l (j + 1))
count_more l j sum more e f =
    ap₂ (λ (x y : ℕ). x + y) e f
    ∙ sym (length-append (elements_below l j) (members (alphabet_at l j)))
    ∙ ap length (sym (joined_last (λ i. members (alphabet_at l i)) j))
