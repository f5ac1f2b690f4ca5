-- B9: the transitions that leave a state are those of the rows of a set, rising; and the table of these sets, filled row by row.
-- Assumes nothing.
use mathlib.Core.Path.{◌≡◌, refl, sym, ap, ap₂, ◌∙◌, subst}
use mathlib.Core.Logic.{◌↔◌, ◌⊎◌, inl, inr}
use mathlib.Core.Bool.{Bool, true, false, cond, ◌||◌}
use mathlib.Core.List.{List, [], ◌∷◌, ◌++◌, map}
use mathlib.Core.Option.{Option, none, some, none-ne-some, some-injective}
use Prim.Native.Nat.{ℕ, zero, suc, ◌+◌, ◌<◌, ◌≤◌, zero-le}
use native.Mathlib.Omega.{arith}
use lib.Dec.{eqb}
use lib.ListN.{length, get_or, set, replicate, length-set, length-replicate, get_or-replicate}
use lib.Seq.{get_or-set_same, get_or-set_other}
use Rattle.sets.specs.Lists.{append_all, keep, below, upward}
use Rattle.sets.specs.Bits.{member, members_from, members, with}
use Rattle.sets.specs.Walk.{Takes}
use Rattle.sets.proofs.Bools.{true_or_false, not_both, iff_bool, false_iff, or_true, eqb_true, eqb_false}
use Rattle.sets.proofs.Lists.{rising_same, append_all_append}
use Rattle.sets.proofs.Members.{members_from_mem, members_from_rising, members_mem, members_rising, member_with, member_zero}
use Rattle.sets.proofs.Walks.{taken_or_left}
use Rattle.sheet.specs.Bounds.{most_states}
use Rattle.products.specs.Product.{Component, Product}
use Rattle.products.specs.ProductBytes.{product_of}
use Rattle.products.specs.ProductSheet.{alphabet, leaving, transitions_from, transitions_of, sheet_transitions}
use Rattle.rows.specs.table.Columns.{Leaves, LeavingSet, LeavingRows, TransitionAt}
use Rattle.products.proofs.Alphabets.{alphabet_rows}

-- ---- the transitions of the rows of a set

abbrev target_by : Component → Option ℕ → ℕ
target_by C none = 0
target_by C (some t) = C.target t

-- the transition of row g, where it leaves the state q
abbrev pub row_transition : Product → ℕ → ℕ → ℕ → List ℕ
row_transition P j q g = j ∷ q ∷ g ∷ target_by (P.component j) (P.takes g j) ∷ []

module _ (P : Product) (j q x : ℕ) (told : (g : ℕ) → (member x g ≡ true) ↔ Leaves P j q g) where
  one_row : (g : ℕ) → g < P.rows → leaving (P.component j) j q g (P.takes g j) ≡ cond (member x g) (row_transition P j q g ∷ []) []
  one_row g l = go (P.takes g j) refl
    where
      go : (o : Option ℕ) → P.takes g j ≡ o
          → leaving (P.component j) j q g o ≡ cond (member x g) ((j ∷ q ∷ g ∷ target_by (P.component j) o ∷ []) ∷ []) []
      go none e =
          ap (λ (a : Bool). cond a ((j ∷ q ∷ g ∷ 0 ∷ []) ∷ []) [])
          (sym ((false_iff (member x g)).1 (λ m. let r = ((told g).0 m).1 in none-ne-some r.0 (sym e ∙ r.1))))
      go (some t) e =
          ap (λ (a : Bool). cond a ((j ∷ q ∷ g ∷ (P.component j).target t ∷ []) ∷ []) [])
          (iff_bool (eqb ((P.component j).source t) q) (member x g) (
            λ h. (told g).1 (l, (t, e, (eqb_true ((P.component j).source t) q).0 h)),
            λ m.
                let r = ((told g).0 m).1 in
                let same = some-injective t r.0 (sym e ∙ r.1) in
                (eqb_true ((P.component j).source t) q).1 (ap (P.component j).source same ∙ r.2),
          ))

  rows_upward : (i k : ℕ) → i + k ≤ P.rows
      → append_all (map (λ g. leaving (P.component j) j q g (P.takes g j)) (upward i k)) ≡ map (row_transition P j q) (members_from i k x)
  unfolding upward members_from
  rows_upward i zero h = refl
  rows_upward i (suc k) h =
      ap₂ (λ (a b : List (List ℕ)). a ++ b) (one_row i (omega arith)) (rows_upward (suc i) k (omega arith)) ∙ go (member x i)
    where
      go : (a : Bool) → cond a (row_transition P j q i ∷ []) [] ++ map (row_transition P j q) (members_from (suc i) k x)
          ≡ map (row_transition P j q) (keep a i (members_from (suc i) k x))
      go true = refl
      go false = refl

  all_below : P.rows ≤ 64 → members_from 0 P.rows x ≡ members x
  all_below few =
      rising_same (members_from 0 P.rows x) (members x) (members_from_rising 0 P.rows x) (members_rising x)
      (λ i. (
        λ m. let r = (members_from_mem 0 P.rows x i).0 m in (members_mem x i).1 (omega arith, r.2),
        λ m.
            let r = (members_mem x i).0 m in
            let l = ((told i).0 r.1).0 in
            (members_from_mem 0 P.rows x i).1 (zero-le, omega arith, r.1),
      ))

  -- the transitions that leave q are those of the rows of the set, rising
  pub from_set : P.rows ≤ 64 → transitions_from P j q ≡ map (row_transition P j q) (members x)
  unfolding transitions_from below
  from_set few =
      let all : 0 + P.rows ≤ P.rows = omega arith in
      rows_upward 0 P.rows all ∙ ap (map (row_transition P j q)) (all_below few)

-- lists of lists of lists, joined twice
append_twice : (f : ℕ → List (List ℕ)) (l : List ℕ) → append_all (append_all (map f l)) ≡ append_all (map (λ i. append_all (f i)) l)
append_twice f [] = refl
append_twice f (i ∷ l) =
    append_all_append (f i) (append_all (map f l)) ∙ ap (λ (r : List ℕ). append_all (f i) ++ r) (append_twice f l)

pub of_states : (P : Product) (j : ℕ)
    → append_all (transitions_of P j) ≡ append_all (map (λ q. append_all (transitions_from P j q)) (below (P.component j).states))
unfolding transitions_of
of_states P j = append_twice (transitions_from P j) (below (P.component j).states)

pub of_components : (P : Product)
    → append_all (sheet_transitions P) ≡ append_all (map (λ j. append_all (transitions_of P j)) (below P.components))
unfolding sheet_transitions
of_components P = append_twice (transitions_of P) (below P.components)

-- ---- a row of such a set

-- its transition, as it stands in the product
pub row_written : (b : List ℕ) (j q g at : ℕ) → TransitionAt b j g at
    → j ∷ q ∷ g ∷ get_or b (at + 1) 0 ∷ [] ≡ row_transition (product_of b) j q g
row_written b j q g at T =
    ap (λ (t : ℕ). j ∷ q ∷ g ∷ t ∷ [])
    (T.target_told ∙ ap (target_by ((product_of b).component j)) (sym T.taken))

-- what is to be written for the rows of a list
abbrev pub text : List ℕ → ℕ → ℕ → List ℕ → List ℕ
text b j q gs = append_all (map (row_transition (product_of b) j q) gs)

pub next_row : (b : List ℕ) (j q : ℕ) {gs rest : List ℕ} {low : ℕ} → gs ≡ low ∷ rest
    → text b j q gs ≡ row_transition (product_of b) j q low ++ text b j q rest
next_row b j q e = ap (text b j q) e

-- of the rows of the set those of `left` are still to be taken
abbrev pub Within : ℕ → ℕ → Type 0
Within left rows = (g : ℕ) → member left g ≡ true → member rows g ≡ true

-- ---- one row, taken from those that are left (T1)

module _ {left low rest : ℕ} (t : Takes left low rest) (rows : ℕ) (within : Within left rows) where
  -- the row that is taken is one of the component's
  pub first_mine : (b : List ℕ) (j q : ℕ) → LeavingSet b j q rows → member (alphabet (product_of b) j) low ≡ true
  first_mine b j q told =
      let r = (told low).0 (within low t.own) in
      (alphabet_rows (product_of b) j low).1 (r.0, (r.1.0, r.1.1))

  pub within_rest : Within rest rows
  within_rest g m = within g ((t.rest g).0 m).0

-- ---- the table of the sets

-- the table while it is filled: of the rows those of `left` are still to come
pub record LeavingSoFar (b : List ℕ) (j left : ℕ) (l : List ℕ) : Type 0 where
  pub size : length l ≡ most_states
  pub mine : (g : ℕ) → member left g ≡ true → member (alphabet (product_of b) j) g ≡ true
  pub only : (q : ℕ) → q < most_states → (g : ℕ) → member (get_or l q 0) g ≡ true → Leaves (product_of b) j q g
  pub all : (q : ℕ) → q < most_states → (g : ℕ) → Leaves (product_of b) j q g → (member (get_or l q 0) g ≡ true) ⊎ (member left g ≡ true)

pub leaving_none : (b : List ℕ) (j x : ℕ) (l : List ℕ) → x ≡ alphabet (product_of b) j → l ≡ replicate most_states 0 → LeavingSoFar b j x l
leaving_none b j x l e f =
    record {
      size = ap length f ∙ length-replicate {A = ℕ} most_states 0;
      mine = λ g m. sym (ap (λ (y : ℕ). member y g) e) ∙ m;
      only = λ q h g m.
          let none = ap (λ (k : List ℕ). get_or k q 0) f ∙ get_or-replicate most_states q 0 0 h in
          absurd (not_both m (ap (λ (y : ℕ). member y g) none ∙ member_zero g));
      all = λ q h g r. inr (ap (λ (y : ℕ). member y g) e ∙ (alphabet_rows (product_of b) j g).1 (r.0, (r.1.0, r.1.1)));
    }

module _ (b : List ℕ) (j at : ℕ) (l : List ℕ) {left low rest : ℕ} (F : LeavingSoFar b j left l) (t : Takes left low rest)
    (T : TransitionAt b j low at) where
  abbrev q₀ : ℕ
  q₀ = get_or b at 0

  abbrev l' : List ℕ
  l' = set l q₀ (with low (get_or l q₀ 0))

  -- the row leaves the state at whose set it is entered
  low_leaves : Leaves (product_of b) j q₀ low
  low_leaves = (((alphabet_rows (product_of b) j low).0 (F.mine low t.own)).0, (T.transition, T.taken, sym T.source_told))

  -- and no other state
  low_only : (q : ℕ) → Leaves (product_of b) j q low → q ≡ q₀
  low_only q r =
      sym r.1.2
      ∙ ap ((product_of b).component j).source (some-injective r.1.0 T.transition (sym r.1.1 ∙ T.taken))
      ∙ sym T.source_told

  in_l : q₀ < length l
  in_l = let s = F.size in omega (arith, T.source_few)

  at_same : (g : ℕ) → member (get_or l' q₀ 0) g ≡ (eqb low g || member (get_or l q₀ 0) g)
  at_same g = ap (λ (y : ℕ). member y g) (get_or-set_same l q₀ (with low (get_or l q₀ 0)) 0 in_l) ∙ member_with low (get_or l q₀ 0) g

  at_other : (q : ℕ) → ¬ (q ≡ q₀) → get_or l' q 0 ≡ get_or l q 0
  at_other q n = get_or-set_other l q₀ q (with low (get_or l q₀ 0)) 0 n

  pub leaving_more : LeavingSoFar b j rest l'
  leaving_more =
      record {
        size = length-set l q₀ (with low (get_or l q₀ 0)) ∙ F.size;
        mine = λ g m. F.mine g ((t.rest g).0 m).0;
        only = λ q h g m. only_at q h g m (true_or_false (eqb q q₀));
        all = λ q h g r. all_at q h g r (F.all q h g r) (true_or_false (eqb q q₀));
      }
    where
      entered : (g : ℕ) → (eqb low g ≡ true) ⊎ (member (get_or l q₀ 0) g ≡ true) → q₀ < most_states → Leaves (product_of b) j q₀ g
      entered g (inl e) h = subst (Leaves (product_of b) j q₀) ((eqb_true low g).0 e) low_leaves
      entered g (inr m) h = F.only q₀ h g m

      only_at : (q : ℕ) → q < most_states → (g : ℕ) → member (get_or l' q 0) g ≡ true → (eqb q q₀ ≡ true) ⊎ (eqb q q₀ ≡ false)
          → Leaves (product_of b) j q g
      only_at q h g m (inl e) =
          let s : q ≡ q₀ = (eqb_true q q₀).0 e in
          let n : member (get_or l' q₀ 0) g ≡ true = ap (λ (k : ℕ). member (get_or l' k 0) g) (sym s) ∙ m in
          let either = (or_true (eqb low g) (member (get_or l q₀ 0) g)).0 (sym (at_same g) ∙ n) in
          subst (λ (k : ℕ). Leaves (product_of b) j k g) (sym s) (entered g either (omega arith))
      only_at q h g m (inr e) =
          F.only q h g (ap (λ (y : ℕ). member y g) (sym (at_other q ((eqb_false q q₀).0 e))) ∙ m)

      -- what was in the table is still in it
      kept : (q g : ℕ) → member (get_or l q 0) g ≡ true → (eqb q q₀ ≡ true) ⊎ (eqb q q₀ ≡ false) → member (get_or l' q 0) g ≡ true
      kept q g m (inl e) =
          let s : q ≡ q₀ = (eqb_true q q₀).0 e in
          let n : member (get_or l q₀ 0) g ≡ true = ap (λ (k : ℕ). member (get_or l k 0) g) (sym s) ∙ m in
          ap (λ (k : ℕ). member (get_or l' k 0) g) s ∙ at_same g ∙ (or_true (eqb low g) (member (get_or l q₀ 0) g)).1 (inr n)
      kept q g m (inr e) = ap (λ (y : ℕ). member y g) (at_other q ((eqb_false q q₀).0 e)) ∙ m

      still : (q g : ℕ) → Leaves (product_of b) j q g → (g ≡ low) ⊎ (member rest g ≡ true)
          → (member (get_or l' q 0) g ≡ true) ⊎ (member rest g ≡ true)
      still q g r (inl e) =
          let s : q ≡ q₀ = low_only q (subst (Leaves (product_of b) j q) e r) in
          let n = (eqb_true low g).1 (sym e) in
          inl (ap (λ (k : ℕ). member (get_or l' k 0) g) s ∙ at_same g ∙ (or_true (eqb low g) (member (get_or l q₀ 0) g)).1 (inl n))
      still q g r (inr m) = inr m

      all_at : (q : ℕ) → q < most_states → (g : ℕ) → Leaves (product_of b) j q g → (member (get_or l q 0) g ≡ true) ⊎ (member left g ≡ true)
          → (eqb q q₀ ≡ true) ⊎ (eqb q q₀ ≡ false) → (member (get_or l' q 0) g ≡ true) ⊎ (member rest g ≡ true)
      all_at q h g r (inl m) w = inl (kept q g m w)
      all_at q h g r (inr m) w = still q g r ((taken_or_left t g).0 m)

pub leaving_all : (b : List ℕ) (j left : ℕ) (l : List ℕ) → LeavingSoFar b j left l → left ≡ 0 → LeavingRows b j l
leaving_all b j left l F e = record { size = F.size; each = λ q h g. (F.only q h g, λ r. done q g (F.all q h g r)) }
  where
    done : (q g : ℕ) → (member (get_or l q 0) g ≡ true) ⊎ (member left g ≡ true) → member (get_or l q 0) g ≡ true
    done q g (inl m) = m
    done q g (inr m) = absurd (not_both m (ap (λ (y : ℕ). member y g) e ∙ member_zero g))
