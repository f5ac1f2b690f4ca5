-- T1, T2: what one turn of the walk gives, and what a walk takes from the first turn to the last.
-- Assumes nothing.
use mathlib.Core.Path.{◌≡◌, refl, sym, ap, ◌∙◌, subst}
use mathlib.Core.Logic.{◌↔◌, ◌≢◌, ◌⊎◌, inl, inr}
use mathlib.Core.Bool.{true, false}
use mathlib.Core.List.{List, [], ◌∷◌, ◌++◌, append-nil, cons-ne-nil, head-eq_of_cons-eq, tail-eq_of_cons-eq}
use mathlib.Core.List.Memᴰ
use mathlib.Core.List.{Memᴰ}
use Prim.Native.Nat.{ℕ, ◌-◌, ◌^◌, ◌<◌}
use native.Mathlib.Omega.{arith}
use lib.Bits.{bit_or, bit_and}
use Rattle.sets.specs.Lists.{Distinct, RisingAbove, Rising}
use Rattle.sets.specs.Bits.{member, members, with}
use Rattle.sets.specs.Walk.{Takes, Turns, Walk}
use Rattle.sets.proofs.Bools.{not_both, iff_bool, false_iff, equal_or_not}
use Rattle.sets.proofs.Lists.{rising_same, rising_distinct}
use Rattle.sets.proofs.Members.{member_zero, subset_le, member_ext, with_member, members_mem, members_rising, members_zero}
use Rattle.sets.proofs.LowestBit.{lowest_taken}

-- a rising list whose elements are all above i rises above i (G4)
rising_above : (i : ℕ) (l : List ℕ) → Rising l → ((j : ℕ) → Memᴰ j l → i < j) → RisingAbove i l
rising_above i [] r h = tt
rising_above i (x ∷ l) r h = (h x (Memᴰ.head refl), r)

-- ---- one turn (T1)

module _ {x i y : ℕ} (t : Takes x i y) where
  -- the elements are the one that is taken and those that are left
  pub taken_or_left : (j : ℕ) → (member x j ≡ true) ↔ ((j ≡ i) ⊎ (member y j ≡ true))
  taken_or_left j = (λ m. there m (equal_or_not j i), back)
    where
      there : member x j ≡ true → (j ≡ i) ⊎ (j ≢ i) → (j ≡ i) ⊎ (member y j ≡ true)
      there m (inl e) = inl e
      there m (inr n) = inr ((t.rest j).1 (m, n))

      back : (j ≡ i) ⊎ (member y j ≡ true) → member x j ≡ true
      back (inl e) = ap (member x) e ∙ t.own
      back (inr m) = ((t.rest j).0 m).0

  -- what holds of the element that is taken, and outside of the set, holds outside of what is left
  pub outside : (P : ℕ → Type 0) → P i → ((j : ℕ) → j ≢ i → member x j ≡ false → P j) → (j : ℕ) → member y j ≡ false → P j
  outside P here there j n = go (equal_or_not j i)
    where
      go : (j ≡ i) ⊎ (j ≢ i) → P j
      go (inl e) = subst P (sym e) here
      go (inr d) = there j d ((false_iff (member x j)).1 (λ m. not_both ((t.rest j).1 (m, d)) n))

  -- what is left lies above what is taken
  left_above : (j : ℕ) → member y j ≡ true → i < j
  left_above j m = let r = (t.rest j).0 m in let n = r.1 in let l = t.lowest j r.0 in omega arith

  -- so the walk ends: what is left is a smaller number
  pub left_less : y < x
  left_less =
      let le = subset_le y x (λ j m. ((t.rest j).0 m).0) in
      let n : y ≢ x = λ e. ((t.rest i).0 (ap (λ (z : ℕ). member z i) e ∙ t.own)).1 refl in
      omega arith

  -- the set is what is taken and what is left
  pub taken_with_left : x ≡ bit_or (2 ^ i) y
  taken_with_left = member_ext x (with i y) (λ j. iff_bool (member x j) (member (with i y) j) (
    λ m. (with_member i y j).1 (turned ((taken_or_left j).0 m)),
    λ m. (taken_or_left j).1 (back ((with_member i y j).0 m)),
  ))
    where
      turned : {j : ℕ} → (j ≡ i) ⊎ (member y j ≡ true) → (i ≡ j) ⊎ (member y j ≡ true)
      turned (inl e) = inl (sym e)
      turned (inr m) = inr m

      back : {j : ℕ} → (i ≡ j) ⊎ (member y j ≡ true) → (j ≡ i) ⊎ (member y j ≡ true)
      back (inl e) = inl (sym e)
      back (inr m) = inr m

  -- the first of the elements is taken, and the others are left
  pub taken_first : members x ≡ i ∷ members y
  taken_first =
      rising_same (members x) (i ∷ members y) (members_rising x)
      (rising_above i (members y) (members_rising y) (λ j m. left_above j ((members_mem y j).0 m).1))
      (λ j. (λ m. from j ((members_mem x j).0 m), into j))
    where
      from : (j : ℕ) → (j < 64) × (member x j ≡ true) → Memᴰ j (i ∷ members y)
      from j (h, m) =
          elim ((taken_or_left j).0 m) [
            | inl e ↦ Memᴰ.head e
            | inr r ↦ Memᴰ.tail ((members_mem y j).1 (h, r))
          ]

      into : (j : ℕ) → Memᴰ j (i ∷ members y) → Memᴰ j (members x)
      into j (Memᴰ.head e) = (members_mem x j).1 (subst (λ (k : ℕ). k < 64) (sym e) t.below, (taken_or_left j).1 (inl e))
      into j (Memᴰ.tail m) = let r = (members_mem y j).0 m in (members_mem x j).1 (r.0, (taken_or_left j).1 (inr r.1))

-- ---- turns, one after another (T2)

-- an element is taken or is left
pub turns_split : (x : ℕ) (taken : List ℕ) (z : ℕ) → Turns x taken z → (i : ℕ)
    → (member x i ≡ true) ↔ (Memᴰ i taken ⊎ (member z i ≡ true))
turns_split x [] z e i = (
  λ m. inr (subst (λ (w : ℕ). member w i ≡ true) e m),
  λ s. elim s [ inl m ↦ absurd (Memᴰ.not-nil m) | inr m ↦ subst (λ (w : ℕ). member w i ≡ true) (sym e) m ],
)
turns_split x (a ∷ taken) z (y, t, w) i = (
  λ m. from (turns_split y taken z w i).0 ((taken_or_left t i).0 m),
  λ s. (taken_or_left t i).1 (into (turns_split y taken z w i).1 s),
)
  where
    from : (member y i ≡ true → Memᴰ i taken ⊎ (member z i ≡ true)) → (i ≡ a) ⊎ (member y i ≡ true)
        → Memᴰ i (a ∷ taken) ⊎ (member z i ≡ true)
    from later (inl e) = inl (Memᴰ.head e)
    from later (inr m) = elim (later m) [ inl n ↦ inl (Memᴰ.tail n) | inr n ↦ inr n ]

    into : (Memᴰ i taken ⊎ (member z i ≡ true) → member y i ≡ true) → Memᴰ i (a ∷ taken) ⊎ (member z i ≡ true)
        → (i ≡ a) ⊎ (member y i ≡ true)
    into later (inl (Memᴰ.head e)) = inl e
    into later (inl (Memᴰ.tail m)) = inr (later (inl m))
    into later (inr m) = inr (later (inr m))

-- what is taken rises
pub turns_rising : (x : ℕ) (taken : List ℕ) (z : ℕ) → Turns x taken z → Rising taken
turns_rising x [] z e = tt
turns_rising x (a ∷ taken) z (y, t, w) =
    rising_above a taken (turns_rising y taken z w) (λ j m. left_above t j ((turns_split y taken z w j).1 (inl m)))

-- so none is taken twice
pub turns_once : (x : ℕ) (taken : List ℕ) (z : ℕ) → Turns x taken z → Distinct taken
turns_once x taken z w = rising_distinct taken (turns_rising x taken z w)

-- what is left lies above what is taken
pub turns_above : (x : ℕ) (taken : List ℕ) (z : ℕ) → Turns x taken z → (i : ℕ) → Memᴰ i taken → (j : ℕ) → member z j ≡ true → i < j
turns_above x [] z _ i x6 j n = elim x6 [ ]
turns_above x (a ∷ taken) z (y, t, w) i (Memᴰ.head e) j n =
    subst (λ (k : ℕ). k < j) (sym e) (left_above t j ((turns_split y taken z w j).1 (inr n)))
turns_above x (a ∷ taken) z (y, t, w) i (Memᴰ.tail m) j n = turns_above y taken z w i m j n

-- what is taken comes first among the elements that the definitions speak of
pub turns_members : (x : ℕ) (taken : List ℕ) (z : ℕ) → Turns x taken z → members x ≡ taken ++ members z
turns_members x [] z e = ap members e
turns_members x (a ∷ taken) z (y, t, w) = taken_first t ∙ ap (λ (l : List ℕ). a ∷ l) (turns_members y taken z w)

-- ---- the whole walk (T2)

-- a number is taken exactly when it is an element
pub walk_own : (x : ℕ) (taken : List ℕ) → Walk x taken → (i : ℕ) → Memᴰ i taken ↔ (member x i ≡ true)
walk_own x taken w i = (
  λ m. (turns_split x taken 0 w i).1 (inl m),
  λ m. elim ((turns_split x taken 0 w i).0 m) [ inl n ↦ n | inr n ↦ absurd (not_both n (member_zero i)) ],
)

-- a whole walk takes the elements that the definitions speak of
pub walk_members : (x : ℕ) (taken : List ℕ) → Walk x taken → taken ≡ members x
walk_members x taken w = sym (turns_members x taken 0 w ∙ ap (λ (l : List ℕ). taken ++ l) members_zero ∙ append-nil taken)

-- a set with elements is not 0
some_element : (x a : ℕ) (l : List ℕ) → members x ≡ a ∷ l → x ≢ 0
some_element x a l e z = cons-ne-nil _ _ (sym e ∙ ap members z ∙ members_zero)

-- a set of 64 bits without elements is 0
no_element : (x : ℕ) → x < 2 ^ 64 → members x ≡ [] → x ≡ 0
no_element x h e =
    elim (equal_or_not x 0) [
      | inl z ↦ z
      | inr n ↦ absurd (cons-ne-nil _ _ (sym (taken_first (lowest_taken x n h)) ∙ e))
    ]

-- a set of 64 bits is walked along its elements
walk_along : (taken : List ℕ) (x : ℕ) → x < 2 ^ 64 → members x ≡ taken → Walk x taken
walk_along [] x h e = no_element x h e
walk_along (a ∷ taken) x h e =
    let t = lowest_taken x (some_element x a taken e) h in
    let both = sym (taken_first t) ∙ e in
    let less = left_less t in (
      bit_and x (x - 1),
      subst (λ (i : ℕ). Takes x i (bit_and x (x - 1))) (head-eq_of_cons-eq both) t,
      walk_along taken (bit_and x (x - 1)) (omega arith) (tail-eq_of_cons-eq both),
    )

-- every set of 64 bits is walked to its end
pub walk_every : (x : ℕ) → x < 2 ^ 64 → Walk x (members x)
walk_every x h = walk_along (members x) x h refl
