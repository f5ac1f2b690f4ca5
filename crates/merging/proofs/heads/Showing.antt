-- V3: components that show the first label of what is left of their columns, one after another: who waits for an action, and which
-- actions are ready.
-- Assumes nothing.
use mathlib.Core.Path.{◌≡◌, refl, sym, ap, ◌∙◌, subst}
use mathlib.Core.Logic.{◌↔◌, ◌≢◌, ◌⊎◌, inl, inr}
use mathlib.Core.Bool.{Bool, true, false, cond}
use mathlib.Core.List.{List, [], ◌∷◌, cons-ne-nil, head-eq_of_cons-eq, Memᴰ}
use Prim.Native.Nat.{ℕ, suc, ◌<◌}
use native.Mathlib.Omega.{arith}
use lib.Dec.{eqb}
use lib.ListN.{length, get_or, set, replicate, length-set, length-replicate, get_or-replicate}
use lib.Seq.{get_or-set_same, get_or-set_other}
use Rattle.sets.specs.Bits.{member, with}
use Rattle.sets.proofs.Bools.{not_both, false_iff, eqb_true, eqb_false, equal_or_not}
use Rattle.sets.proofs.Members.{member_zero, with_member}
use Rattle.sheet.specs.Bounds.{most_actions}
use Rattle.columns.specs.Merging.{Rest, HeadedBy}
use Rattle.dependence.specs.participants.Participants.{participates}
use Rattle.merging.specs.heads.Heads.{ShowsFirst, Shown, Everywhere}

-- ---- the promise of one turn

-- a column without labels shows nothing
pub shows_nothing : (rest : List ℕ) (j : ℕ) (o waiting : List ℕ) (ready : ℕ) → length rest ≡ 0 → ShowsFirst rest j o waiting ready waiting ready
shows_nothing rest j o waiting ready e =
    record {
      nothing = λ _. (refl, refl);
      first = λ a later q. let n : length rest ≡ suc (length later) = ap length q in absurd (omega arith);
    }

-- a column with labels shows the first of them
pub shows_one : (rest : List ℕ) (j : ℕ) (o waiting : List ℕ) (ready a mine ready' : ℕ) → a ≡ get_or rest 0 0 → (length rest ≢ 0)
    → mine ≡ with j (get_or waiting a 0) → ready' ≡ cond (eqb mine (get_or o a 0)) (with a ready) ready
    → ShowsFirst rest j o waiting ready (set waiting a mine) ready'
shows_one rest j o waiting ready a mine ready' e some m r =
    record {
      nothing = λ q. absurd (some (ap length q));
      first = λ b later q. told b (ap (λ (l : List ℕ). get_or l 0 0) (sym q) ∙ sym e);
    }
  where
    told : (b : ℕ) → b ≡ a → (set waiting a mine ≡ set waiting b (with j (get_or waiting b 0)))
        × (ready' ≡ cond (eqb (with j (get_or waiting b 0)) (get_or o b 0)) (with b ready) ready)
    told b q = (
      ap (set waiting a) m ∙ ap (λ (x : ℕ). set waiting x (with j (get_or waiting x 0))) (sym q),
      r ∙ ap (λ (x : ℕ). cond (eqb x (get_or o a 0)) (with a ready) ready) m
          ∙ ap (λ (x : ℕ). cond (eqb (with j (get_or waiting x 0)) (get_or o x 0)) (with x ready) ready) (sym q),
    )

-- ---- the components that have shown their first label

-- at first none has
pub shown_none : (o : List ℕ) (rest : Rest) → Shown o rest (λ j. ⊥) (replicate most_actions 0) 0
shown_none o rest =
    record {
      size = length-replicate {A = ℕ} most_actions 0;
      waits = λ a h j. (λ m. absurd (not_both m (ap (λ (x : ℕ). member x j) (zeros a h) ∙ member_zero j)), λ s. absurd s.0);
      told = λ a. (λ m. absurd (not_both m (member_zero a)), λ s. absurd (s.2 (sym s.1 ∙ zeros a s.0)));
    }
  where
    zeros : (a : ℕ) → a < most_actions → ◌≡◌ {A = ℕ} (get_or (replicate most_actions 0) a 0) 0
    zeros a h = get_or-replicate most_actions a 0 0 h

-- the same columns head the same actions
pub shown_as : {o : List ℕ} {rest rest' : Rest} {Has Has' : ℕ → Type 0} {waiting : List ℕ} {ready : ℕ}
    → ((j a : ℕ) → (Has j × HeadedBy rest j a) ↔ (Has' j × HeadedBy rest' j a)) → Shown o rest Has waiting ready → Shown o rest' Has' waiting ready
shown_as same s =
    record {
      size = s.size;
      waits = λ a h j. (λ m. (same j a).0 ((s.waits a h j).0 m), λ k. (s.waits a h j).1 ((same j a).1 k));
      told = s.told;
    }

-- two labels that head one column are the same
pub one_head : (rest : Rest) (j a b : ℕ) → HeadedBy rest j a → HeadedBy rest j b → a ≡ b
one_head rest j a b h k = head-eq_of_cons-eq (sym h.1 ∙ k.1)

-- an action that heads a column is one of its labels
pub head_mem : (rest : Rest) (j a : ℕ) → HeadedBy rest j a → Memᴰ a (rest j)
head_mem rest j a h = subst (λ (l : List ℕ). Memᴰ a l) (sym h.1) (Memᴰ.head refl)

module _ (o : List ℕ) (rest : Rest) (Has : ℕ → Type 0) (j : ℕ) (waiting : List ℕ) (ready : ℕ) (waiting' : List ℕ) (ready' : ℕ) (new : ¬ Has j)
    (own : (a : ℕ) → Memᴰ a (rest j) → (a < most_actions) × (participates o j a ≡ true))
    (s : Shown o rest Has waiting ready) (f : ShowsFirst (rest j) j o waiting ready waiting' ready') where
  -- the column of j has no label
  empty_more : rest j ≡ [] → Shown o rest (λ i. (i ≡ j) ⊎ Has i) waiting' ready'
  empty_more e =
      let same = f.nothing e in
      rw (same.0, same.1)
      (shown_as {Has = Has} (λ i a. (
        λ k. (inr k.0, k.1),
        λ k. (
          elim k.0 [
            | inl q ↦ absurd (cons-ne-nil _ _ (sym (subst (λ (x : ℕ). HeadedBy rest x a) q k.1).1 ∙ e))
            | inr h ↦ h
          ],
          k.1,
        ),
      )) s)

  module _ (a : ℕ) (later : List ℕ) (e : rest j ≡ a ∷ later) where
    abbrev mine : ℕ
    mine = with j (get_or waiting a 0)

    a_own : (a < most_actions) × (participates o j a ≡ true)
    a_own = own a (subst (λ (l : List ℕ). Memᴰ a l) (sym e) (Memᴰ.head refl))

    at_a : get_or (set waiting a mine) a 0 ≡ mine
    at_a = let l = a_own.0 in let z = s.size in get_or-set_same waiting a mine 0 (omega arith)

    -- who waits for the actions
    more_waits : (b : ℕ) → b < most_actions → (i : ℕ)
        → (member (get_or (set waiting a mine) b 0) i ≡ true) ↔ (((i ≡ j) ⊎ Has i) × HeadedBy rest i b)
    more_waits b h i = go (equal_or_not b a)
      where
        go : (b ≡ a) ⊎ (b ≢ a) → (member (get_or (set waiting a mine) b 0) i ≡ true) ↔ (((i ≡ j) ⊎ Has i) × HeadedBy rest i b)
        go (inl q) = (
          λ m. there ((with_member j (get_or waiting a 0) i).0 (sym (ap (λ (x : ℕ). member x i) here) ∙ m)),
          λ k. ap (λ (x : ℕ). member x i) here ∙ (with_member j (get_or waiting a 0) i).1 (back k),
        )
          where
            here : get_or (set waiting a mine) b 0 ≡ mine
            here = ap (λ (x : ℕ). get_or (set waiting a mine) x 0) q ∙ at_a

            there : (j ≡ i) ⊎ (member (get_or waiting a 0) i ≡ true) → ((i ≡ j) ⊎ Has i) × HeadedBy rest i b
            there (inl p) = (inl (sym p), (later, ap rest (sym p) ∙ e ∙ ap (λ (x : ℕ). x ∷ later) (sym q)))
            there (inr m) =
                let k = (s.waits a a_own.0 i).0 m in
                (inr k.0, subst (HeadedBy rest i) (sym q) k.1)

            back : ((i ≡ j) ⊎ Has i) × HeadedBy rest i b → (j ≡ i) ⊎ (member (get_or waiting a 0) i ≡ true)
            back (inl p, k) = inl (sym p)
            back (inr p, k) = inr ((s.waits a a_own.0 i).1 (p, subst (HeadedBy rest i) q k))
        go (inr n) = (λ m. let k = (s.waits b h i).0 (sym same ∙ m) in (inr k.0, k.1), λ k. same ∙ back k)
          where
            same : member (get_or (set waiting a mine) b 0) i ≡ member (get_or waiting b 0) i
            same = ap (λ (x : ℕ). member x i) (get_or-set_other waiting a b mine 0 n)

            back : ((i ≡ j) ⊎ Has i) × HeadedBy rest i b → member (get_or waiting b 0) i ≡ true
            back (inl p, k) = absurd (n (one_head rest j b a (subst (λ (x : ℕ). HeadedBy rest x b) p k) (later, e)))
            back (inr p, k) = (s.waits b h i).1 (p, k)

    -- j waits for a only now, so that a was not ready
    not_yet : member ready a ≡ false
    not_yet = (false_iff (member ready a)).1 (λ m.
        let t = (s.told a).0 m in
        new ((s.waits a t.0 j).0 (ap (λ (x : ℕ). member x j) t.1 ∙ a_own.1)).0)

    some_part : get_or o a 0 ≢ 0
    some_part z = not_both a_own.1 (ap (λ (x : ℕ). member x j) z ∙ member_zero j)

    -- which actions are ready
    more_told : (t : Bool) → eqb mine (get_or o a 0) ≡ t → (b : ℕ)
        → (member (cond t (with a ready) ready) b ≡ true)
        ↔ ((b < most_actions) × (get_or (set waiting a mine) b 0 ≡ get_or o b 0) × (get_or o b 0 ≢ 0))
    more_told t q b = go t q (equal_or_not b a)
      where
        other : b ≢ a → get_or (set waiting a mine) b 0 ≡ get_or waiting b 0
        other n = get_or-set_other waiting a b mine 0 n

        goal : Bool → Type 0
        goal u = (member (cond u (with a ready) ready) b ≡ true)
            ↔ ((b < most_actions) × (get_or (set waiting a mine) b 0 ≡ get_or o b 0) × (get_or o b 0 ≢ 0))

        go : (u : Bool) → eqb mine (get_or o a 0) ≡ u → (b ≡ a) ⊎ (b ≢ a) → goal u
        go true p (inl r) = (
          λ _. (
            subst (λ (x : ℕ). x < most_actions) (sym r) a_own.0,
            ap (λ (x : ℕ). get_or (set waiting a mine) x 0) r ∙ at_a ∙ (eqb_true mine (get_or o a 0)).0 p ∙ ap (λ (x : ℕ). get_or o x 0) (sym r),
            λ z. some_part (ap (λ (x : ℕ). get_or o x 0) (sym r) ∙ z),
          ),
          λ _. (with_member a ready b).1 (inl (sym r)),
        )
        go false p (inl r) = (
          λ m. absurd (not_both (ap (member ready) (sym r) ∙ m) not_yet),
          λ k. absurd ((eqb_false mine (get_or o a 0)).0 p
              (sym at_a ∙ ap (λ (x : ℕ). get_or (set waiting a mine) x 0) (sym r) ∙ k.1 ∙ ap (λ (x : ℕ). get_or o x 0) r)),
        )
        go true p (inr n) = (
          λ m. elim ((with_member a ready b).0 m) [
            | inl r ↦ absurd (n (sym r))
            | inr r ↦ let t = (s.told b).0 r in (t.0, other n ∙ t.1, t.2)
          ],
          λ k. (with_member a ready b).1 (inr ((s.told b).1 (k.0, sym (other n) ∙ k.1, k.2))),
        )
        go false p (inr n) = (
          λ m. let t = (s.told b).0 m in (t.0, other n ∙ t.1, t.2),
          λ k. (s.told b).1 (k.0, sym (other n) ∙ k.1, k.2),
        )

    first_more : Shown o rest (λ i. (i ≡ j) ⊎ Has i) waiting' ready'
    first_more =
        let told = f.first a later e in
        rw (told.0, told.1)
        (record {
          size = length-set waiting a mine ∙ s.size;
          waits = more_waits;
          told = more_told (eqb mine (get_or o a 0)) refl;
        })

  -- one component more
  pub shown_more : Shown o rest (λ i. (i ≡ j) ⊎ Has i) waiting' ready'
  shown_more = go (rest j) refl
    where
      go : (l : List ℕ) → rest j ≡ l → Shown o rest (λ i. (i ≡ j) ⊎ Has i) waiting' ready'
      go [] e = empty_more e
      go (a ∷ later) e = first_more a later e

-- ---- an action that is ready

module _ (o : List ℕ) (rest : Rest) (waiting : List ℕ) (a others : ℕ) (below : a < most_actions)
    (own : (j b : ℕ) → Memᴰ b (rest j) → (b < most_actions) × (participates o j b ≡ true))
    (s : Shown o rest Everywhere waiting (with a others)) where
  is_ready : (get_or waiting a 0 ≡ get_or o a 0) × (get_or o a 0 ≢ 0)
  is_ready = let t = (s.told a).0 ((with_member a others a).1 (inl refl)) in (t.1, t.2)

  -- some component takes part in it
  pub ready_some : get_or o a 0 ≢ 0
  ready_some = is_ready.1

  -- it heads the columns of its components
  pub ready_heads : (j : ℕ) → participates o j a ≡ true → HeadedBy rest j a
  ready_heads j m = ((s.waits a below j).0 (ap (λ (x : ℕ). member x j) is_ready.0 ∙ m)).1

  -- its components wait no more
  pub shown_left : member others a ≡ false → Shown o rest (λ j. participates o j a ≡ false) (set waiting a 0) others
  shown_left gone =
      record {
        size = length-set waiting a 0 ∙ s.size;
        waits = λ b h j. waits_left b h j (equal_or_not b a);
        told = λ b. told_left b (equal_or_not b a);
      }
    where
      at_a : get_or (set waiting a 0) a 0 ≡ 0
      at_a = let z = s.size in get_or-set_same waiting a 0 0 (omega arith)

      waits_left : (b : ℕ) → b < most_actions → (j : ℕ) → (b ≡ a) ⊎ (b ≢ a)
          → (member (get_or (set waiting a 0) b 0) j ≡ true) ↔ ((participates o j a ≡ false) × HeadedBy rest j b)
      waits_left b h j (inl q) = (
        λ m. absurd (not_both m (ap (λ (x : ℕ). member (get_or (set waiting a 0) x 0) j) q ∙ ap (λ (x : ℕ). member x j) at_a ∙ member_zero j)),
        λ k. absurd (not_both (own j a (head_mem rest j a (subst (HeadedBy rest j) q k.1))).1 k.0),
      )
      waits_left b h j (inr n) = (
        λ m.
            let k = (s.waits b h j).0 (sym same ∙ m) in
            ((false_iff (participates o j a)).1 (λ p. n (one_head rest j b a k.1 (ready_heads j p))), k.1),
        λ k. same ∙ (s.waits b h j).1 (tt, k.1),
      )
        where
          same : member (get_or (set waiting a 0) b 0) j ≡ member (get_or waiting b 0) j
          same = ap (λ (x : ℕ). member x j) (get_or-set_other waiting a b 0 0 n)

      told_left : (b : ℕ) → (b ≡ a) ⊎ (b ≢ a)
          → (member others b ≡ true) ↔ ((b < most_actions) × (get_or (set waiting a 0) b 0 ≡ get_or o b 0) × (get_or o b 0 ≢ 0))
      told_left b (inl q) = (
        λ m. absurd (not_both (ap (member others) (sym q) ∙ m) gone),
        λ k. absurd (k.2 (sym k.1 ∙ ap (λ (x : ℕ). get_or (set waiting a 0) x 0) q ∙ at_a)),
      )
      told_left b (inr n) = (
        λ m. let t = (s.told b).0 ((with_member a others b).1 (inr m)) in (t.0, same ∙ t.1, t.2),
        λ k. elim ((with_member a others b).0 ((s.told b).1 (k.0, sym same ∙ k.1, k.2))) [ inl r ↦ absurd (n (sym r)) | inr r ↦ r ],
      )
        where
          same : get_or (set waiting a 0) b 0 ≡ get_or waiting b 0
          same = get_or-set_other waiting a b 0 0 n
