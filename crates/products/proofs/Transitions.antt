-- B9: the transitions of the sheet that a product becomes: which they are, that they rise, and that they are read back from the bytes.
-- Assumes nothing.
use mathlib.Core.Path.{◌≡◌, refl, sym, ap, ◌∙◌, subst}
use mathlib.Core.Logic.{◌↔◌, ◌⊎◌, inl, inr}
use mathlib.Core.Bool.{Bool, true, false, cond}
use mathlib.Core.List.Memᴰ
use mathlib.Core.List.{List, [], ◌∷◌, ◌++◌, map, Memᴰ}
use mathlib.Core.Option.{Option, none, some, none-ne-some, some-injective}
use Prim.Native.Nat.{ℕ, zero, suc, ◌<◌}
use lib.Dec.{eqb}
use Rattle.sets.specs.Lists.{append_all, below, upward}
use Rattle.sets.proofs.Bools.{eqb_true}
use Rattle.sets.proofs.Lists.{mem_append_all, mem_below, mem_upward}
use Rattle.sheet.specs.Limits.{Before, here, later, AscendingFrom, Ascending}
use Rattle.products.specs.Product.{Product}
use Rattle.products.specs.ProductSheet.{leaving, transitions_from, transitions_of, sheet_transitions}

-- ---- which transitions there are

-- the transition that row g gives component j, where it leaves the state q
pub record Given (P : Product) (j q g : ℕ) (x : List ℕ) : Type 0 where
  pub transition : ℕ
  pub taken : P.takes g j ≡ some transition
  pub leaves : (P.component j).source transition ≡ q
  pub told : x ≡ j ∷ q ∷ g ∷ (P.component j).target transition ∷ []

module _ (P : Product) where
  from_leaving : (j q g : ℕ) {x : List ℕ} (o : Option ℕ) → P.takes g j ≡ o → Memᴰ x (leaving (P.component j) j q g o)
      → Given P j q g x
  from_leaving j q g none e m = absurd (Memᴰ.not-nil m)
  from_leaving j q g {x} (some t) e m = go (eqb ((P.component j).source t) q) refl m
    where
      go : (b : Bool) → eqb ((P.component j).source t) q ≡ b → Memᴰ x (cond b ((j ∷ q ∷ g ∷ (P.component j).target t ∷ []) ∷ []) [])
          → Given P j q g x
      go true h n = record { transition = t; taken = e; leaves = (eqb_true ((P.component j).source t) q).0 h; told = Memᴰ.eq_of_singleton n }
      go false h n = absurd (Memᴰ.not-nil n)

  into_leaving : (j q g : ℕ) {x : List ℕ} (o : Option ℕ) → P.takes g j ≡ o → Given P j q g x
      → Memᴰ x (leaving (P.component j) j q g o)
  into_leaving j q g none e r = absurd (none-ne-some r.transition (sym e ∙ r.taken))
  into_leaving j q g {x} (some t) e r =
      let same : t ≡ r.transition = some-injective t r.transition (sym e ∙ r.taken) in
      let h : eqb ((P.component j).source t) q ≡ true = (eqb_true ((P.component j).source t) q).1 (ap (P.component j).source same ∙ r.leaves) in
      let x-told : x ≡ j ∷ q ∷ g ∷ (P.component j).target t ∷ [] = r.told ∙ ap (λ (u : ℕ). j ∷ q ∷ g ∷ (P.component j).target u ∷ []) (sym same) in
      rw h (Memᴰ.head x-told)

  mem_from : (j q : ℕ) {x : List ℕ} → Memᴰ x (transitions_from P j q) ↔ ((g : ℕ) × (g < P.rows) × Given P j q g x)
  unfolding transitions_from
  mem_from j q {x} = (
    λ m.
        let r = (mem_append_all _).0 m in
        let s = Memᴰ.of_map (λ (g : ℕ). leaving (P.component j) j q g (P.takes g j)) (below P.rows) r.1 in (
          s.0,
          (mem_below P.rows s.0).0 s.1,
          from_leaving j q s.0 (P.takes s.0 j) refl (subst (λ (l : List (List ℕ)). Memᴰ x l) (sym s.2) r.2),
        ),
    λ h.
        (mem_append_all _).1 (
          leaving (P.component j) j q h.0 (P.takes h.0 j),
          Memᴰ.map (λ (g : ℕ). leaving (P.component j) j q g (P.takes g j)) ((mem_below P.rows h.0).1 h.1),
          into_leaving j q h.0 (P.takes h.0 j) refl h.2,
        ),
  )

  mem_of : (j : ℕ) {x : List ℕ} → Memᴰ x (transitions_of P j)
      ↔ ((q : ℕ) × (q < (P.component j).states) × (g : ℕ) × (g < P.rows) × Given P j q g x)
  unfolding transitions_of
  mem_of j {x} = (
    λ m.
        let r = (mem_append_all _).0 m in
        let s = Memᴰ.of_map (transitions_from P j) (below (P.component j).states) r.1 in
        let f = (mem_from j s.0).0 (subst (λ (l : List (List ℕ)). Memᴰ x l) (sym s.2) r.2) in
        (s.0, (mem_below (P.component j).states s.0).0 s.1, f.0, f.1, f.2),
    λ h.
        (mem_append_all _).1 (
          transitions_from P j h.0,
          Memᴰ.map (transitions_from P j) ((mem_below (P.component j).states h.0).1 h.1),
          (mem_from j h.0).1 (h.2, h.3, h.4),
        ),
  )

  pub mem_transitions : {x : List ℕ} → Memᴰ x (sheet_transitions P)
      ↔ ((j : ℕ) × (j < P.components) × (q : ℕ) × (q < (P.component j).states) × (g : ℕ) × (g < P.rows) × Given P j q g x)
  unfolding sheet_transitions
  mem_transitions {x} = (
    λ m.
        let r = (mem_append_all _).0 m in
        let s = Memᴰ.of_map (transitions_of P) (below P.components) r.1 in
        let f = (mem_of s.0).0 (subst (λ (l : List (List ℕ)). Memᴰ x l) (sym s.2) r.2) in
        (s.0, (mem_below P.components s.0).0 s.1, f.0, f.1, f.2, f.3, f.4),
    λ h.
        (mem_append_all _).1 (
          transitions_of P h.0,
          Memᴰ.map (transitions_of P) ((mem_below P.components h.0).1 h.1),
          (mem_of h.0).1 (h.2, h.3, h.4, h.5, h.6),
        ),
  )

-- ---- that they rise

-- every string of the list stands behind x
AllBehind : List ℕ → List (List ℕ) → Type 0
AllBehind x l = (y : List ℕ) → Memᴰ y l → Before x y

-- each string stands before all that come later
abbrev Rise : List (List ℕ) → Type 0
Rise [] = Unit {0}
Rise (x ∷ l) = AllBehind x l × Rise l

rise_append : (k l : List (List ℕ)) → Rise k → Rise l → ((x y : List ℕ) → Memᴰ x k → Memᴰ y l → Before x y) → Rise (k ++ l)
unfolding AllBehind
rise_append [] l a b h = b
rise_append (x ∷ k) l a b h = (
  λ y m. go y (Memᴰ.append_cases k m),
  rise_append k l a.1 b (λ u y m n. h u y (Memᴰ.tail m) n),
)
  where
    go : (y : List ℕ) → Memᴰ y k ⊎ Memᴰ y l → Before x y
    go y (inl m) = a.0 y m
    go y (inr n) = h x y (Memᴰ.head refl) n

-- lists that rise, one behind another
rise_all : (f : ℕ → List (List ℕ)) (i k : ℕ) → ((j : ℕ) → Rise (f j))
    → ((j u : ℕ) (x y : List ℕ) → j < u → Memᴰ x (f j) → Memᴰ y (f u) → Before x y) → Rise (append_all (map f (upward i k)))
unfolding upward
rise_all f i zero each apart = tt
rise_all f i (suc k) each apart =
    rise_append (f i) (append_all (map f (upward (suc i) k))) (each i) (rise_all f (suc i) k each apart)
    (λ x y m n.
    let r = (mem_append_all _).0 n in
    let s = Memᴰ.of_map f (upward (suc i) k) r.1 in
    let above = (mem_upward (suc i) k s.0).0 s.1 in
    apart i s.0 x y above.0 m (subst (λ (l : List (List ℕ)). Memᴰ y l) (sym s.2) r.2))

rise_ascending : (l : List (List ℕ)) → Rise l → Ascending l
unfolding AllBehind
rise_ascending [] r = tt
rise_ascending (x ∷ l) r = from x l r.0 r.1
  where
    from : (x : List ℕ) (l : List (List ℕ)) → AllBehind x l → Rise l → AscendingFrom x l
    from x [] a r = tt
    from x (y ∷ l) a r = (a y (Memᴰ.head refl), from y l r.0 r.1)

module _ (P : Product) where
  -- two strings that begin alike and differ in the first, second or third byte
  by_label : (j q g h : ℕ) (x y : List ℕ) → g < h → Given P j q g x → Given P j q h y → Before x y
  by_label j q g h x y l a b = rw a.told (rw b.told (later refl (later refl (here l))))

  by_source : (j p q g h : ℕ) (x y : List ℕ) → p < q → Given P j p g x → Given P j q h y → Before x y
  by_source j p q g h x y l a b = rw a.told (rw b.told (later refl (here l)))

  by_component : (i j p q g h : ℕ) (x y : List ℕ) → i < j → Given P i p g x → Given P j q h y → Before x y
  by_component i j p q g h x y l a b = rw a.told (rw b.told (here l))

  rise_one : (j q g : ℕ) (o : Option ℕ) → Rise (leaving (P.component j) j q g o)
  unfolding AllBehind
  rise_one j q g none = tt
  rise_one j q g (some t) = go (eqb ((P.component j).source t) q)
    where
      go : (b : Bool) → Rise (cond b ((j ∷ q ∷ g ∷ (P.component j).target t ∷ []) ∷ []) [])
      go true = (λ y m. absurd (Memᴰ.not-nil m), tt)
      go false = tt

  rise_from : (j q : ℕ) → Rise (transitions_from P j q)
  unfolding transitions_from below
  rise_from j q =
      rise_all (λ g. leaving (P.component j) j q g (P.takes g j)) 0 P.rows (λ g. rise_one j q g (P.takes g j))
      (λ g h x y l m n. by_label j q g h x y l (from_leaving P j q g (P.takes g j) refl m) (from_leaving P j q h (P.takes h j) refl n))

  rise_of : (j : ℕ) → Rise (transitions_of P j)
  unfolding transitions_of below
  rise_of j =
      rise_all (transitions_from P j) 0 (P.component j).states (rise_from j)
      (λ p q x y l m n. let a = (mem_from P j p).0 m in let b = (mem_from P j q).0 n in by_source j p q a.0 b.0 x y l a.2 b.2)

  pub transitions_ascend : Ascending (sheet_transitions P)
  unfolding sheet_transitions below
  transitions_ascend =
      rise_ascending (sheet_transitions P)
      (rise_all (transitions_of P) 0 P.components rise_of
      (λ i j x y l m n.
      let a = (mem_of P i).0 m in
      let b = (mem_of P j).0 n in
      by_component i j a.0 b.0 a.2 b.2 x y l a.4 b.4))
