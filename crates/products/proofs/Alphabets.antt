-- B7: the alphabet of a component: exactly the rows in which it takes part.
-- Assumes nothing.
use mathlib.Core.Path.{◌≡◌, refl, sym, ap, ◌∙◌}
use mathlib.Core.Logic.{◌↔◌, ◌⊎◌, inl, inr}
use mathlib.Core.Bool.{Bool, true, false, true≢false}
use mathlib.Core.List.Memᴰ
use mathlib.Core.List.{List, [], ◌∷◌, Memᴰ}
use mathlib.Core.Option.{Option, none, some, none-ne-some}
use Prim.Native.Nat.{ℕ, ◌^◌, ◌<◌, ◌≤◌}
use native.Mathlib.Omega.{arith}
use Rattle.sets.specs.Lists.{keep, below}
use Rattle.sets.specs.Bits.{member}
use Rattle.sets.proofs.Bools.{not_both}
use Rattle.sets.proofs.Lists.{mem_below}
use Rattle.sets.proofs.Members.{set_of_member, lt_members}
use Rattle.sheet.specs.Bounds.{most_actions}
use Rattle.products.specs.Product.{Product, TakesPart}
use Rattle.products.specs.ProductSheet.{takes_part, parts_of, alphabet}

pub takes_part_fact : (P : Product) (g j : ℕ) → (takes_part (P.takes g j) ≡ true) ↔ TakesPart P g j
takes_part_fact P g j = go (P.takes g j) refl
  where
    go : (o : Option ℕ) → P.takes g j ≡ o → (takes_part (P.takes g j) ≡ true) ↔ TakesPart P g j
    go none e = (λ h. absurd (true≢false (sym h ∙ ap takes_part e)), λ t. absurd (none-ne-some t.0 (sym e ∙ t.1)))
    go (some t) e = (λ h. (t, e), λ u. ap takes_part e)

module _ (P : Product) (j : ℕ) where
  abbrev Taken : ℕ → List ℕ → Type 0
  Taken g gs = Memᴰ g gs × (takes_part (P.takes g j) ≡ true)

  from_parts : (gs : List ℕ) {g : ℕ} → Memᴰ g (parts_of P j gs) → Taken g gs
  from_parts [] m = absurd (Memᴰ.not-nil m)
  from_parts (h ∷ gs) {g} m = go (takes_part (P.takes h j)) refl (λ n. let r = from_parts gs n in (Memᴰ.tail r.0, r.1)) m
    where
      first : takes_part (P.takes h j) ≡ true → (Memᴰ g (parts_of P j gs) → Taken g (h ∷ gs)) → (g ≡ h) ⊎ Memᴰ g (parts_of P j gs)
          → Taken g (h ∷ gs)
      first e rest (inl s) = (Memᴰ.head s, ap (λ (k : ℕ). takes_part (P.takes k j)) s ∙ e)
      first e rest (inr n) = rest n

      go : (b : Bool) → takes_part (P.takes h j) ≡ b → (Memᴰ g (parts_of P j gs) → Taken g (h ∷ gs))
          → Memᴰ g (keep b h (parts_of P j gs)) → Taken g (h ∷ gs)
      go true e rest n = first e rest (Memᴰ.cases_cons n)
      go false e rest n = rest n

  into_parts : (gs : List ℕ) {g : ℕ} → Memᴰ g gs → takes_part (P.takes g j) ≡ true → Memᴰ g (parts_of P j gs)
  into_parts [] {g = g} m t = elim m [ ]
  into_parts (h ∷ gs) {g} m t = go (takes_part (P.takes h j)) refl (λ n. into_parts gs n t) (Memᴰ.cases_cons m)
    where
      go : (b : Bool) → takes_part (P.takes h j) ≡ b → (Memᴰ g gs → Memᴰ g (parts_of P j gs)) → (g ≡ h) ⊎ Memᴰ g gs
          → Memᴰ g (keep b h (parts_of P j gs))
      go true e rest (inl s) = Memᴰ.head s
      go true e rest (inr n) = Memᴰ.tail (rest n)
      go false e rest (inl s) = absurd (not_both t (ap (λ (k : ℕ). takes_part (P.takes k j)) s ∙ e))
      go false e rest (inr n) = rest n

  pub alphabet_rows : (g : ℕ) → (member (alphabet P j) g ≡ true) ↔ ((g < P.rows) × TakesPart P g j)
  unfolding alphabet
  alphabet_rows g = (
    λ m.
        let r = from_parts (below P.rows) ((set_of_member (parts_of P j (below P.rows)) g).0 m) in
        ((mem_below P.rows g).0 r.0, (takes_part_fact P g j).0 r.1),
    λ h.
        (set_of_member (parts_of P j (below P.rows)) g).1
        (into_parts (below P.rows) ((mem_below P.rows g).1 h.0) ((takes_part_fact P g j).1 h.1)),
  )

  pub alphabet_small : P.rows ≤ most_actions → alphabet P j < 2 ^ most_actions
  alphabet_small few = lt_members most_actions (alphabet P j) (λ g m. let r = ((alphabet_rows g).0 m).0 in omega arith)
