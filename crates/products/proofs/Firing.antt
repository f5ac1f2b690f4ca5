-- B3: firing rows of a product, and the events of the sheet that it becomes: each row that can be fired is a visible event, and no other.
-- Assumes nothing.
use mathlib.Core.Path.{◌≡◌, refl, sym, ap, ap₂, ◌∙◌, subst}
use mathlib.Core.Logic.{◌↔◌}
use mathlib.Core.Bool.{true}
use mathlib.Core.List.{List, [], ◌∷◌, Memᴰ}
use mathlib.Core.Option.{Option, none, some, none-ne-some, some-injective}
use Prim.Native.Nat.{ℕ, ◌<◌, ◌≤◌}
use native.Mathlib.Omega.{arith}
use Rattle.sets.specs.Bits.{member}
use Rattle.systems.specs.Tables.{Transition, Tables, system_of}
use Rattle.systems.specs.Interleaving.{Global, VisibleEvent, EventsThrough}
use Rattle.sheet.specs.Bounds.{most_actions}
use Rattle.sheet.specs.Layout.{transition_of, tables_of, transition_bytes}
use Rattle.products.specs.Product.{Product, SameState, CanFire, state_after, after, FiredThrough, TakesPart}
use Rattle.products.specs.ProductRefusals.{ComponentInRange}
use Rattle.products.specs.ProductSheet.{sheet_transitions, product_front}
use Rattle.products.proofs.Transitions.{mem_transitions}
use Rattle.products.proofs.Records.{alphabet_read, transitions_read}
use Rattle.products.proofs.Alphabets.{alphabet_rows, alphabet_small}

-- what 15 leaves of a product
pub record InRange (P : Product) : Type 0 where
  pub few_rows : P.rows ≤ most_actions
  pub components : (j : ℕ) → j < P.components → ComponentInRange (P.component j)
  pub numbers : (g j t : ℕ) → g < P.rows → j < P.components → P.takes g j ≡ some t → t < (P.component j).transitions

-- the tables of its sheet
abbrev pub tables_by : Product → Tables
tables_by P = tables_of (product_front P) P.components P.rows

module _ (P : Product) (ok : InRange P) where
  pub action_part : (g j : ℕ) → j < P.components → (member ((tables_by P).alphabet j) g ≡ true) ↔ ((g < P.rows) × TakesPart P g j)
  unfolding tables_of
  action_part g j h = rw (alphabet_read P j h (alphabet_small P j ok.few_rows)) (alphabet_rows P j g)

  -- the transition of a row, found in the tables
  into_tables : (g j t : ℕ) → g < P.rows → j < P.components → P.takes g j ≡ some t
      → Memᴰ (record { component = j; source = (P.component j).source t; label = g; target = (P.component j).target t })
      (tables_by P).transitions
  unfolding tables_of
  into_tables g j t h l e =
      let c = ok.components j l in
      let x = j ∷ (P.component j).source t ∷ g ∷ (P.component j).target t ∷ [] in
      let m : Memᴰ x (sheet_transitions P) = (mem_transitions P).1 (
        j,
        l,
        (P.component j).source t,
        c.source_below t (ok.numbers g j t h l e),
        g,
        h,
        record { transition = t; taken = e; leaves = refl; told = refl },
      ) in
      rw (transitions_read P) (mathlib.Core.List.Memᴰ.map transition_of m)

  -- and no other: what the tables have for an action of a component is the transition of its row
  from_tables : (g j p q : ℕ) → Memᴰ (record { component = j; source = p; label = g; target = q }) (tables_by P).transitions
      → (t : ℕ) × (P.takes g j ≡ some t) × ((P.component j).source t ≡ p) × ((P.component j).target t ≡ q)
  unfolding tables_of
  from_tables g j p q m =
      let r = mathlib.Core.List.Memᴰ.of_map transition_of (transition_bytes (product_front P) P.components) m in
      let x = r.0 in
      let n : Memᴰ x (sheet_transitions P) = subst (λ (l : List (List ℕ)). Memᴰ x l) (transitions_read P) r.1 in
      let h = (mem_transitions P).0 n in
      let told = sym (ap transition_of h.6.told) ∙ r.2 in
      let same-j : h.0 ≡ j = ap (λ (t : Transition). t.component) told in
      let same-p : h.2 ≡ p = ap (λ (t : Transition). t.source) told in
      let same-g : h.4 ≡ g = ap (λ (t : Transition). t.label) told in
      let same-q : (P.component h.0).target h.6.transition ≡ q = ap (λ (t : Transition). t.target) told in (
        h.6.transition,
        ap₂ (λ (a b : ℕ). P.takes a b) (sym same-g) (sym same-j) ∙ h.6.taken,
        ap (λ (i : ℕ). (P.component i).source h.6.transition) (sym same-j) ∙ h.6.leaves ∙ same-p,
        ap (λ (i : ℕ). (P.component i).target h.6.transition) (sym same-j) ∙ same-q,
      )

  after_idle : (g j : ℕ) (s : Global) → P.takes g j ≡ none → after P g s j ≡ s j
  after_idle g j s e = ap (λ (o : Option ℕ). state_after (P.component j) o (s j)) e

  after_taken : (g j t : ℕ) (s : Global) → P.takes g j ≡ some t → after P g s j ≡ (P.component j).target t
  after_taken g j t s e = ap (λ (o : Option ℕ). state_after (P.component j) o (s j)) e

  module _ (busy : (g : ℕ) → g < P.rows → (j : ℕ) × (j < P.components) × TakesPart P g j) (g : ℕ) (s t : Global) where
    fired : VisibleEvent (system_of (tables_by P)) g s t → (g < P.rows) × CanFire P g s × SameState P (after P g s) t
    unfolding tables_of
    fired v = (
      ((action_part g v.known.0 v.known.1).0 v.known.2).0,
      λ j u l e.
          let m = found j l (u, e) in
          ap (λ (k : ℕ). (P.component j).source k) (some-injective u m.0 (sym e ∙ m.1)) ∙ m.2,
      λ j l. state j l (P.takes g j) refl,
    )
      where
        below : g < P.rows
        below = ((action_part g v.known.0 v.known.1).0 v.known.2).0

        found : (j : ℕ) → j < P.components → TakesPart P g j
            → (u : ℕ) × (P.takes g j ≡ some u) × ((P.component j).source u ≡ s j) × ((P.component j).target u ≡ t j)
        found j l part = from_tables g j (s j) (t j) (v.moves j l ((action_part g j l).1 (below, part))).1

        state : (j : ℕ) → j < P.components → (o : Option ℕ) → P.takes g j ≡ o → t j ≡ after P g s j
        state j l none e =
            v.stays j l (λ m. let r = ((action_part g j l).0 m).1 in none-ne-some r.0 (sym e ∙ r.1)) ∙ sym (after_idle g j s e)
        state j l (some u) e = let m = found j l (u, e) in sym m.3 ∙ sym (after_taken g j m.0 s m.1)

    event : (g < P.rows) × CanFire P g s × SameState P (after P g s) t → VisibleEvent (system_of (tables_by P)) g s t
    unfolding tables_of
    event h =
        record {
          known = let b = busy g h.0 in (b.0, b.1, (action_part g b.0 b.1).1 (h.0, b.2));
          moves = λ j l m.
              let part = ((action_part g j l).0 m).1 in (
                λ e. let few = ok.few_rows in let low = h.0 in absurd (omega arith),
                rw (sym (h.1 j part.0 l part.1)) (rw (h.2 j l ∙ after_taken g j part.0 s part.1)
                    (into_tables g j part.0 h.0 l part.1)),
              );
          stays = λ j l none-of-it. idle j l none-of-it (P.takes g j) refl;
        }
      where
        idle : (j : ℕ) → j < P.components → ¬ (member ((tables_by P).alphabet j) g ≡ true) → (o : Option ℕ) → P.takes g j ≡ o → t j ≡ s j
        idle j l out none e = h.2 j l ∙ after_idle g j s e
        idle j l out (some u) e = absurd (out ((action_part g j l).1 (h.0, (u, e))))

  module _ (busy : (g : ℕ) → g < P.rows → (j : ℕ) × (j < P.components) × TakesPart P g j) where
    -- B3: a list of rows is fired through these states exactly when it is a list of events of the sheet's system through them
    pub fired_through : (s : Global) (gs : List ℕ) (ts : List Global) → EventsThrough (system_of (tables_by P)) s gs ts
        ↔ FiredThrough P s gs ts
    fired_through s [] [] = (λ u. u, λ u. u)
    fired_through s [] (t ∷ ts) = (λ u. u, λ u. u)
    fired_through s (g ∷ gs) [] = (λ u. u, λ u. u)
    fired_through s (g ∷ gs) (t ∷ ts) = (
      λ h. let a = fired busy g s t h.0 in (a.0, a.1, a.2, (fired_through t gs ts).0 h.1),
      λ h. (event busy g s t (h.0, h.1, h.2), (fired_through t gs ts).1 h.3),
    )
