-- R15, R16, R17: each test of a product is true exactly where its condition holds; and what they leave is sound.
-- Assumes nothing.
use mathlib.Core.Path.{◌≡◌, refl, sym, ap}
use mathlib.Core.Logic.{◌↔◌, ◌⊎◌, inl, inr}
use mathlib.Core.Bool.{true, false, true≢false}
use mathlib.Core.List.{List}
use mathlib.Core.Option.{Option, none, some, none-ne-some, some-ne-none, some-injective}
use Prim.Native.Nat.{ℕ, ◌<◌}
use native.Mathlib.Omega.{arith}
use lib.Dec.{leb}
use Rattle.sets.specs.Lists.{any_of, below}
use Rattle.sets.proofs.Bools.{not_true, not_false, or_true, or_false, leb_false, eqb_true}
use Rattle.sets.proofs.Lists.{all_of_intro, all_of_elim, mem_below, some_below, none_below}
use Rattle.sheet.specs.Bounds.{most_components, most_actions, most_states}
use Rattle.sheet.proofs.Limits.{inside}
use Rattle.products.specs.Product.{Component, Product, TakesPart}
use Rattle.products.specs.ProductBytes.{components_in, rows_in, product_of}
use Rattle.products.specs.ProductRefusals.{ComponentInRange, WellFormed, IdleRow, SameRow, BadRow, IdleComponent}
use Rattle.products.specs.ProductSheet.{takes_part}
use Rattle.products.specs.ProductVerdict.{transition_out, component_wrong, number_out, column_wrong, malformed}
use Rattle.products.specs.ProductVerdict.{idle_row, same_taken, same_row, row_wrong, bad_row, idle_component}
use Rattle.products.proofs.Alphabets.{takes_part_fact}
use Rattle.products.proofs.Accepted.{Sound}

component_right : (C : Component) → (component_wrong C ≡ false) ↔ ComponentInRange C
component_right C = (
  λ h.
      let a = (or_false _ _).0 h in
      let c = (or_false _ _).0 a.0 in
      let states = (inside 1 most_states C.states).0 c.0 in
      let each : (t : ℕ) → t < C.transitions → (leb C.states (C.source t) ≡ false) × (leb C.states (C.target t) ≡ false) =
      λ t l. (or_false _ _).0 ((none_below (transition_out C) C.transitions).0 a.1 t l) in
      record {
        states_low = states.0;
        states_high = states.1;
        initial_below = (leb_false C.states C.initial).0 c.1;
        source_below = λ t l. (leb_false C.states (C.source t)).0 (each t l).0;
        target_below = λ t l. (leb_false C.states (C.target t)).0 (each t l).1;
      },
  λ r.
      (or_false _ _).1 (
        (or_false _ _).1 (
          (inside 1 most_states C.states).1 (r.states_low, r.states_high),
          (leb_false C.states C.initial).1 r.initial_below,
        ),
        (none_below (transition_out C) C.transitions).1
            (λ t l. (or_false _ _).1 (
              (leb_false C.states (C.source t)).1 (r.source_below t l),
              (leb_false C.states (C.target t)).1 (r.target_below t l),
            )),
      ),
)

number_right : (C : Component) (o : Option ℕ) → (number_out C o ≡ false) ↔ ((t : ℕ) → o ≡ some t → t < C.transitions)
number_right C none = (λ h t e. absurd (none-ne-some t e), λ h. refl)
number_right C (some u) = (
  λ h t e. let l = (leb_false C.transitions u).0 h in let s = some-injective u t e in omega arith,
  λ h. (leb_false C.transitions u).1 (h u refl),
)

column_right : (P : Product) (j : ℕ) → (column_wrong P j ≡ false)
    ↔ ((g : ℕ) → g < P.rows → (t : ℕ) → P.takes g j ≡ some t → t < (P.component j).transitions)
column_right P j = (
  λ h g l. (number_right (P.component j) (P.takes g j)).0 ((none_below _ P.rows).0 h g l),
  λ h. (none_below _ P.rows).1 (λ g l. (number_right (P.component j) (P.takes g j)).1 (h g l)),
)

-- R15: the test fails exactly where the bytes are well formed
pub malformed_exact : (b : List ℕ) → (malformed b ≡ false) ↔ WellFormed b
unfolding malformed product_of
malformed_exact b = (
  λ h.
      let columns = (or_false _ _).0 h in
      let components = (or_false _ _).0 columns.0 in
      let long = (or_false _ _).0 components.0 in
      let counts = (or_false _ _).0 long.0 in
      let n = (inside 1 most_components (components_in b)).0 counts.0 in
      let r = (inside 1 most_actions (rows_in b)).0 counts.1 in
      record {
        components_low = n.0;
        components_high = n.1;
        rows_low = r.0;
        rows_high = r.1;
        length_fits = (eqb_true _ _).0 ((not_false _).0 long.1);
        components = λ j l. (component_right ((product_of b).component j)).0 ((none_below _ (components_in b)).0 components.1 j l);
        numbers =
            λ g j t l m e. (column_right (product_of b) j).0 ((none_below (column_wrong (product_of b)) (components_in b)).0 columns.1 j m) g l t e;
      },
  λ w.
      (or_false _ _).1 (
        (or_false _ _).1 (
          (or_false _ _).1 (
            (or_false _ _).1 (
              (inside 1 most_components (components_in b)).1 (w.components_low, w.components_high),
              (inside 1 most_actions (rows_in b)).1 (w.rows_low, w.rows_high),
            ),
            (not_false _).1 ((eqb_true _ _).1 w.length_fits),
          ),
          (none_below _ (components_in b)).1 (λ j l. (component_right ((product_of b).component j)).1 (w.components j l)),
        ),
        (none_below (column_wrong (product_of b)) (components_in b)).1 (λ j l. (column_right (product_of b) j).1 (λ g m t e. w.numbers g j t m l e)),
      ),
)

-- ---- 16 and 17

takes_none : (o : Option ℕ) → (takes_part o ≡ false) ↔ (o ≡ none)
takes_none none = (λ h. refl, λ h. refl)
takes_none (some t) = (λ h. absurd (true≢false h), λ e. absurd (some-ne-none t e))

same_taken_fact : (o p : Option ℕ) → (same_taken o p ≡ true) ↔ (o ≡ p)
same_taken_fact none none = (λ h. refl, λ h. refl)
same_taken_fact none (some u) = (λ h. absurd (true≢false (sym h)), λ e. absurd (none-ne-some u e))
same_taken_fact (some t) none = (λ h. absurd (true≢false (sym h)), λ e. absurd (some-ne-none t e))
same_taken_fact (some t) (some u) = (λ h. ap some ((eqb_true t u).0 h), λ e. (eqb_true t u).1 (some-injective t u e))

module _ (P : Product) where
  idle_exact : (g : ℕ) → (idle_row P g ≡ true) ↔ IdleRow P g
  idle_exact g = (
    λ h j l. (takes_none (P.takes g j)).0 ((none_below _ P.components).0 ((not_true _).0 h) j l),
    λ r. (not_true _).1 ((none_below _ P.components).1 (λ j l. (takes_none (P.takes g j)).1 (r j l))),
  )

  same_exact : (g h : ℕ) → (same_row P g h ≡ true) ↔ SameRow P g h
  same_exact g h = (
    λ e j l. (same_taken_fact (P.takes h j) (P.takes g j)).0 (all_of_elim _ (below P.components) e j ((mem_below P.components j).1 l)),
    λ r. all_of_intro _ (below P.components) (λ j m. (same_taken_fact (P.takes h j) (P.takes g j)).1 (r j ((mem_below P.components j).0 m))),
  )

  row_exact : (g : ℕ) → (row_wrong P g ≡ true) ↔ (IdleRow P g ⊎ ((h : ℕ) × (h < g) × SameRow P g h))
  row_exact g = (λ e. there ((or_true _ _).0 e), λ s. (or_true _ _).1 (back s))
    where
      there : (idle_row P g ≡ true) ⊎ (any_of (same_row P g) (below g) ≡ true) → IdleRow P g ⊎ ((h : ℕ) × (h < g) × SameRow P g h)
      there (inl e) = inl ((idle_exact g).0 e)
      there (inr e) = let r = (some_below (same_row P g) g).0 e in inr (r.0, r.1, (same_exact g r.0).0 r.2)

      back : IdleRow P g ⊎ ((h : ℕ) × (h < g) × SameRow P g h) → (idle_row P g ≡ true) ⊎ (any_of (same_row P g) (below g) ≡ true)
      back (inl r) = inl ((idle_exact g).1 r)
      back (inr r) = inr ((some_below (same_row P g) g).1 (r.0, r.1, (same_exact g r.0).1 r.2))

  -- R16: the test holds exactly where its condition does
  pub bad_exact : (bad_row P ≡ true) ↔ BadRow P
  unfolding bad_row
  bad_exact = (
    λ e. let r = (some_below (row_wrong P) P.rows).0 e in record { row = r.0; below = r.1; bad = (row_exact r.0).0 r.2 },
    λ r. (some_below (row_wrong P) P.rows).1 (r.row, r.below, (row_exact r.row).1 r.bad),
  )

  -- R17: so does this one
  pub idle_component_exact : (idle_component P ≡ true) ↔ IdleComponent P
  unfolding idle_component
  idle_component_exact = (
    λ e.
        let r = (some_below _ P.components).0 e in
        record {
          component = r.0;
          below = r.1;
          idles = λ g l. (takes_none (P.takes g r.0)).0 ((none_below _ P.rows).0 ((not_true _).0 r.2) g l);
        },
    λ r.
        (some_below _ P.components).1 (
          r.component,
          r.below,
          (not_true _).1 ((none_below _ P.rows).1 (λ g l. (takes_none (P.takes g r.component)).1 (r.idles g l))),
        ),
  )

  part_somewhere : bad_row P ≡ false → (g : ℕ) → g < P.rows → (j : ℕ) × (j < P.components) × TakesPart P g j
  unfolding bad_row
  part_somewhere e g l =
      let r = (some_below _ P.components).0 ((not_false _).0 ((or_false _ _).0 ((none_below (row_wrong P) P.rows).0 e g l)).0) in
      (r.0, r.1, (takes_part_fact P g r.0).0 r.2)

  part_once : idle_component P ≡ false → (j : ℕ) → j < P.components → (g : ℕ) × (g < P.rows) × TakesPart P g j
  unfolding idle_component
  part_once e j l =
      let r = (some_below _ P.rows).0 ((not_false _).0 ((none_below _ P.components).0 e j l)) in
      (r.0, r.1, (takes_part_fact P r.0 j).0 r.2)

-- R15, R16, R17: what the three leave is sound
pub left_sound : (b : List ℕ) → malformed b ≡ false → bad_row (product_of b) ≡ false → idle_component (product_of b) ≡ false
    → Sound (product_of b)
unfolding product_of
left_sound b f s t =
    let w = (malformed_exact b).0 f in
    record {
      range = record { few_rows = w.rows_high; components = w.components; numbers = w.numbers };
      components_low = w.components_low;
      components_high = w.components_high;
      rows_low = w.rows_low;
      busy = part_somewhere (product_of b) s;
      used = part_once (product_of b) t;
    }
