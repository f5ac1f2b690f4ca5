-- B3: a list of rows can be fired from the initial states through some states exactly when it is an interleaving execution of the sheet
-- with these actions and these states.
-- Assumes nothing.
use mathlib.Core.Path.{◌≡◌, refl, sym, ap, ◌∙◌}
use mathlib.Core.Logic.{◌↔◌}
use mathlib.Core.Bool.{true}
use mathlib.Core.List.Memᴰ
use mathlib.Core.List.{List, [], ◌∷◌}
use Prim.Native.Nat.{ℕ, ◌<◌}
use native.Mathlib.Omega.{arith}
use Rattle.sets.specs.Bits.{member}
use Rattle.sets.proofs.Members.{set_of_member}
use Rattle.systems.specs.Tables.{system_of}
use Rattle.systems.specs.Interleaving.{Global, ExecutionThrough}
use Rattle.sheet.specs.Layout.{tables_of, tables}
use Rattle.products.specs.Product.{Product, SameState, state_after, FiredThrough, Fired}
use Rattle.products.specs.ProductSheet.{product_sheet}
use Rattle.products.proofs.Records.{initial_read}
use Rattle.products.proofs.Firing.{tables_by, fired_through}
use Rattle.products.proofs.Accepted.{Sound, product_tables}

-- states at which all components agree go on alike
same_start : (P : Product) (s t : Global) → SameState P s t → (gs : List ℕ) (ts : List Global) → FiredThrough P s gs ts
    → FiredThrough P t gs ts
same_start P s t e (g ∷ gs) [] h = elim h [ ]
same_start P s t e [] (u ∷ ts) h = elim h [ ]
same_start P s t e [] [] h = tt
same_start P s t e (g ∷ gs) (u ∷ ts) h = (
  h.0,
  λ j k l f. h.1 j k l f ∙ sym (e j l),
  λ j l. h.2 j l ∙ ap (state_after (P.component j) (P.takes g j)) (sym (e j l)),
  h.3,
)

module _ (P : Product) (ok : Sound P) where
  -- the one initial state of component j
  initial_one : (j q : ℕ) → j < P.components → (member ((tables_by P).initial j) q ≡ true) ↔ (q ≡ (P.component j).initial)
  unfolding tables_of
  initial_one j q l =
      let c = ok.range.components j l in
      let i = initial_read P j l (let h = c.states_high in let k = c.initial_below in omega arith) in (
        λ m. Memᴰ.eq_of_singleton ((set_of_member ((P.component j).initial ∷ []) q).0 (sym (ap (λ (x : ℕ). member x q) i) ∙ m)),
        λ e. ap (λ (x : ℕ). member x q) i ∙ (set_of_member ((P.component j).initial ∷ []) q).1 (Memᴰ.head e),
      )

  by_tables : (gs : List ℕ) (ts : List Global) → Fired P gs ts ↔ ExecutionThrough (system_of (tables_by P)) gs ts
  unfolding tables_of
  by_tables gs ts = (
    λ h.
        record {
          first = λ j. (P.component j).initial;
          initial = λ j l. (initial_one j (P.component j).initial l).1 refl;
          events = (fired_through P ok.range ok.busy (λ j. (P.component j).initial) gs ts).1 h;
        },
    λ x.
        same_start P x.first (λ j. (P.component j).initial) (λ j l. sym ((initial_one j (x.first j) l).0 (x.initial j l))) gs ts
        ((fired_through P ok.range ok.busy x.first gs ts).0 x.events),
  )

  pub fired_exactly : (gs : List ℕ) (ts : List Global) → Fired P gs ts ↔ ExecutionThrough (system_of (tables (product_sheet P))) gs ts
  fired_exactly gs ts = rw (product_tables P ok) (by_tables gs ts)
