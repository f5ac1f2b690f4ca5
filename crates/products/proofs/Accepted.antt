-- B10: the desk accepts the sheet that a product becomes, and it has no steps.
-- Assumes nothing.
use mathlib.Core.Path.{◌≡◌, refl, sym, ap, ◌∙◌, subst}
use mathlib.Core.Bool.{true}
use mathlib.Core.List.{List, [], ◌∷◌, Memᴰ}
use mathlib.Core.Option.{some}
use Prim.Native.Nat.{ℕ, ◌+◌, ◌*◌, ◌<◌, ◌≤◌}
use native.Mathlib.Nat.{mul-le-mul}
use native.Mathlib.Omega.{arith}
use lib.ListN.{length}
use Rattle.sets.specs.Bits.{member}
use Rattle.sets.proofs.Bools.{not_both}
use Rattle.sets.proofs.Members.{set_of_member, member_zero}
use Rattle.systems.specs.Tables.{Transition, Fits}
use Rattle.sheet.specs.Bounds.{record_size, transition_size, most_components, most_actions}
use Rattle.sheet.specs.Layout.{transition_of, transition_bytes, states_of, tables_of, tables, steps}
use Rattle.sheet.specs.Limits.{RecordInLimits, InLimits}
use Rattle.sheet.specs.Verdict.{Accepted}
use Rattle.sheet.proofs.RoundTrip.{ReadsBack, reads_back}
use Rattle.sheet.proofs.Verdicts.{accepted_exact}
use Rattle.products.specs.Product.{Product, TakesPart}
use Rattle.products.specs.ProductSheet.{sheet_transitions, product_front, product_sheet}
use Rattle.products.proofs.Transitions.{mem_transitions, transitions_ascend}
use Rattle.products.proofs.Records.{front_length, states_read, filler_read, initial_read, alphabet_read, transitions_read}
use Rattle.products.proofs.Alphabets.{alphabet_rows, alphabet_small}
use Rattle.products.proofs.Firing.{InRange, tables_by, action_part}
use Rattle.products.proofs.Counts.{transitions_few}

-- what 15, 16 and 17 leave of a product
pub record Sound (P : Product) : Type 0 where
  pub range : InRange P
  pub components_low : 1 ≤ P.components
  pub components_high : P.components ≤ most_components
  pub rows_low : 1 ≤ P.rows
  -- no row is idle throughout, no component idles in every row
  pub busy : (g : ℕ) → g < P.rows → (j : ℕ) × (j < P.components) × TakesPart P g j
  pub used : (j : ℕ) → j < P.components → (g : ℕ) × (g < P.rows) × TakesPart P g j

module _ (P : Product) (ok : Sound P) where
  abbrev b : List ℕ
  b = product_sheet P

  few : length (sheet_transitions P) ≤ most_actions * most_components
  few =
      let most : P.rows * P.components ≤ most_actions * most_components = mul-le-mul ok.range.few_rows ok.components_high in
      omega (arith, transitions_few P ok.range)

  short : length (product_front P) ≤ record_size * most_components + transition_size * (most_actions * most_components)
  short = let high = ok.components_high in omega (arith, front_length P, few)

  back : ReadsBack (product_front P) P.components P.rows []
  back =
      reads_back (product_front P) P.components P.rows [] (let s = short in omega arith) (let h = ok.components_high in omega arith)
      (λ x m. absurd (mathlib.Core.List.Memᴰ.not-nil m))

  record_fine : (j : ℕ) → j < P.components → RecordInLimits (product_front P) P.rows j
  record_fine j l =
      let c = ok.range.components j l in
      let s : states_of (product_front P) j ≡ (P.component j).states = states_read P j l (let h = c.states_high in omega arith) in
      let i = initial_read P j l (let h = c.states_high in let k = c.initial_below in omega arith) in
      let a = alphabet_read P j l (alphabet_small P j ok.range.few_rows) in
      record {
        states_low = rw s c.states_low;
        states_high = rw s c.states_high;
        filler_zero = λ k m. filler_read P j k l m;
        some_initial =
            λ e. empty (P.component j).initial (sym i ∙ e)
            ((set_of_member ((P.component j).initial ∷ []) (P.component j).initial).1 (mathlib.Core.List.Memᴰ.head refl));
        initial_below = λ q m.
            rw s
            (rw (mathlib.Core.List.Memᴰ.eq_of_singleton ((set_of_member ((P.component j).initial ∷ []) q).0 (sym (ap (λ (x : ℕ). member x q) i) ∙ m)))
            c.initial_below);
        some_action = λ e. let u = ok.used j l in empty u.0 (sym a ∙ e) ((alphabet_rows P j u.0).1 (u.1, u.2));
        action_below = rw a (λ g m. ((alphabet_rows P j g).0 m).0);
      }
    where
      empty : {x : ℕ} (k : ℕ) → x ≡ 0 → member x k ≡ true → ⊥
      empty k e m = not_both m (ap (λ (y : ℕ). member y k) e ∙ member_zero k)

  row_fits : (j q g t : ℕ) → j < P.components → q < (P.component j).states → g < P.rows → P.takes g j ≡ some t
      → Fits (tables_by P) (record { component = j; source = q; label = g; target = (P.component j).target t })
  unfolding tables_of
  row_fits j q g t l k h e =
      let c = ok.range.components j l in
      let s : states_of (product_front P) j ≡ (P.component j).states = states_read P j l (let high = c.states_high in omega arith) in
      record {
        component_below = l;
        source_below = rw s k;
        target_below = rw s (c.target_below t (ok.range.numbers g j t h l e));
        label_known = λ n. (action_part P ok.range g j l).1 (h, (t, e));
      }

  transition_fits : (t : Transition) → Memᴰ t (tables_by P).transitions → Fits (tables_by P) t
  unfolding tables_of
  transition_fits t m =
      let r = mathlib.Core.List.Memᴰ.of_map transition_of (transition_bytes (product_front P) P.components) m in
      let n : Memᴰ r.0 (sheet_transitions P) = subst (λ (l : List (List ℕ)). Memᴰ r.0 l) (transitions_read P) r.1 in
      let h = (mem_transitions P).0 n in
      subst (Fits (tables_by P)) (sym (ap transition_of h.6.told) ∙ r.2)
      (row_fits h.0 h.2 h.4 h.6.transition h.1 h.3 h.5 h.6.taken)

  each_used : (g : ℕ) → g < P.rows → (j : ℕ) × (j < P.components) × (member ((tables_by P).alphabet j) g ≡ true)
  each_used g h = let u = ok.busy g h in (u.0, u.1, (action_part P ok.range g u.0 u.1).1 (h, u.2))

  limits : InLimits (product_sheet P)
  unfolding product_sheet
  limits =
      let r = back in
      record {
        length_low = let e = r.total in let c = ok.components_low in omega (arith, front_length P);
        length_high = let e = r.total in let s = short in omega arith;
        closed = r.closing_mark;
        components_low = rw r.component_count_fact ok.components_low;
        components_high = rw r.component_count_fact ok.components_high;
        actions_low = rw r.action_count_fact ok.rows_low;
        actions_high = rw r.action_count_fact ok.range.few_rows;
        records_first = r.records_at_fact;
        transitions_next = rw r.component_count_fact r.transitions_at_fact;
        steps_next = (length (sheet_transitions P), let f = few in omega arith, rw r.steps_at_fact (rw r.transitions_at_fact (front_length P)));
        trailer_last = (0, omega arith, let e = r.total in let f = r.steps_at_fact in omega arith);
        records = rw r.component_count_fact (rw r.action_count_fact (rw r.front_before record_fine));
        actions_used = rw r.component_count_fact (rw r.action_count_fact (rw r.same_tables each_used));
        transitions = rw r.same_tables transition_fits;
        ascending = rw r.front_before (rw r.component_count_fact (rw (transitions_read P) (transitions_ascend P)));
        actions_total = rw r.same_steps (omega arith);
      }

  -- B10: accepted, and without steps
  pub no_steps : steps (product_sheet P) ≡ []
  unfolding product_sheet
  no_steps = back.same_steps

  pub product_accepted : Accepted (product_sheet P)
  product_accepted = (accepted_exact (product_sheet P)).1 (limits, rw no_steps refl)

  pub product_tables : tables (product_sheet P) ≡ tables_by P
  unfolding product_sheet
  product_tables = back.same_tables
