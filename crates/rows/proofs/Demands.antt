-- The demands on products given by rows, proved: each record of `specs/Demands.antt`, from the laws of the definitions.
-- Assumes nothing.
use mathlib.Core.Path.{◌≡◌, refl, sym, ap, ap₂, ◌∙◌, subst}
use mathlib.Core.Logic.{◌↔◌, ◌⊎◌, inl, inr}
use mathlib.Core.Bool.{Bool, true, false}
use mathlib.Core.List.{List, [], ◌∷◌, ◌++◌, map, Memᴰ}
use Prim.Native.Nat.{ℕ, ◌*◌, ◌<◌, ◌≤◌}
use native.Mathlib.Nat.{mul-le-mul}
use native.Mathlib.Omega.{arith}
use lib.ListN.{length, take, drop}
use Rattle.sets.proofs.Lists.{over_front}
use Rattle.sets.specs.Lists.{over}
use Rattle.sets.specs.Bits.{member, set_of}
use Rattle.sets.proofs.Bools.{not_both, false_iff}
use Rattle.systems.specs.Tables.{Transition, Tables}
use Rattle.systems.specs.Interleaving.{ExecutionThrough}
use Rattle.systems.specs.Independence.{dependent}
use Rattle.sheet.specs.Bounds.{most_components, most_actions}
use Rattle.sheet.specs.Layout.{component_count, action_count, transition_of, tables_of, tables, transition_bytes, steps}
use Rattle.sheet.specs.Verdict.{Accepted}
use Rattle.sheet.proofs.RoundTrip.{ReadsBack, reads_back}
use Rattle.answers.specs.declared.Answer.{Answer}
use Rattle.answers.specs.Outcomes.{Outcome, given, refused, values, one_value, number_of}
use Rattle.answers.specs.LentOutput.{length_or13}
use Rattle.answers.specs.FirstRefusal.{Refusal, Numbered, RefusesBy}
use Rattle.answers.specs.SheetExecution.{system_in}
use Rattle.answers.proofs.Told.{is_given, refused_only, number_only}
use Rattle.answers.proofs.LentOutput.{fitting_long, fitting_length}
use Rattle.answers.proofs.RefusalsDue.{one_due, short_due}
use Rattle.answers.proofs.FirstRefusal.{number_or}
use Rattle.products.specs.Product.{Product, Fired, TakesPart, Independent}
use Rattle.products.specs.ProductBytes.{product_of}
use Rattle.products.specs.ProductRefusals.{WellFormed, BadRow, IdleComponent}
use Rattle.products.specs.ProductSheet.{sheet_transitions, product_front, product_sheet}
use Rattle.products.specs.ProductVerdict.{malformed, bad_row, idle_component, refused_by, rows_outcome, rows_output}
use Rattle.products.proofs.Transitions.{mem_transitions}
use Rattle.products.proofs.Records.{front_length, states_read, initial_read, transitions_read}
use Rattle.products.proofs.Counts.{transitions_few}
use Rattle.products.proofs.Firing.{tables_by, action_part}
use Rattle.products.proofs.Independence.{independent_rows}
use Rattle.products.proofs.Accepted.{Sound, no_steps, product_accepted, product_tables}
use Rattle.products.proofs.Executions.{fired_exactly}
use Rattle.products.proofs.Refusals.{malformed_exact, bad_exact, idle_component_exact, left_sound}
use Rattle.rows.specs.Calls.{RowsAnswer, RowsRefusal}
use Rattle.rows.specs.Demands.{NoneHolds, rows_room, RowsWrote, RowNames, RowsDemand, WrittenDemand}

-- ---- which refusal is due (O8)

module _ (t : Bool) (C D : Type 0) (yes : (t ≡ true) ↔ C) (no : (t ≡ false) ↔ D) where
  -- a refusal by a test, and what comes later where the test fails
  by_test : (number : ℕ) (P : Refusal) (o : Outcome ℕ) → RefusesBy P o
      → RefusesBy (λ k i s. (C × Numbered number k i s) ⊎ (D × P k i s)) (refused_by t number o)
  by_test number P o due k i s = go t refl
    where
      go : (v : Bool) → t ≡ v → (refused_by v number o ≡ refused k i s) ↔ ((C × Numbered number k i s) ⊎ (D × P k i s))
      go true q = (
        λ e. inl (yes.0 q, (cc, cc, cc)),
        λ p. elim p [
          | inl r ↦ (let n = r.1.0 in let j = r.1.1 in let w = r.1.2 in cc)
          | inr r ↦ absurd (not_both q (no.1 r.0))
        ],
      )
      go false q = (
        λ e. inr (no.0 q, (due k i s).0 e),
        λ p. elim p [ inl r ↦ absurd (not_both (yes.1 r.0) q) | inr r ↦ (due k i s).1 r.1 ],
      )

-- O8: the outcome is a refusal exactly where one is due
pub rows_refuses : (b : List ℕ) (room : ℕ) → RefusesBy (RowsRefusal b room) (rows_outcome b room)
unfolding rows_outcome
rows_refuses b room =
    let P = product_of b in
    by_test (malformed b) (¬ WellFormed b) (WellFormed b) wrong (malformed_exact b) 15 _ _
    (by_test (bad_row P) (BadRow P) (¬ BadRow P) (bad_exact P) (otherwise (bad_row P) (BadRow P) (bad_exact P)) 16 _ _
    (by_test (idle_component P) (IdleComponent P) (¬ IdleComponent P) (idle_component_exact P)
    (otherwise (idle_component P) (IdleComponent P) (idle_component_exact P)) 17 _ _ (short_due (product_sheet P) room)))
  where
    otherwise : (t : Bool) (C : Type 0) → (t ≡ true) ↔ C → (t ≡ false) ↔ (¬ C)
    otherwise t C h = (λ e c. (false_iff t).0 e (h.1 c), λ n. (false_iff t).1 (λ e. n (h.0 e)))

    wrong : (malformed b ≡ true) ↔ (¬ WellFormed b)
    wrong = (λ e w. not_both e ((malformed_exact b).1 w), λ n. go (malformed b) refl n)
      where
        go : (t : Bool) → malformed b ≡ t → ¬ WellFormed b → t ≡ true
        go true q n = refl
        go false q n = absurd (n ((malformed_exact b).0 q))

-- ---- the outcome, given or refused

-- O5: a refused call leaves the output as it came
pub refused_left : (b out : List ℕ) (k i s : ℕ) → rows_outcome b (length out) ≡ refused k i s → rows_output b out ≡ out
unfolding rows_output
refused_left b out k i s e = rw e

-- B6: a call that is given writes the sheet over the front of the output
pub given_left : (b out : List ℕ) (k : ℕ) → rows_outcome b (length out) ≡ given k → rows_output b out ≡ over (product_sheet (product_of b)) out
unfolding rows_output
given_left b out k e = rw e

-- the three tests fail
record Passed (b : List ℕ) : Type 0 where
  well_formed : malformed b ≡ false
  no_bad_row : bad_row (product_of b) ≡ false
  no_idle_component : idle_component (product_of b) ≡ false

test_given : (t : Bool) (number : ℕ) (o : Outcome ℕ) (k : ℕ) → refused_by t number o ≡ given k → (t ≡ false) × (o ≡ given k)
test_given true number o k e = let z : ◌≡◌ {A = ℕ} 0 1 = cc in absurd (omega arith)
test_given false number o k e = (refl, e)

-- what is given comes after all three, and is the length of the sheet
given_passed : (b : List ℕ) (room k : ℕ) → rows_outcome b room ≡ given k → Passed b × (length (product_sheet (product_of b)) ≡ k)
unfolding rows_outcome
given_passed b room k e =
    let f = test_given (malformed b) 15 _ k e in
    let s = test_given (bad_row (product_of b)) 16 _ k f.1 in
    let t = test_given (idle_component (product_of b)) 17 _ k s.1 in (
      record { well_formed = f.0; no_bad_row = s.0; no_idle_component = t.0 },
      fitting_length (product_sheet (product_of b)) room k t.1,
    )

passed_holds : (b : List ℕ) → Passed b ↔ NoneHolds b
passed_holds b = (
  λ p.
      record {
        well_formed = (malformed_exact b).0 p.well_formed;
        no_bad_row = λ h. not_both ((bad_exact (product_of b)).1 h) p.no_bad_row;
        no_idle_component = λ h. not_both ((idle_component_exact (product_of b)).1 h) p.no_idle_component;
      },
  λ n.
      record {
        well_formed = (malformed_exact b).1 n.well_formed;
        no_bad_row = (false_iff (bad_row (product_of b))).1 (λ e. n.no_bad_row ((bad_exact (product_of b)).0 e));
        no_idle_component = (false_iff (idle_component (product_of b))).1
            (λ e. n.no_idle_component ((idle_component_exact (product_of b)).0 e));
      },
)

passed_fits : (b : List ℕ) (room : ℕ) → Passed b → rows_outcome b room ≡ length_or13 (product_sheet (product_of b)) room
unfolding rows_outcome
passed_fits b room p = rw (p.well_formed, p.no_bad_row, p.no_idle_component)

serves : (b out left : List ℕ) (r : Answer) → RowsAnswer b out r left → NoneHolds b → length (product_sheet (product_of b)) ≤ length out
    → r ≡ Answer.Given (length (product_sheet (product_of b)))
serves b out left r c n long =
    is_given r (length (product_sheet (product_of b)))
    (c.answer_told
    ∙ ap (values one_value) (passed_fits b (length out) ((passed_holds b).1 n) ∙ fitting_long (product_sheet (product_of b)) (length out) long))

-- ---- the sheet of a product that is not refused

module _ (P : Product) (ok : Sound P) where
  front_short : length (product_front P) ≤ 4352
  front_short =
      let most : P.rows * P.components ≤ most_actions * most_components = mul-le-mul ok.range.few_rows ok.components_high in
      let high = ok.components_high in
      omega (arith, front_length P, transitions_few P ok.range)

  back : ReadsBack (product_front P) P.components P.rows []
  back =
      reads_back (product_front P) P.components P.rows []
      (let s = front_short in omega arith) (let h = ok.components_high in omega arith)
      (λ x m. absurd (mathlib.Core.List.Memᴰ.not-nil m))

  -- R13: the longest sheet that a product becomes
  sheet_short : length (product_sheet P) ≤ rows_room
  unfolding product_sheet
  sheet_short = let e = back.total in let s = front_short in omega arith

  counts : (component_count (product_sheet P) ≡ P.components) × (action_count (product_sheet P) ≡ P.rows)
  unfolding product_sheet
  counts = (back.component_count_fact, back.action_count_fact)

  states_told : (j : ℕ) → j < P.components → (tables_by P).states j ≡ (P.component j).states
  unfolding tables_of
  states_told j l = states_read P j l (let h = (ok.range.components j l).states_high in omega arith)

  initial_told : (j : ℕ) → j < P.components → (tables_by P).initial j ≡ set_of ((P.component j).initial ∷ [])
  unfolding tables_of
  initial_told j l =
      let c = ok.range.components j l in
      initial_read P j l (let h = c.states_high in let k = c.initial_below in omega arith)

  -- B9: the transitions of the tables are those that the rows name
  transitions_told : (t : Transition) → Memᴰ t (tables_by P).transitions ↔ RowNames P t
  unfolding tables_of
  transitions_told t = (
    λ m.
        let r = mathlib.Core.List.Memᴰ.of_map transition_of (transition_bytes (product_front P) P.components) m in
        let n : Memᴰ r.0 (sheet_transitions P) = subst (λ (l : List (List ℕ)). Memᴰ r.0 l) (transitions_read P) r.1 in
        let h = (mem_transitions P).0 n in
        let told = sym (ap transition_of h.6.told) ∙ r.2 in
        subst (RowNames P) told
        (record {
          number = h.6.transition;
          component_below = h.1;
          row_below = h.5;
          named = h.6.taken;
          source_told = sym h.6.leaves;
          target_told = refl;
        }),
    λ n.
        let j = t.component in
        let g = t.label in
        let k = n.number in
        let c = ok.range.components j n.component_below in
        let x = j ∷ (P.component j).source k ∷ g ∷ (P.component j).target k ∷ [] in
        let m : Memᴰ x (sheet_transitions P) = (mem_transitions P).1 (
          j,
          n.component_below,
          (P.component j).source k,
          c.source_below k (ok.range.numbers g j k n.row_below n.component_below n.named),
          g,
          n.row_below,
          record { transition = k; taken = n.named; leaves = refl; told = refl },
        ) in
        rw (transitions_read P)
        (subst (λ (u : Transition). Memᴰ u (map transition_of (sheet_transitions P))) (same t n) (mathlib.Core.List.Memᴰ.map transition_of m)),
  )
    where
      same : (u : Transition) (n : RowNames P u)
          → record {
            component = u.component;
            source = (P.component u.component).source n.number;
            label = u.label;
            target = (P.component u.component).target n.number;
          } ≡ u
      same u n =
          ap₂ (λ (p q : ℕ). record { component = u.component; source = p; label = u.label; target = q })
          (sym n.source_told) (sym n.target_told)

-- ---- D1

writes : (b out left : List ℕ) (k : ℕ) → RowsAnswer b out (Answer.Given k) left
    → (k ≡ length (product_sheet (product_of b))) × (left ≡ product_sheet (product_of b) ++ drop k out)
writes b out left k c =
    let told = number_only (rows_outcome b (length out)) k c.answer_told in
    let size = (given_passed b (length out) k told).1 in
    (sym size, c.output_left ∙ given_left b out k told ∙ ap (λ (j : ℕ). product_sheet (product_of b) ++ drop j out) size)

sound : (b : List ℕ) → Passed b → Sound (product_of b)
sound b p = left_sound b p.well_formed p.no_bad_row p.no_idle_component

-- D1, O8, R13, O5: a number or the one refusal that is due; what the output is afterwards
pub rows_demand : RowsDemand
rows_demand =
    record {
      rows_answers = λ b out left r c.
          number_or (λ x. x) (RowsRefusal b (length out)) (rows_outcome b (length out)) (rows_refuses b (length out)) r c.answer_told;
      at_most_one = λ b room. one_due (RowsRefusal b room) (rows_outcome b room) (rows_refuses b room);
      rows_serves = serves;
      rows_serves_room = λ b out left r c n long.
          serves b out left r c n (let s = sheet_short (product_of b) (sound b ((passed_holds b).1 n)) in omega arith);
      rows_writes = writes;
      refused_untouched = λ b out left r i s c.
          c.output_left
          ∙ refused_left b out (number_of r) i s (refused_only one_value (rows_outcome b (length out)) (number_of r) i s c.answer_told);
    }

-- ---- what was written

wrote_given : {b w : List ℕ} (o : RowsWrote b w) → rows_outcome b (length o.lent) ≡ given o.count
wrote_given {b} {w} o = number_only (rows_outcome b (length o.lent)) o.count o.call.answer_told

wrote_passed : {b w : List ℕ} → RowsWrote b w → Passed b
wrote_passed {b} {w} o = (given_passed b (length o.lent) o.count (wrote_given o)).0

wrote_sound : {b w : List ℕ} → RowsWrote b w → Sound (product_of b)
wrote_sound {b} {w} o = sound b (wrote_passed o)

-- B6: what a call wrote is the sheet that the product becomes
pub wrote_sheet : {b w : List ℕ} → RowsWrote b w → w ≡ product_sheet (product_of b)
wrote_sheet {b} {w} o =
    o.bytes ∙ ap (take o.count) (o.call.output_left ∙ given_left b o.lent o.count (wrote_given o))
    ∙ over_front (product_sheet (product_of b)) o.lent o.count (given_passed b (length o.lent) o.count (wrote_given o)).1

wrote_tables : {b w : List ℕ} → RowsWrote b w → tables w ≡ tables_by (product_of b)
wrote_tables {b} {w} o = ap tables (wrote_sheet o) ∙ product_tables (product_of b) (wrote_sound o)

-- B3, B4, B7 to B10: of the bytes that calls of rows wrote
pub written_demand : WrittenDemand
written_demand =
    record {
      written_due = λ b w o. (passed_holds b).0 (wrote_passed o);
      written_sheet = λ b w o. wrote_sheet o;
      written_accepted = λ b w o. subst Accepted (sym (wrote_sheet o)) (product_accepted (product_of b) (wrote_sound o));
      written_no_steps = λ b w o. ap steps (wrote_sheet o) ∙ no_steps (product_of b) (wrote_sound o);
      written_counts = λ b w o.
          let c = counts (product_of b) (wrote_sound o) in
          (ap component_count (wrote_sheet o) ∙ c.0, ap action_count (wrote_sheet o) ∙ c.1);
      written_states = λ b w o j l. ap (λ (T : Tables). T.states j) (wrote_tables o) ∙ states_told (product_of b) (wrote_sound o) j l;
      written_initial = λ b w o j l. ap (λ (T : Tables). T.initial j) (wrote_tables o) ∙ initial_told (product_of b) (wrote_sound o) j l;
      written_alphabets = λ b w o g j l.
          subst (λ (T : Tables). (member (T.alphabet j) g ≡ true) ↔ ((g < (product_of b).rows) × TakesPart (product_of b) g j))
          (sym (wrote_tables o)) (action_part (product_of b) (wrote_sound o).range g j l);
      written_transitions = λ b w o t.
          subst (λ (T : Tables). Memᴰ t T.transitions ↔ RowNames (product_of b) t) (sym (wrote_tables o))
          (transitions_told (product_of b) (wrote_sound o) t);
      fired_exactly = λ b w o gs ts.
          subst (λ (x : List ℕ). Fired (product_of b) gs ts ↔ ExecutionThrough (system_in x) gs ts) (sym (wrote_sheet o))
          (fired_exactly (product_of b) (wrote_sound o) gs ts);
      independent_exactly = λ b w o g h l m.
          subst (λ (T : Tables). Independent (product_of b) g h ↔ (dependent T g h ≡ false)) (sym (wrote_tables o))
          (independent_rows (product_of b) (wrote_sound o).range (wrote_sound o).busy g h l m);
    }
