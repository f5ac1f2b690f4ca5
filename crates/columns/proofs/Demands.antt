-- The demands on columns, proved: each record of `specs/Demands.antt` (V1 to V5, R13, R18, R19, O9).
-- Assumes nothing.
use mathlib.Core.Path.{◌≡◌, refl, sym, ap, ◌∙◌, subst}
use mathlib.Core.Logic.{◌↔◌, inl, inr}
use mathlib.Core.List.Memᴰ
use mathlib.Core.List.{List, [], ◌∷◌, ◌++◌, map, Memᴰ}
use Prim.Native.Nat.{ℕ, ◌<◌, ◌≤◌}
use native.Mathlib.Omega.{arith}
use lib.ListN.{length, take, drop, get_or}
use Rattle.sets.specs.Lists.{append_all, over}
use Rattle.sets.proofs.Lists.{over_front}
use Rattle.traces.proofs.Projections.{projection_mem, projections_related, related_projections}
use Rattle.systems.specs.Tables.{Tables, InOrder}
use Rattle.systems.specs.Running.{start}
use Rattle.systems.specs.Checking.{flat}
use Rattle.systems.proofs.Faults.{WellFormedSteps, fault_none}
use Rattle.systems.proofs.Executions.{not_actions_exact, step_mem}
use Rattle.sheet.specs.Bounds.{most_in_steps}
use Rattle.sheet.specs.Layout.{component_count, tables, steps}
use Rattle.sheet.specs.Verdict.{Accepted}
use Rattle.answers.specs.declared.Answer.{Answer}
use Rattle.answers.specs.Outcomes.{TellsRefusal}
use Rattle.answers.specs.Restated.{restated}
use Rattle.answers.specs.Related.{SameTables}
use Rattle.answers.specs.SheetExecution.{ProcessIn}
use Rattle.answers.proofs.Laws.{restated_laws}
use Rattle.answers.proofs.Restated.{accepted_limits, accepted_order, restated_is_accepted}
use Rattle.answers.proofs.Relations.{restated_same_front, restated_relation, restated_twice}
use Rattle.columns.specs.Columns.{columns}
use Rattle.columns.specs.ColumnBytes.{columns_bytes}
use Rattle.columns.specs.ColumnRefusals.{ColumnsIn, Legible, HasColumns, Executable}
use Rattle.columns.specs.Calls.{ColumnsAnswer, ColumnsRefusal}
use Rattle.columns.specs.Demands.{ColumnsWrote, ColumnsDemand, WrittenDemand, ProjectionDemand}
use Rattle.columns.specs.Merging.{single}
use Rattle.columns.proofs.Merged.{word_fits, flat_singles, singles_formed, merged_has}
use Rattle.columns.proofs.Classes.{accepted_formed, accepted_word_fact, tables_components, columns_length, columns_at_fact, same_columns, tables_on}
use Rattle.columns.proofs.ColumnBytes.{columns_in_one}
use Rattle.columns.proofs.Calls.{Wrote, same_restated, not_refused, executable_same, columns_one, ended}
use Rattle.columns.proofs.Calls.{ended_answers, ended_serves, ended_wrote, ended_kept, ended_fixed, steps_no_part}

-- ---- 18 and 19, each exactly where its condition holds

module _ (b d out left : List ℕ) (r : Answer) (c : ColumnsAnswer b d out r left) (acc : Accepted b) where
  -- O9: where a refusal is told, and where it is due
  due : (k i s : ℕ) → TellsRefusal r k i s ↔ ColumnsRefusal b d (length out) k i s
  due = (ended_answers (ended c)).refused_exactly

  eighteen : TellsRefusal r 18 0 0 ↔ (¬ Legible b d)
  eighteen = (λ e. go ((due 18 0 0).0 e), λ n. (due 18 0 0).1 (inr (acc, inl (n, (refl, refl, refl)))))
    where
      go : ColumnsRefusal b d (length out) 18 0 0 → ¬ Legible b d
      go (inl p) = absurd (not_refused acc p.0)
      go (inr (acc', inl p)) = p.0
      go (inr (acc', inr (cs, x, inl p))) = let n = p.1.0 in absurd (omega arith)
      go (inr (acc', inr (cs, x, inr (w, h, p)))) = let n = p.1.0 in absurd (omega arith)

  nineteen : (cs : List (List ℕ)) → ColumnsIn b d cs → TellsRefusal r 19 0 0 ↔ (¬ Executable b cs)
  nineteen cs x = (λ e. go ((due 19 0 0).0 e), λ n. (due 19 0 0).1 (inr (acc, inr (cs, x, inl (n, (refl, refl, refl))))))
    where
      go : ColumnsRefusal b d (length out) 19 0 0 → ¬ Executable b cs
      go (inl p) = absurd (not_refused acc p.0)
      go (inr (acc', inl p)) = absurd (p.0 (cs, x))
      go (inr (acc', inr (ds, y, inl p))) = λ h. p.0 (executable_same x y h)
      go (inr (acc', inr (ds, y, inr (w, h, p)))) = let n = p.1.0 in absurd (omega arith)

-- ---- D1

-- what a call wrote, by any sheet that has the columns
given_writes : {b d out left : List ℕ} {k : ℕ} {cs : List (List ℕ)} {c : List ℕ}
    → Wrote b d out k left → ColumnsIn b d cs → HasColumns b cs c → (k ≡ length (restated c)) × (left ≡ restated c ++ drop k out)
given_writes {b} {d} {out} {left} {k} {cs} {c} w x h =
    let same = same_restated w.legible x w.has h in
    let long : k ≡ length (restated c) = w.length_told ∙ ap length same in (
      long,
      w.output ∙ ap (λ (t : List ℕ). over t out) same ∙ ap (λ (j : ℕ). restated c ++ drop j out) (sym long),
    )

-- D1, O9, R13, R18, R19, O5, V3, V4: a number or the one refusal that is due; what the output is afterwards
pub columns_demand : ColumnsDemand
columns_demand =
    record {
      columns_answers = λ b d out left r c. ended_answers (ended c);
      at_most_one = columns_one;
      answer_fixed = λ b d out left kept r s c e. ended_fixed (ended c) (ended e);
      nineteen_exactly = nineteen;
      limits_never = λ b d acc cs x w over each runs.
          let ok = accepted_order b acc in (
            _,
            merged_has b d cs acc x w (record { over = over; each = λ j l. each j (rw (sym (tables_components b)) l) })
                ((fault_none (tables b) (start (tables b)) 0 (map single w)).1
                (singles_formed (tables b) ok w over, rw (flat_singles w (word_fits (tables b) ok w over)) runs)),
          );
      eighteen_exactly = eighteen;
      columns_serves = λ b d out left r c acc cs x w h long. (ended_serves (ended c) acc x h long).0;
      columns_serves_room = λ b d out left r c acc cs x w h room.
          (ended_serves (ended c) acc x h (let l = (accepted_limits (restated w) (restated_is_accepted w h.accepted)).length_high in omega arith)).0;
      columns_writes = λ b d out left k c cs x w h. given_writes (ended_wrote (ended c)) x h;
      some_has = λ b d out left k c.
          let w = ended_wrote (ended c) in (w.accepted, (w.held, w.legible, (w.sheet, w.has)));
      refused_untouched = λ b d out left r k i s c e. ended_kept (ended c) e;
      steps_play_no_part = λ b c d out left r acc acc' same a. steps_no_part acc acc' same a;
    }

-- ---- what was written

module _ {b d w : List ℕ} (o : ColumnsWrote b d w) where
  wrote : Wrote b d o.lent o.count o.left
  wrote = ended_wrote (ended o.call)

  -- V3: the restated form of a sheet that has the columns
  wrote_restated : w ≡ restated wrote.sheet
  wrote_restated =
      o.bytes ∙ ap (take o.count) wrote.output ∙ over_front (restated wrote.sheet) o.lent o.count (sym wrote.length_told)

  wrote_accepted : Accepted w
  wrote_accepted = subst Accepted (sym wrote_restated) (restated_is_accepted wrote.sheet wrote.has.accepted)

  -- V3, V5: it has the columns too
  wrote_columns : columns w ≡ wrote.held
  wrote_columns =
      let c = wrote.sheet in
      let acc = wrote.has.accepted in
      ap columns wrote_restated
      ∙ sym ((same_columns c (restated c) acc (restated_is_accepted c acc) (restated_same_front c acc)).1 (restated_relation c acc))
      ∙ wrote.has.same_columns

-- ---- the columns of a sheet, given for the sheet itself

-- R18: each label of a column is in the alphabet of its component
own_labels : (b : List ℕ) → length (append_all (columns b)) ≤ most_in_steps → ColumnsIn b (columns_bytes (columns b)) (columns b)
own_labels b few =
    record {
      filled = refl;
      one_each = columns_length b;
      few = omega arith;
      own = λ j l a m.
          ((projection_mem _ (flat (steps b))).0 (subst (λ (c : List ℕ). Memᴰ a c) (columns_at_fact b j l) m)).1;
    }

has_itself : (b : List ℕ) → Accepted b → HasColumns b (columns b) b
has_itself b acc =
    record {
      accepted = acc;
      same_tables = record { same_front = refl; same_steps_at = refl; same_components = refl; same_actions = refl };
      same_columns = refl;
    }

-- ---- no labels, no steps

-- a step that is not refused by 10 has an action
no_actions : (T : Tables) → InOrder T → (xs : List ℕ) → WellFormedSteps T xs → ((a : ℕ) → ¬ Memᴰ a (flat xs)) → xs ≡ []
no_actions T ok [] f none = refl
no_actions T ok (x ∷ xs) f none =
    let h = (f x (Memᴰ.head refl)).0 in
    let a = ((not_actions_exact T x).0 h).0 in
    absurd (none a.0 (Memᴰ.append_left (flat xs) ((step_mem T ok x h a.0).1 a.1)))

empty_columns : (w : List ℕ) → Accepted w → ((j : ℕ) → get_or (columns w) j [] ≡ []) → steps w ≡ []
empty_columns w acc e =
    no_actions (tables w) (accepted_order w acc) (steps w) (accepted_formed w acc) none
  where
    none : (a : ℕ) → ¬ Memᴰ a (flat (steps w))
    none a m =
        let u = (accepted_order w acc).action_used a (accepted_word_fact w acc a m) in
        let l : u.0 < component_count w = subst (λ (n : ℕ). u.0 < n) (tables_components w) u.1 in
        Memᴰ.not-nil
        (subst (λ (c : List ℕ). Memᴰ a c) (sym (columns_at_fact w u.0 l) ∙ e u.0) ((projection_mem _ (flat (steps w))).1 (m, u.2)))

-- V2, V3, V5: of the bytes that calls wrote, and of the columns of sheets
pub written_demand : WrittenDemand
written_demand =
    record {
      written_accepted = λ b d w o. wrote_accepted o;
      written_tables = λ b d w o.
          subst (SameTables b) (sym (wrote_restated o))
          (tables_on (wrote o).has.same_tables (restated_same_front (wrote o).sheet (wrote o).has.accepted));
      written_process = λ b d w o.
          subst ProcessIn (sym (wrote_restated o)) (restated_laws.restated_process (wrote o).sheet (wrote o).has.accepted);
      written_columns = λ b d w o. (wrote o).legible.filled ∙ ap columns_bytes (sym (wrote_columns o));
      written_again = λ b d w o.
          ap restated (wrote_restated o) ∙ restated_twice (wrote o).sheet (wrote o).has.accepted ∙ sym (wrote_restated o);
      same_columns = same_columns;
      own_columns = λ b out left r acc few long c.
          let e = ended_serves (ended c) acc (own_labels b few) (has_itself b acc) long in
          (e.0, ap (take (length (restated b))) e.1 ∙ over_front (restated b) out (length (restated b)) refl);
      no_labels_had = λ b d acc cs x e.
          (_, merged_has b d cs acc x [] (record { over = λ a m. absurd (Memᴰ.not-nil m); each = λ j l. sym (e j) }) refl);
      no_labels = λ b d w o cs x e.
          empty_columns w (wrote_accepted o) (λ j.
          ap (λ (ds : List (List ℕ)). get_or ds j []) (wrote_columns o ∙ columns_in_one (wrote o).legible x) ∙ e j);
    }

-- V5: projections to alphabets that cover a dependence tell words up to swaps
pub projection_demand : ProjectionDemand
projection_demand =
    record {
      projections_tell = λ dep D count has m C u v p q. projections_related dep D count has m C u v p q;
      projections_kept = λ dep count has A u v. related_projections dep count has A;
    }
