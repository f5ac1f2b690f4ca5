-- N4, N5, D3: related sheets have the same tables, and the restated sheet is related to its sheet and to no other normal form.
-- Assumes nothing.
use mathlib.Core.Path.{◌≡◌, sym, ap, ap₂, ◌∙◌}
use mathlib.Core.Option.{none}
use mathlib.Core.List.{List, map, Memᴰ}
use Prim.Native.Nat.{ℕ, ◌^◌, ◌<◌, ◌≤◌}
use native.Mathlib.Omega.{arith}
use lib.ListN.{length}
use Rattle.traces.specs.Words.{Related}
use Rattle.traces.specs.Steps.{Process}
use Rattle.traces.proofs.Swaps.{related_sym}
use Rattle.sets.specs.Bits.{members}
use Rattle.systems.specs.Tables.{Tables}
use Rattle.systems.specs.Independence.{dependent}
use Rattle.systems.specs.Running.{start}
use Rattle.systems.specs.Checking.{flat, first_fault}
use Rattle.systems.proofs.Dependence.{dependent_laws}
use Rattle.systems.proofs.Faults.{WellFormedSteps, fault_none}
use Rattle.sheet.specs.Numbers.{AreBytes}
use Rattle.sheet.specs.Layout.{component_count, action_count, front, tables_of, tables, step_count, steps}
use Rattle.sheet.specs.Verdict.{Accepted}
use Rattle.sheet.specs.Writing.{sheet_of}
use Rattle.sheet.proofs.RoundTrip.{sheet_equal, steps_length, front_length, writes_back}
use Rattle.answers.specs.Restated.{with_steps, restated_steps, restated}
use Rattle.answers.specs.Related.{SameTables, RelatedSheets}
use Rattle.answers.proofs.Normal.{normal, related_normal, normal_related, normal_equal, normal_fewest, normal_only, normal_lt}
use Rattle.answers.proofs.Restated.{restated_normal, accepted_limits, accepted_order, accepted_fine, front_short}
use Rattle.answers.proofs.Restated.{count_small, restated_front, restated_components, restated_actions}
use Rattle.answers.proofs.Restated.{restated_steps_at, restated_read_steps, restated_step_count, restated_is_accepted}

-- N4: where bytes and counts are the same, the tables that are read from them are the same
pub same_tables : {b c : List ℕ} → SameTables b c → tables b ≡ tables c
unfolding tables
same_tables {b} {c} s =
    ap (λ (f : List ℕ). tables_of f (component_count b) (action_count b)) s.same_front
    ∙ ap₂ (λ (n m : ℕ). tables_of (front c) n m) s.same_components s.same_actions

sheet_cong : {f g xs ys : List ℕ} {n k m l : ℕ} → f ≡ g → n ≡ k → m ≡ l → xs ≡ ys → sheet_of f n m xs ≡ sheet_of g k l ys
sheet_cong p q r s = λ i. sheet_of (p i) (q i) (r i) (s i)

-- related sheets have the same restated steps (D3)
pub related_steps : {b c : List ℕ} → RelatedSheets b c → restated_steps b ≡ restated_steps c
related_steps {b} {c} r =
    restated_normal b
    ∙ related_normal (tables b) (accepted_order b r.first_accepted) (steps b) (steps c) r.swaps
    ∙ ap (λ (T : Tables). normal T (steps c)) (same_tables r.same_tables)
    ∙ sym (restated_normal c)

-- accepted sheets over the same tables that have the same restated steps are related (D3)
pub steps_related : (b c : List ℕ) → Accepted b → Accepted c → SameTables b c → restated_steps b ≡ restated_steps c → RelatedSheets b c
steps_related b c acc acc' same e =
    record { first_accepted = acc; second_accepted = acc'; same_tables = same; swaps = swapped }
  where
    fine : first_fault (tables b) (start (tables b)) 0 (steps c) ≡ none
    fine = rw (same_tables same) (accepted_fine c acc')

    swapped : Related (dependent (tables b)) (flat (steps b)) (flat (steps c))
    swapped =
        normal_equal (tables b) (accepted_order b acc) (steps b) (steps c) (accepted_fine b acc) fine
        (sym (restated_normal b) ∙ e ∙ restated_normal c ∙ ap (λ (T : Tables). normal T (steps c)) (sym (same_tables same)))

-- D3: related sheets are restated as the same bytes
pub related_same : {b c : List ℕ} → RelatedSheets b c → restated b ≡ restated c
unfolding restated
related_same r =
    sheet_cong r.same_tables.same_front r.same_tables.same_components r.same_tables.same_actions (related_steps r)

-- D3: sheets restated as the same bytes are related
pub same_related : (b c : List ℕ) → Accepted b → Accepted c → restated b ≡ restated c → RelatedSheets b c
unfolding restated
same_related b c acc acc' e = steps_related b c acc acc' same parts.3
  where
    small : (d : List ℕ) → Accepted d → (x : ℕ) → Memᴰ x (restated_steps d) → x < 2 ^ 64
    small d a = rw (restated_normal d) (normal_lt (tables d) (accepted_order d a) (steps d) (accepted_fine d a))

    parts : (front b ≡ front c) × (component_count b ≡ component_count c) × (action_count b ≡ action_count c) × (restated_steps b ≡ restated_steps c)
    parts =
        sheet_equal (front b) (front c) (component_count b) (component_count c) (action_count b) (action_count c)
        (restated_steps b) (restated_steps c)
        (front_short b (accepted_limits b acc)) (count_small b (accepted_limits b acc)) (small b acc)
        (front_short c (accepted_limits c acc')) (count_small c (accepted_limits c acc')) (small c acc') e

    same : SameTables b c
    same =
        record {
          same_front = parts.0;
          same_steps_at = sym (front_length b (accepted_limits b acc)) ∙ ap length parts.0 ∙ front_length c (accepted_limits c acc');
          same_components = parts.1;
          same_actions = parts.2;
        }

-- N8: the restated sheet keeps the tables (N4)
pub restated_same_front : (b : List ℕ) → Accepted b → SameTables b (restated b)
restated_same_front b acc =
    record {
      same_front = sym (restated_front b acc);
      same_steps_at = sym (restated_steps_at b acc);
      same_components = sym (restated_components b acc);
      same_actions = sym (restated_actions b acc);
    }

-- D3: the restated sheet is related to its sheet
pub restated_relation : (b : List ℕ) → Accepted b → RelatedSheets b (restated b)
restated_relation b acc =
    record {
      first_accepted = acc;
      second_accepted = restated_is_accepted b acc;
      same_tables = restated_same_front b acc;
      swaps = rw (restated_read_steps b acc) (normal_related (tables b) (accepted_order b acc) (steps b) (accepted_fine b acc));
    }

-- the formed steps of a related sheet, over the first sheet's tables
related_formed : {b c : List ℕ} → RelatedSheets b c → WellFormedSteps (tables b) (steps c)
related_formed {b} {c} r =
    rw (same_tables r.same_tables) ((fault_none (tables c) (start (tables c)) 0 (steps c)).0 (accepted_fine c r.second_accepted)).0

-- D3: no related sheet has fewer steps than the restated one
pub fewest : {b c : List ℕ} → RelatedSheets b c → step_count (restated b) ≤ step_count c
fewest {b} {c} r =
    let acc = r.first_accepted in
    let least =
    normal_fewest (tables b) (accepted_order b acc) (steps b) (accepted_fine b acc) (steps c) (related_formed r)
    (related_sym (dependent (tables b)) (dependent_laws (tables b)) r.swaps) in
    let left = restated_step_count b acc in
    let right = steps_length c in
    omega arith

-- D3: restating the restated sheet gives the same bytes
pub restated_twice : (b : List ℕ) → Accepted b → restated (restated b) ≡ restated b
restated_twice b acc = sym (related_same (restated_relation b acc))

-- N8: a sheet that meets the process condition (N6) is its own restated sheet
pub process_own : (c : List ℕ) → AreBytes c → Accepted c → Process (dependent (tables c)) (map members (steps c)) → restated c ≡ c
unfolding restated
process_own c bs acc p =
    ap (with_steps c)
    (restated_normal c ∙ normal_only (tables c) (accepted_order c acc) (steps c) (accepted_fine c acc) p)
    ∙ writes_back c bs (accepted_limits c acc)
