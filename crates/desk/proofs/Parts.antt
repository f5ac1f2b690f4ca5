-- The parts of a sheet within limits as the machine is handed them: its tables by the sizes that were told, its transitions and its steps
-- (S2 to S5, F6).
-- Assumes nothing.
use mathlib.Core.Path.{◌≡◌, refl, sym, ap, ap₂, ◌∙◌}
use mathlib.Core.List.{List, map}
use Prim.Native.Nat.{ℕ, ◌-◌, ◌*◌, ◌/◌, ◌<◌, ◌≤◌}
use native.Mathlib.Omega.{arith}
use lib.ListN.{length, take, drop, length-take, length-drop}
use lib.Seq.{length-take-le}
use Rattle.sets.proofs.Lists.{drop_take}
use Rattle.systems.specs.Tables.{Tables}
use Rattle.sheet.specs.Numbers.{parts}
use Rattle.sheet.specs.Layout.{steps_at, component_count, action_count, transitions_at, front, transition_bytes, transition_of, tables_of, tables}
use Rattle.sheet.specs.declared.Component.{Component}
use Rattle.sheet.specs.Bounds.{record_size, transition_size}
use Rattle.sheet.specs.Sections.{transitions_in, Decoded}
use Rattle.sheet.specs.Limits.{InLimits}
use Rattle.sheet.proofs.Limits.{limits_order}
use Rattle.answers.specs.declared.Sizes.{Sizes}
use Rattle.machine.specs.Runs.{SystemOf}

-- the step section has at most 8,192 bytes (R4, L5)
pub section_short : (b : List ℕ) (s : ℕ) → s ≡ steps_at b → InLimits b → length (take (length b - 10 - s) (drop s b)) ≤ 8192
section_short b s e l =
    let k = l.trailer_last in
    let few = k.1 in
    let whole = k.2 in
    rw length-take (omega arith)

-- the tables have the components and the actions of the trailer (S6)
pub components_of : (b : List ℕ) (n m : ℕ) → (tables_of b n m).components ≡ n
unfolding tables_of
components_of b n m = refl

actions_of_fact : (b : List ℕ) (n m : ℕ) → (tables_of b n m).actions ≡ m
unfolding tables_of
actions_of_fact b n m = refl

-- the transitions between the records and the steps, as a part (S4)
part_transitions : (b : List ℕ) (n m t s : ℕ) → t ≡ record_size * n → t ≤ s → s ≤ length b
    → (tables_of (take s b) n m).transitions ≡ transitions_in (take (s - t) (drop t b))
unfolding tables_of transition_bytes
part_transitions b n m t s e low high =
    let whole = length-take-le s b high in
    let size : length (take (s - t) (drop t b)) ≡ s - t = length-take-le (s - t) (drop t b) (rw length-drop (omega arith)) in
    let count : (length (take s b) - record_size * n) / transition_size ≡ length (take (s - t) (drop t b)) / transition_size =
    ap (λ (k : ℕ). k / transition_size) (ap₂ (λ (i j : ℕ). i - j) whole (sym e) ∙ sym size) in
    ap₂ (λ (k : ℕ) (l : List ℕ). map transition_of (parts transition_size k l)) count
    (ap (λ (k : ℕ). drop k (take s b)) (sym e) ∙ drop_take t s b low)

-- the tables read by the numbers that were read are those of the sheet (S2)
pub tables_told : (b : List ℕ) (n m s : ℕ) → n ≡ component_count b → m ≡ action_count b → s ≡ steps_at b → tables_of (take s b) n m ≡ tables b
unfolding tables front
tables_told b n m s n_read m_read s_read =
    ap (λ (k : ℕ). tables_of (take k b) n m) s_read ∙ ap₂ (λ (x y : ℕ). tables_of (take (steps_at b) b) x y) n_read m_read

-- a set has room for the states of each component (L3)
pub sheet_states_few : (b : List ℕ) → InLimits b → (j : ℕ) → j < (tables b).components → (tables b).states j ≤ 64
unfolding tables tables_of
sheet_states_few b l j h = let few = (l.records j h).states_high in omega arith

-- a sheet within limits, by the numbers read
module _ (b : List ℕ) (z : Sizes) (n_read : z.n ≡ component_count b) (m_read : z.m ≡ action_count b) (t_read : z.t ≡ transitions_at b)
    (s_read : z.s ≡ steps_at b) (l : InLimits b) where
  -- where each section stands (S2)
  pub sections_in : (z.t ≡ record_size * z.n) × (z.t ≤ z.s) × (z.s ≤ length b)
  sections_in =
      let a = l.transitions_next in
      let k = l.steps_next in
      let behind = k.2 in
      let t = l.trailer_last in
      let end = t.2 in
      (omega arith, omega arith, omega arith)

  -- the transitions of the sheet are those in the part that the machine is handed (S4)
  pub sheet_transitions_fact : (tables b).transitions ≡ transitions_in (take (z.s - z.t) (drop z.t b))
  sheet_transitions_fact =
      let h = sections_in in
      ap (λ (T : Tables). T.transitions) (sym (tables_told b z.n z.m z.s n_read m_read s_read))
      ∙ part_transitions b z.n z.m z.t z.s h.0 h.1 h.2

  -- where none of R1 to R9 holds, the machine is handed a system (S3, S4)
  pub system_given : (components : List Component) → Decoded (tables_of (take z.s b) z.n z.m) components
      → SystemOf (tables_of (take z.s b) z.n z.m) z components (take (z.s - z.t) (drop z.t b))
  system_given components d =
      let same = tables_told b z.n z.m z.s n_read m_read s_read in
      record {
        system =
            record {
              order = rw same (limits_order b l);
              decoded = d;
              states_few = rw same (sheet_states_few b l);
              told = ap (λ (T : Tables). T.transitions) same ∙ sheet_transitions_fact;
            };
        components_told = components_of (take z.s b) z.n z.m;
        actions_told = actions_of_fact (take z.s b) z.n z.m;
      }
