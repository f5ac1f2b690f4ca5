-- The worked columns come out as their table says, by one computed test; some columns are had by a sheet, and some by none (R19).
-- Assumes nothing.
use mathlib.Core.Path.{◌≡◌, refl, sym, ◌∙◌}
use mathlib.Core.Bool.{true}
use mathlib.Core.List.Memᴰ
use mathlib.Core.List.{List, [], ◌∷◌}
use mathlib.Core.Option.{some, none-ne-some}
use Prim.Native.Nat.{ℕ, zero, suc, ◌^◌, ◌<◌}
use native.Mathlib.Omega.{arith}
use Rattle.sets.specs.Lists.{all_of, upward, below}
use Rattle.sets.specs.Bits.{members, members_from}
use Rattle.systems.specs.Independence.{shares, dependent}
use Rattle.systems.specs.Running.{rounds, closure, start, enabled, fire}
use lib.ListN.{get_or}
use Rattle.systems.specs.Checking.{first_fault, not_actions, not_apart, not_enabled, step_fault}
use Rattle.sheet.specs.Numbers.{field}
use Rattle.sheet.specs.Layout.{records_at, transitions_at, steps_at, component_count, action_count, closing, front, states_of}
use Rattle.sheet.specs.Layout.{filler_of, initial_of, alphabet_of, transition_bytes, tables_of, tables, step_count, steps}
use Rattle.sheet.specs.Refusals.{length_wrong, mark_wrong, counts_wrong, offsets_wrong, record_wrong, records_wrong}
use Rattle.sheet.specs.Refusals.{action_unused, transition_wrong, transitions_wrong, order_wrong, too_many_actions}
use Rattle.sheet.specs.Verdict.{steps_verdict, verdict, Accepted}
use Rattle.sheet.specs.Writing.{trailer, sheet_of}
use Rattle.answers.specs.Pair.{pair_tables, pair_sheet}
use Rattle.answers.specs.Starred.{worked_sheet}
use Rattle.answers.specs.Worked.{comes_out}
use Rattle.columns.specs.Columns.{column, columns}
use Rattle.columns.specs.ColumnRefusals.{Executable}
use Rattle.columns.specs.Reading.{legible}
use Rattle.columns.specs.WorkedColumns.{circle_sheet, circle_columns, often_columns, early_columns, pair_columns, worked_columns}
use Rattle.columns.specs.Merging.{IsWordOf}
use Rattle.columns.proofs.Classes.{columns_agree}
use Rattle.columns.proofs.Merged.{merged_not}

-- V1, V2, R18: each row of the table comes out as it is due
pub columns_come_out : all_of comes_out worked_columns ≡ true
unfolding upward below members members_from field steps_at component_count action_count front states_of initial_of alphabet_of transition_bytes tables_of
    tables step_count steps trailer sheet_of pair_tables pair_sheet columns legible
columns_come_out = refl

-- ---- columns that a sheet has, and columns that none has (R19)

-- R19: a sheet over the same tables has them
pub pair_executable : Executable (pair_sheet []) pair_columns
unfolding upward below members members_from shares dependent rounds closure start enabled fire not_actions not_apart not_enabled step_fault field records_at
    transitions_at steps_at component_count action_count closing front states_of filler_of initial_of alphabet_of transition_bytes tables_of tables step_count
    steps length_wrong mark_wrong counts_wrong offsets_wrong record_wrong records_wrong action_unused transition_wrong transitions_wrong order_wrong
    too_many_actions steps_verdict verdict trailer sheet_of pair_tables pair_sheet columns
pair_executable = (
  worked_sheet,
  record {
    accepted = refl;
    same_tables = record { same_front = refl; same_steps_at = refl; same_components = refl; same_actions = refl };
    same_columns = refl;
  },
)

-- N1: the sheet itself is accepted
pub circle_accepted : Accepted circle_sheet
unfolding upward below members members_from shares dependent rounds closure start enabled fire not_actions not_apart not_enabled step_fault field records_at
    transitions_at steps_at component_count action_count closing front states_of filler_of initial_of alphabet_of transition_bytes tables_of tables step_count
    steps length_wrong mark_wrong counts_wrong offsets_wrong record_wrong records_wrong action_unused transition_wrong transitions_wrong order_wrong
    too_many_actions steps_verdict verdict trailer sheet_of
circle_accepted = refl

-- R19: no sheet has them: each of two components waits for the other
pub circle_refused : ¬ Executable circle_sheet circle_columns
unfolding field steps_at component_count action_count front states_of initial_of alphabet_of transition_bytes tables_of tables trailer sheet_of
circle_refused h =
    let e : ◌≡◌ {A = List ℕ} (0 ∷ 1 ∷ []) (1 ∷ 0 ∷ []) = columns_agree h.1 0 1 (omega arith) (omega arith) in
    let z : ◌≡◌ {A = ℕ} 0 1 = cc in omega arith

-- R19: no sheet has them: a shared action stands more often in one
pub often_refused : ¬ Executable (pair_sheet []) often_columns
unfolding field steps_at component_count action_count front states_of initial_of alphabet_of transition_bytes tables_of tables trailer sheet_of pair_tables
    pair_sheet
often_refused h =
    let e : ◌≡◌ {A = List ℕ} (2 ∷ 2 ∷ []) (2 ∷ []) = columns_agree h.1 0 1 (omega arith) (omega arith) in
    let z : ◌≡◌ {A = ℕ} 0 1 = cc in omega arith

-- R19: no sheet has them: the one list of actions with these columns cannot be executed
early_word : IsWordOf (tables (pair_sheet [])) (λ j. get_or early_columns j []) (2 ∷ [])
unfolding field steps_at component_count action_count front states_of initial_of alphabet_of transition_bytes tables_of tables trailer sheet_of pair_tables
    pair_sheet
early_word = record { over = λ a m. let e = Memᴰ.eq_of_singleton m in omega arith; each = column_of }
  where
    column_of : (j : ℕ) → j < 2 → column (tables (pair_sheet [])) (2 ∷ []) j ≡ get_or early_columns j []
    column_of zero h = refl
    column_of (suc zero) h = refl
    column_of (suc (suc j)) h = absurd (omega arith)

early_faulty : first_fault (tables (pair_sheet [])) (start (tables (pair_sheet []))) 0 (2 ^ 2 ∷ []) ≡ some (record { number = 12; index = 0 })
unfolding upward below members members_from shares dependent rounds closure start enabled fire not_actions not_apart not_enabled step_fault field steps_at
    component_count action_count front states_of initial_of alphabet_of transition_bytes tables_of tables trailer sheet_of pair_tables pair_sheet
early_faulty = refl

pub early_refused : ¬ Executable (pair_sheet []) early_columns
early_refused =
    merged_not (pair_sheet []) early_columns (2 ∷ []) early_word (λ fine. none-ne-some _ (sym fine ∙ early_faulty))
