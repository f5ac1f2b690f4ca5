-- V5: accepted sheets over the same tables have the same columns exactly when they are related: the alphabets of tables in order cover
-- their dependence (N3), and projections to such alphabets tell a word up to swaps. What the columns of a sheet are, one by one (V1).
-- Assumes nothing.
use mathlib.Core.Path.{◌≡◌, refl, sym, ap, ◌∙◌, subst}
use mathlib.Core.Logic.{◌↔◌, inr}
use mathlib.Core.Bool.{Bool}
use mathlib.Core.List.{List, []}
use Prim.Native.Nat.{ℕ, ◌<◌}
use lib.ListN.{length, get_or, length-map}
use lib.Seq.{ext_get_or}
use Rattle.sets.specs.Lists.{below}
use Rattle.sets.specs.Bits.{member}
use Rattle.sets.proofs.Lists.{length_below, list_below_at}
use Rattle.traces.specs.Words.{Related}
use Rattle.traces.specs.Projections.{Covers, AllDependent}
use Rattle.traces.proofs.Projections.{projection_comm, projections_related, related_projections}
use Rattle.systems.specs.Tables.{Tables, InOrder, WordOver}
use Rattle.systems.specs.Independence.{dependent}
use Rattle.systems.specs.Running.{start}
use Rattle.systems.specs.Checking.{flat}
use Rattle.systems.proofs.Dependence.{dependent_cases, dependent_shares, dependent_laws}
use Rattle.systems.proofs.Faults.{WellFormedSteps, fault_none}
use Rattle.systems.proofs.Executions.{flat_below}
use Rattle.sheet.specs.Layout.{component_count, tables_of, tables, steps}
use Rattle.sheet.specs.Verdict.{Accepted}
use Rattle.answers.specs.Related.{SameTables, RelatedSheets}
use Rattle.answers.proofs.Restated.{accepted_order, accepted_fine}
use Rattle.answers.proofs.Relations.{same_tables}
use Rattle.columns.specs.Columns.{column, columns}
use Rattle.columns.specs.ColumnRefusals.{HasColumns}

-- ---- the alphabets of tables in order

-- alphabet j of the tables has the action
abbrev has : Tables → ℕ → ℕ → Bool
has T j = member (T.alphabet j)

-- V5, N3: of two dependent actions an alphabet has both, of one also (R6)
pub covers : (T : Tables) → InOrder T → Covers (dependent T) T.components (has T) T.actions
covers T ok a b l m h = (dependent_shares T a b (ok.action_used a l)).0 h

-- V5, N3: two actions that an alphabet has are dependent
pub all_dependent : (T : Tables) → AllDependent (dependent T) T.components (has T)
all_dependent T j l a b x y = (dependent_cases T a b).1 (inr (j, l, x, y))

-- V5: words over the tables are related exactly when their columns are the same
pub same_words : (T : Tables) → InOrder T → (u v : List ℕ) → WordOver T u → WordOver T v
    → ((j : ℕ) → j < T.components → column T u j ≡ column T v j) ↔ Related (dependent T) u v
same_words T ok u v p q = (
  projections_related (dependent T) (dependent_laws T) T.components (has T) T.actions (covers T ok) u v p q,
  related_projections (dependent T) T.components (has T) (all_dependent T),
)

-- ---- the columns of a sheet (V1)

-- R10, R11: the steps of an accepted sheet are well formed
pub accepted_formed : (b : List ℕ) → Accepted b → WellFormedSteps (tables b) (steps b)
accepted_formed b acc = ((fault_none (tables b) (start (tables b)) 0 (steps b)).0 (accepted_fine b acc)).0

-- N2, R10: the flat list of an accepted sheet is a word over its tables
pub accepted_word_fact : (b : List ℕ) → Accepted b → WordOver (tables b) (flat (steps b))
accepted_word_fact b acc = flat_below (tables b) (accepted_order b acc) (steps b) (accepted_formed b acc)

-- S6: the tables have as many components as the sheet
pub tables_components : (b : List ℕ) → (tables b).components ≡ component_count b
unfolding tables tables_of
tables_components b = refl

-- V1: one column for each component
pub columns_length : (b : List ℕ) → length (columns b) ≡ component_count b
unfolding columns
columns_length b =
    length-map (below (component_count b)) (column (tables b) (flat (steps b))) ∙ length_below (component_count b)

-- V1: column j is the flat list cut down to alphabet j
pub columns_at_fact : (b : List ℕ) (j : ℕ) → j < component_count b → get_or (columns b) j [] ≡ column (tables b) (flat (steps b)) j
unfolding columns
columns_at_fact b j l = list_below_at (column (tables b) (flat (steps b))) (component_count b) j l

-- V1: as many lists, each of which is so, are the columns
pub columns_are : (b : List ℕ) (cs : List (List ℕ)) → length cs ≡ component_count b
    → ((j : ℕ) → j < component_count b → column (tables b) (flat (steps b)) j ≡ get_or cs j []) → columns b ≡ cs
columns_are b cs e h =
    ext_get_or [] (columns b) cs (columns_length b ∙ sym e)
    (λ j l. let k : j < component_count b = subst (λ (n : ℕ). j < n) (columns_length b) l in columns_at_fact b j k ∙ h j k)

-- ---- the same columns, and related sheets (V5)

module _ (b c : List ℕ) (acc : Accepted b) (acc' : Accepted c) (same : SameTables b c) where
  -- the flat list of the other sheet is a word over the tables of this one
  other_word : WordOver (tables b) (flat (steps c))
  other_word = subst (λ (T : Tables). WordOver T (flat (steps c))) (sym (same_tables same)) (accepted_word_fact c acc')

  words : ((j : ℕ) → j < (tables b).components → column (tables b) (flat (steps b)) j ≡ column (tables b) (flat (steps c)) j)
      ↔ Related (dependent (tables b)) (flat (steps b)) (flat (steps c))
  words = same_words (tables b) (accepted_order b acc) (flat (steps b)) (flat (steps c)) (accepted_word_fact b acc) other_word

  -- a column of the other sheet, by the tables of this one
  other_at : (j : ℕ) → j < component_count b → get_or (columns c) j [] ≡ column (tables b) (flat (steps c)) j
  other_at j l =
      columns_at_fact c j (subst (λ (n : ℕ). j < n) same.same_components l)
      ∙ ap (λ (T : Tables). column T (flat (steps c)) j) (sym (same_tables same))

  columns_related : columns b ≡ columns c → RelatedSheets b c
  columns_related e =
      record {
        first_accepted = acc;
        second_accepted = acc';
        same_tables = same;
        swaps = words.0 (λ j l.
            let k : j < component_count b = subst (λ (n : ℕ). j < n) (tables_components b) l in
            sym (columns_at_fact b j k) ∙ ap (λ (cs : List (List ℕ)). get_or cs j []) e ∙ other_at j k);
      }

  related_columns : RelatedSheets b c → columns b ≡ columns c
  related_columns r =
      columns_are b (columns c) (columns_length c ∙ sym same.same_components) (λ j l.
      words.1 r.swaps j (subst (λ (n : ℕ). j < n) (sym (tables_components b)) l) ∙ sym (other_at j l))

  -- V5: the same columns exactly where swaps lead from one to the other
  pub same_columns : (columns b ≡ columns c) ↔ RelatedSheets b c
  same_columns = (columns_related, related_columns)

-- N4: being over the same tables, turned round and passed on
pub tables_back : {b c : List ℕ} → SameTables b c → SameTables c b
tables_back s =
    record {
      same_front = sym s.same_front;
      same_steps_at = sym s.same_steps_at;
      same_components = sym s.same_components;
      same_actions = sym s.same_actions;
    }

pub tables_on : {b c d : List ℕ} → SameTables b c → SameTables c d → SameTables b d
tables_on s t =
    record {
      same_front = s.same_front ∙ t.same_front;
      same_steps_at = s.same_steps_at ∙ t.same_steps_at;
      same_components = s.same_components ∙ t.same_components;
      same_actions = s.same_actions ∙ t.same_actions;
    }

-- V5, R19: the sheets over the tables of b that have these columns are related to each other
pub has_related : {b : List ℕ} {cs : List (List ℕ)} {c d : List ℕ} → HasColumns b cs c → HasColumns b cs d → RelatedSheets c d
has_related {b} {cs} {c} {d} h k =
    (same_columns c d h.accepted k.accepted (tables_on (tables_back h.same_tables) k.same_tables)).0
    (h.same_columns ∙ sym k.same_columns)

-- R19: two columns that a sheet has agree on the actions that both components have, in their order and number
pub columns_agree : {b : List ℕ} {cs : List (List ℕ)} {c : List ℕ} → HasColumns b cs c
    → (i j : ℕ) → i < component_count b → j < component_count b → column (tables b) (get_or cs i []) j ≡ column (tables b) (get_or cs j []) i
columns_agree {b} {cs} {c} h i j l m =
    ap (λ (w : List ℕ). column (tables b) w j) (cut i l)
    ∙ projection_comm (has (tables b) j) (has (tables b) i) (flat (steps c))
    ∙ sym (ap (λ (w : List ℕ). column (tables b) w i) (cut j m))
  where
    cut : (k : ℕ) → k < component_count b → get_or cs k [] ≡ column (tables b) (flat (steps c)) k
    cut k n =
        ap (λ (ds : List (List ℕ)). get_or ds k []) (sym h.same_columns)
        ∙ columns_at_fact c k (subst (λ (x : ℕ). k < x) h.same_tables.same_components n)
        ∙ ap (λ (T : Tables). column T (flat (steps c)) k) (sym (same_tables h.same_tables))
