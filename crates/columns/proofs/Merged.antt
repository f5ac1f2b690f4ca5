-- V1, V3, R19: the word that was merged from columns, as a sheet in which each action is a step of its own. It has the columns where it
-- runs without fault (`merged_has`); where it does not (`merged_not`), or no word has them (`no_word_not`), no accepted sheet does.
-- Assumes nothing.
use mathlib.Core.Path.{◌≡◌, refl, sym, ap, ap₂, ◌∙◌, subst}
use mathlib.Core.Bool.{false}
use mathlib.Core.List.Memᴰ
use mathlib.Core.List.{List, [], ◌∷◌, ◌++◌, map, Memᴰ}
use mathlib.Core.Option.{none}
use Prim.Native.Nat.{ℕ, ◌^◌, ◌≤◌, ◌<◌}
use native.Mathlib.Omega.{arith}
use lib.ListN.{length, get_or, length-map}
use lib.Seq.{ext_get_or}
use Rattle.sets.specs.Lists.{append_all, below}
use Rattle.sets.specs.Bits.{members}
use Rattle.sets.proofs.Lists.{rising_same, length_below, list_below_at}
use Rattle.sets.proofs.Members.{lt_members, members_mem, members_rising, one_member}
use Rattle.traces.specs.Words.{Related}
use Rattle.traces.specs.Steps.{clash}
use Rattle.systems.specs.Tables.{Tables, InOrder, WordOver}
use Rattle.systems.specs.Independence.{dependent}
use Rattle.systems.specs.Running.{start}
use Rattle.systems.specs.Checking.{not_actions, not_apart, first_fault, flat}
use Rattle.systems.proofs.Faults.{WellFormedSteps, related_fault_none}
use Rattle.systems.proofs.Executions.{not_actions_exact}
use Rattle.sheet.specs.Bounds.{most_steps, most_in_steps}
use Rattle.sheet.specs.Layout.{component_count, action_count, front, tables, steps}
use Rattle.sheet.specs.Limits.{InLimits}
use Rattle.sheet.specs.Verdict.{Accepted}
use Rattle.sheet.proofs.RoundTrip.{ReadsBack}
use Rattle.answers.specs.Restated.{with_steps}
use Rattle.answers.proofs.Restated.{accepted_limits, accepted_order, accepted_fine, with_steps_reads}
use Rattle.answers.proofs.Restated.{with_steps_tables, with_steps_same, with_steps_accepted}
use Rattle.answers.proofs.Relations.{same_tables}
use Rattle.columns.specs.Columns.{column}
use Rattle.columns.specs.ColumnRefusals.{ColumnsIn, HasColumns, Executable}
use Rattle.columns.specs.Merging.{single, IsWordOf}
use Rattle.columns.proofs.Classes.{same_words, accepted_word_fact, tables_components, columns_at_fact, columns_are}
use Rattle.columns.proofs.Merging.{word_length}

-- ---- each action a step of its own (S5, N2)

members_single : (a : ℕ) → a < 64 → members (2 ^ a) ≡ a ∷ []
members_single a l =
    rising_same (members (2 ^ a)) (a ∷ []) (members_rising (2 ^ a)) tt (λ b. (
      λ m. Memᴰ.head (sym ((one_member a b).0 ((members_mem (2 ^ a) b).0 m).1)),
      λ m. let e = Memᴰ.eq_of_singleton m in (members_mem (2 ^ a) b).1 (omega arith, (one_member a b).1 (sym e)),
    ))

-- N2: the flat list of the steps is the word
pub flat_singles : (w : List ℕ) → ((a : ℕ) → Memᴰ a w → a < 64) → flat (map single w) ≡ w
flat_singles [] h = refl
flat_singles (a ∷ w) h =
    ap₂ (λ (u v : List ℕ). u ++ v) (members_single a (h a (Memᴰ.head refl))) (flat_singles w (λ b m. h b (Memᴰ.tail m)))

module _ (T : Tables) (ok : InOrder T) where
  pub word_fits : (w : List ℕ) → WordOver T w → (a : ℕ) → Memᴰ a w → a < 64
  word_fits w over a m = let l = over a m in let f = ok.actions_fit in omega arith

  single_formed : (a : ℕ) → a < T.actions → (not_actions T (2 ^ a) ≡ false) × (not_apart T (2 ^ a) ≡ false)
  unfolding not_apart
  single_formed a l =
      let f = ok.actions_fit in (
        (not_actions_exact T (2 ^ a)).1 ((a, (one_member a a).1 refl), λ b m. let e = (one_member a b).0 m in omega arith),
        ap (clash (dependent T)) (members_single a (omega arith)),
      )

  -- R10, R11: neither holds of such a step
  pub singles_formed : (w : List ℕ) → WordOver T w → WellFormedSteps T (map single w)
  singles_formed w over x m =
      let (a, n, e) = Memᴰ.of_map (λ (b : ℕ). 2 ^ b) w m in
      subst (λ (y : ℕ). (not_actions T y ≡ false) × (not_apart T y ≡ false)) e (single_formed a (over a n))

-- each such step is a number of eight bytes (S5)
pub singles_small : (w : List ℕ) → ((a : ℕ) → Memᴰ a w → a < 64) → (x : ℕ) → Memᴰ x (map single w) → x < 2 ^ 64
singles_small w h x m =
    let (a, n, e) = Memᴰ.of_map (λ (b : ℕ). 2 ^ b) w m in
    let l = h a n in
    subst (λ (y : ℕ). y < 2 ^ 64) e (lt_members 64 (2 ^ a) (λ b k. let q = (one_member a b).0 k in omega arith))

-- ---- the sheet made of the word (V3, R19)

-- the columns, one for each number below n, are the list itself
listed : (cs : List (List ℕ)) (n : ℕ) → length cs ≡ n → map (λ (j : ℕ). get_or cs j []) (below n) ≡ cs
listed cs n e =
    ext_get_or [] (map (λ (j : ℕ). get_or cs j []) (below n)) cs (size ∙ sym e)
    (λ j l. list_below_at (λ (i : ℕ). get_or cs i []) n j (subst (λ (k : ℕ). j < k) size l))
  where
    size : length (map (λ (j : ℕ). get_or cs j []) (below n)) ≡ n
    size = length-map (below n) (λ (j : ℕ). get_or cs j []) ∙ length_below n

-- R18, L6: a word that has the columns is no longer than these may be together
pub word_few : (b d : List ℕ) (cs : List (List ℕ)) → Accepted b → ColumnsIn b d cs
    → (w : List ℕ) → IsWordOf (tables b) (λ j. get_or cs j []) w → length w ≤ most_in_steps
word_few b d cs acc given w W =
    let short = word_length (tables b) (accepted_order b acc) (λ j. get_or cs j []) w W in
    let long : length cs ≡ (tables b).components = given.one_each ∙ sym (tables_components b) in
    let same = ap (λ (l : List (List ℕ)). length (append_all l)) (listed cs (tables b).components long) in
    let few = given.few in
    omega arith

-- V3, R19: where the word runs without fault, the sheet of its actions, one by one, has the columns
pub merged_has : (b d : List ℕ) (cs : List (List ℕ)) → Accepted b → ColumnsIn b d cs
    → (w : List ℕ) → IsWordOf (tables b) (λ j. get_or cs j []) w
    → first_fault (tables b) (start (tables b)) 0 (map single w) ≡ none
    → HasColumns b cs (with_steps b (map single w))
merged_has b d cs acc given w W fine =
    record {
      accepted = with_steps_accepted b limits xs small few (rw same_word (word_few b d cs acc given w W)) fine;
      same_tables = with_steps_same b limits xs small;
      same_columns = columns_are c cs (given.one_each ∙ sym reads.component_count_fact) each;
    }
  where
    xs : List ℕ
    xs = map single w

    c : List ℕ
    c = with_steps b xs

    limits : InLimits b
    limits = accepted_limits b acc

    fits : (a : ℕ) → Memᴰ a w → a < 64
    fits = word_fits (tables b) (accepted_order b acc) w W.over

    small : (x : ℕ) → Memᴰ x xs → x < 2 ^ 64
    small = singles_small w fits

    same_word : flat xs ≡ w
    same_word = flat_singles w fits

    few : length xs ≤ most_steps
    few = let most = word_few b d cs acc given w W in rw length-map (omega arith)

    reads : ReadsBack (front b) (component_count b) (action_count b) xs
    reads = with_steps_reads b limits xs small

    each : (j : ℕ) → j < component_count c → column (tables c) (flat (steps c)) j ≡ get_or cs j []
    each j l =
        ap₂ (λ (T : Tables) (u : List ℕ). column T u j) (with_steps_tables b limits xs small) (ap flat reads.same_steps ∙ same_word)
        ∙ W.each j (rw (tables_components b) (rw reads.component_count_fact at l))

-- ---- no sheet has the columns (R19)

module _ {b : List ℕ} {cs : List (List ℕ)} {c : List ℕ} (h : HasColumns b cs c) where
  same : tables b ≡ tables c
  same = same_tables h.same_tables

  -- V1: the flat list of a sheet that has the columns is a word that has them
  pub has_word : IsWordOf (tables b) (λ j. get_or cs j []) (flat (steps c))
  has_word =
      record {
        over = rw same (accepted_word_fact c h.accepted);
        each = λ j l.
            ap (λ (T : Tables). column T (flat (steps c)) j) same
            ∙ sym (columns_at_fact c j (rw (ap (λ (T : Tables). T.components) same ∙ tables_components c) at l))
            ∙ ap (λ (l : List (List ℕ)). get_or l j []) h.same_columns;
      }

  -- V5: any other word that has them is related to it, and so runs without fault
  pub has_fine : (w : List ℕ) → IsWordOf (tables b) (λ j. get_or cs j []) w
      → first_fault (tables b) (start (tables b)) 0 (map single w) ≡ none
  has_fine w W =
      related_fault_none (tables b) (start (tables b)) (steps c) (map single w) (rw same (accepted_fine c h.accepted))
      (singles_formed (tables b) ok w W.over) (rw (flat_singles w (word_fits (tables b) ok w W.over)) related)
    where
      ok : InOrder (tables b)
      ok = rw same (accepted_order c h.accepted)

      related : Related (dependent (tables b)) (flat (steps c)) w
      related =
          (same_words (tables b) ok (flat (steps c)) w has_word.over W.over).0 (λ j l. has_word.each j l ∙ sym (W.each j l))

-- R19: none, where a word that has the columns does not run
pub merged_not : (b : List ℕ) (cs : List (List ℕ)) (w : List ℕ) → IsWordOf (tables b) (λ j. get_or cs j []) w
    → ¬ (first_fault (tables b) (start (tables b)) 0 (map single w) ≡ none) → ¬ Executable b cs
merged_not b cs w W fault e = fault (has_fine e.1 w W)

-- R19: none, where no word has the columns
pub no_word_not : (b : List ℕ) (cs : List (List ℕ)) → ((u : List ℕ) → ¬ IsWordOf (tables b) (λ j. get_or cs j []) u) → ¬ Executable b cs
no_word_not b cs no_word e = no_word (flat (steps e.0)) (has_word e.1)
