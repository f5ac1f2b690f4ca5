-- The steps of a step section: how many there are, each as it is read from its 8 bytes (S5), and their actions step by step (N2), of which
-- there are not too many.
-- Decoded records, which are those of all tables with the same components (S3).
-- Assumes nothing.
use mathlib.Core.Path.{◌≡◌, refl, sym, ap, ap₂, ◌∙◌}
use mathlib.Core.List.{List, [], ◌∷◌, ◌++◌}
use Prim.Native.Nat.{ℕ, zero, suc, ◌+◌, ◌*◌, ◌/◌, ◌≤◌, ◌<◌}
use native.Mathlib.Numerals.{add-one}
use native.Mathlib.Omega.{arith}
use lib.ListN.{length, get_or, drop, length-append, drop_of_length-le}
use lib.Seq.{drop-cons}
use Rattle.sets.specs.Bits.{members}
use Rattle.sets.proofs.Members.{members_few}
use Rattle.systems.specs.Tables.{Tables}
use Rattle.systems.specs.Checking.{flat}
use Rattle.sheet.specs.declared.Component.{Component}
use Rattle.sheet.specs.Bounds.{most_in_steps}
use Rattle.sheet.specs.Numbers.{field}
use Rattle.sheet.specs.Sections.{steps_in, base_of, Alphabets, Decoded}
use Rattle.sheet.proofs.Numbers.{numbers_length, numbers_at}

-- a step has at most 64 actions (S5)
flat_few : (xs : List ℕ) → length (flat xs) ≤ 64 * length xs
flat_few [] = omega arith
flat_few (x ∷ xs) =
    let both = length-append (members x) (flat xs) in
    let one = members_few x in
    let others = flat_few xs in
    omega arith

module _ (b : List ℕ) where
  -- S7: a step for each 8 bytes
  pub steps_in_length : length (steps_in b) ≡ length b / 8
  steps_in_length = numbers_length 8 (length b / 8) b

  -- S5: each step is read from its 8 bytes
  pub steps_in_at : (k : ℕ) → k < length b / 8 → get_or (steps_in b) k 0 ≡ field (8 * k) 8 b
  steps_in_at k h = numbers_at 8 (length b / 8) b k h

  -- so 16 steps have no more actions than all steps may have together (R9)
  pub short_few : length b ≤ 128 → length (flat (steps_in b)) ≤ most_in_steps
  short_few h =
      let most = flat_few (steps_in b) in
      let count = steps_in_length in
      omega arith

  -- the actions from the step k on are its own and those of the steps behind it (N2)
  pub flat_step : (k x : ℕ) → k < length b / 8 → x ≡ field (8 * k) 8 b → flat (drop k (steps_in b)) ≡ members x ++ flat (drop (k + 1) (steps_in b))
  flat_step k x h e =
      ap flat (drop-cons (steps_in b) k 0 (rw steps_in_length h))
      ∙ ap₂ (λ (y i : ℕ). members y ++ flat (drop i (steps_in b))) (steps_in_at k h ∙ sym e) (sym (add-one k))

  -- behind the last step there are no actions (N2)
  pub flat_none : (k : ℕ) → length b / 8 ≤ k → flat (drop k (steps_in b)) ≡ []
  flat_none k h = ap flat (drop_of_length-le (steps_in b) {i = k} (rw steps_in_length h))

-- ---- decoded records (S3)

-- where the states of component k begin follows from the numbers of states of the components before it
pub base_same : (A B : Tables) (k : ℕ) → ((i : ℕ) → i < k → A.states i ≡ B.states i) → base_of A k ≡ base_of B k
base_same A B zero h = refl
base_same A B (suc k) h = ap₂ (λ (x y : ℕ). x + y) (base_same A B k (λ i l. h i (omega arith))) (h k (omega arith))

-- the two tables say the same of component j
abbrev pub SameComponent : Tables → Tables → ℕ → Type 0
SameComponent A B j = (A.states j ≡ B.states j) × (A.initial j ≡ B.initial j) × (A.alphabet j ≡ B.alphabet j)

-- the decoded records of some tables are those of any others with the same components
pub decoded_same : (A B : Tables) (l : List Component) → A.components ≡ B.components → ((j : ℕ) → j < length l → SameComponent A B j)
    → Decoded A l → Decoded B l
decoded_same A B l e same D =
    record {
      count = D.count ∙ e;
      few = D.few;
      states_told = λ j h. D.states_told j h ∙ (same j h).0;
      initial_told = λ j h. D.initial_told j h ∙ (same j h).1;
      alphabet_told = λ j h. D.alphabet_told j h ∙ (same j h).2;
      base_told = λ j h. D.base_told j h ∙ base_same A B j (λ i b. (same i (omega arith)).0);
    }

-- decoded records have the alphabets
pub decoded_alphabets : {T : Tables} {l : List Component} → Decoded T l → Alphabets T l
decoded_alphabets D = record { count = D.count; each = D.alphabet_told }
