-- The verdict on a sheet: accepted, or the first refusal in the printed order with its step index (O1, O3, O4).
-- Assumes nothing.
use Rattle.std.specs.Prelude.{◌≡◌, Bool, true, false, List, ℕ, ◌<◌, length, get_or}
use Rattle.std.proofs.Math.Option.{Option, none, some}
use Rattle.systems.specs.Running.{start}
use Rattle.systems.specs.Checking.{Fault, first_fault, held_before, faulty, IsFirstFault}
use Rattle.sheet.specs.Layout.{tables, steps}
use Rattle.sheet.specs.Refusals.{length_wrong, mark_wrong, counts_wrong, offsets_wrong, records_wrong}
use Rattle.sheet.specs.Refusals.{action_unused, transitions_wrong, order_wrong, too_many_actions, refusal}

-- O4: a refusal has a number and the index of a step, counted from 0; the index is 0 up to 9
pub data Verdict : Type 0 where
  accepted : Verdict
  refused : ℕ → ℕ → Verdict

-- refusal k, with the index 0, where its condition holds; else the verdict v (O1, O4)
abbrev pub refuse_if : Bool → ℕ → Verdict → Verdict
refuse_if true k v = refused k 0
refuse_if false k v = v

-- the refusal of the fault, with its step index; accepted where there is none (O4)
abbrev pub of_fault : Option Fault → Verdict
of_fault none = accepted
of_fault (some f) = refused f.number f.index

-- refusals 10 to 12, from the start (O3)
unfoldable pub steps_verdict : List ℕ → Verdict
steps_verdict b = of_fault (first_fault (tables b) (start (tables b)) 0 (steps b))

-- refusals 1 to 4 in the printed order, those of the trailer; then v (O1)
abbrev pub trailer_verdict : List ℕ → Verdict → Verdict
trailer_verdict b v = refuse_if (length_wrong b) 1 (refuse_if (mark_wrong b) 2 (refuse_if (counts_wrong b) 3 (refuse_if (offsets_wrong b) 4 v)))

-- refusals 5 to 9 in the printed order, those of the tables and the count of actions; then v (O1)
abbrev pub tables_verdict : List ℕ → Verdict → Verdict
tables_verdict b v =
    refuse_if (records_wrong b) 5
    (refuse_if (action_unused b) 6
    (refuse_if (transitions_wrong b) 7
    (refuse_if (order_wrong b) 8
    (refuse_if (too_many_actions b) 9
    v))))

-- O1: the first refusal in the printed order, or accepted where there is none
unfoldable pub verdict : List ℕ → Verdict
verdict b = trailer_verdict b (tables_verdict b (steps_verdict b))

-- O1: what the verdict is to be, said by the conditions alone.
pub data IsVerdict (b : List ℕ) : Verdict → Type 0 where
  -- one of 1 to 9 holds, and none below it
  sheet_refused : (k : ℕ) → refusal b k ≡ true → ((i : ℕ) → i < k → refusal b i ≡ false) → IsVerdict b (refused k 0)
  -- none of 1 to 9 holds, and the fault is the first among the steps
  step_refused : (f : Fault) → ((i : ℕ) → refusal b i ≡ false) → IsFirstFault (tables b) (start (tables b)) (steps b) f
      → IsVerdict b (refused f.number f.index)
  -- none of 1 to 12 holds
  all_passed : ((i : ℕ) → refusal b i ≡ false)
      → ((i : ℕ) → i < length (steps b) → (k : ℕ)
      → faulty (tables b) (held_before (tables b) (start (tables b)) (steps b) i) (get_or (steps b) i 0) k ≡ false)
      → IsVerdict b accepted

-- N1: no refusal from 1 to 12 holds
abbrev pub Accepted : List ℕ → Type 0
Accepted b = verdict b ≡ accepted
