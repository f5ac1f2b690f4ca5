-- S6: where a reader tells sizes and none of R1 to R4 holds, they are those of the sheet, and the bounds follow.
-- Assumes nothing.
use mathlib.Core.Path.{◌≡◌}
use mathlib.Core.List.{List}
use Prim.Native.Nat.{ℕ}
use native.Mathlib.Omega.{arith}
use Rattle.sheet.specs.Layout.{component_count, action_count, transitions_at, steps_at}
use Rattle.sheet.specs.Refusals.{refusal}
use Rattle.sheet.specs.Verdict.{Verdict}
use Rattle.sheet.proofs.Guards.{NoRefusal}
use Rattle.sheet.proofs.Limits.{length_right, counts_right, offsets_right}
use Rattle.answers.specs.declared.Sizes.{Sizes}
use Rattle.answers.specs.declared.Answer.TheVariants.{Accepted}
use Rattle.answers.specs.Outcomes.{outcome_of, read_outcome}
use Rattle.answers.specs.SizesRead.{SizesRead}
use Rattle.answers.proofs.Passing.{told_accepted}

-- S6, R1 to R4: whatever the verdict v behind the answer is
pub sizes_read : (b : List ℕ) (z : Sizes) (v : Verdict) → outcome_of (Accepted z) ≡ read_outcome b v → NoRefusal b 1 5 → SizesRead b z
unfolding refusal
sizes_read b z v e none-holds =
    let told = told_accepted z v (component_count b) (action_count b) (transitions_at b) (steps_at b) e in
    let long = (length_right b).0 (none-holds 1 (omega arith) (omega arith)) in
    let counts = (counts_right b).0 (none-holds 3 (omega arith) (omega arith)) in
    let offsets = (offsets_right b long.0).0 (none-holds 4 (omega arith) (omega arith)) in
    record {
      n_read = told.1;
      m_read = told.2;
      t_read = told.3;
      s_read = told.4;
      n_low = omega arith;
      n_high = omega arith;
      m_high = omega arith;
      t_next = omega arith;
      s_behind = omega arith;
      trailer_last = omega arith;
      steps_fit = omega arith;
      length_high = long.1;
    }
