-- N7: the first offence among the steps of an accepted sheet, told as one past its index.
-- Assumes nothing.
use mathlib.Core.Path.{◌≡◌, sym, ap}
use mathlib.Core.List.{List, map}
use Prim.Native.Nat.{ℕ, ◌+◌, ◌≤◌}
use native.Mathlib.Omega.{arith}
use lib.ListN.{length, length-map}
use Rattle.std.specs.Prelude.{Option, None, Some}
use Rattle.std.proofs.Math.Option as math
use Rattle.sets.specs.Bits.{members}
use Rattle.traces.specs.Offences.{first_offence, offending}
use Rattle.traces.proofs.Offences.{offence_first}
use Rattle.systems.specs.Independence.{dependent}
use Rattle.sheet.specs.Bounds.{most_steps}
use Rattle.sheet.specs.Layout.{tables, steps, step_count}
use Rattle.sheet.specs.Verdict.{Accepted}
use Rattle.sheet.proofs.RoundTrip.{steps_length}
use Rattle.answers.proofs.Restated.{accepted_limits}
use Rattle.desk.specs.Left.{OffenceAt}

abbrev pub offence : List ℕ → math.Option ℕ
offence b = first_offence (dependent (tables b)) (map members (steps b))

-- L5: an accepted sheet has few steps
steps_few : (b : List ℕ) → Accepted b → length (steps b) ≤ most_steps
unfolding step_count
steps_few b acc =
    let l = steps_length b in
    let k = (accepted_limits b acc).trailer_last in
    let few = k.1 in
    let whole = k.2 in
    omega arith

-- so the index of a step is small
pub index_few : (b : List ℕ) → Accepted b → (k : ℕ) → offence b ≡ math.some k → k ≤ most_steps
index_few b acc k e =
    let first = (offence_first (dependent (tables b)) (map members (steps b)) k).0 e in
    let index = first.index in
    let below = first.step_below in
    let size = length-map (steps b) members in
    let few = steps_few b acc in
    omega arith

-- one past it, or 0, is the number that is told
abbrev pub told : Option ℕ → ℕ
told None = 0
told (Some k) = k + 1

pub told_right : (b : List ℕ) (r : Option ℕ) → OffenceAt b r → told r ≡ offending (offence b)
told_right b None e = ap offending (sym e)
told_right b (Some k) e = ap offending (sym e)
