-- `transitions::label_wrong`, which serves R7: a set has no element from 64 on, since it is below 2 ^ 64.
-- Assumes nothing.
use Rattle.std.proofs.Common.{◌≡◌, sym, ap, ◌∙◌, arith, ℕ, ◌^◌, ◌<◌, ◌≤◌}
use Rattle.std.specs.Prelude.{Bool, false, not, ◌||◌}
use mathlib.Core.Bool.{or-false}
use Rattle.sets.specs.Bits.{member}
use Rattle.sets.proofs.Bools.{false_iff}
use Rattle.sets.proofs.Members.{member_lt}
use Rattle.reading.proofs.transitions.label_wrong.Goals as goal
use Rattle.reading.proofs.transitions.label_wrong.Goals.{else-label-lt64-via-then-label-lt64+else-has, else-label-lt64-via-else-label-lt64}

beyond : (x label : ℕ) → 64 ≤ label → x < 2 ^ 64 → member x label ≡ false
beyond x label h l = (false_iff (member x label)).1 (λ t. let b = member_lt 64 x label l t in omega arith)

not_in : (p q : Bool) → q ≡ false → not p ≡ not (p || q)
not_in p q e = ap not (sym (ap (λ (t : Bool). p || t) e ∙ or-false p))

pub returns : goal.returns
returns c =
    elim c.else-label-lt64.branch [
      | else-label-lt64-via-then-label-lt64+else-has w ↦ not_in _ _ (ap (member c.args.alphabet) (sym w.from.ensures) ∙ sym w.has.ensures ∙ w.if-has.false)
      | else-label-lt64-via-else-label-lt64 w ↦ not_in _ _ (beyond c.args.alphabet c.args.label w.if-label-lt64.false (omega arith))
    ]
