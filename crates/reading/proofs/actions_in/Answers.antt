-- `reading::actions_in`, which serves R9 and A4: the actions of one step more are counted, and none are behind the last step.
-- Assumes nothing.
use Rattle.std.proofs.Common.{◌≡◌, ap, ◌∙◌, arith, List, ℕ, ◌+◌, ◌*◌, ◌/◌, ◌<◌, length, drop, length-append}
use Rattle.sets.specs.Bits.{members}
use Rattle.systems.specs.Checking.{flat}
use Rattle.sheet.specs.Numbers.{field}
use Rattle.sheet.specs.Sections.{steps_in}
use Rattle.sheet.proofs.Sections.{flat_step, flat_none}
use Rattle.reading.proofs.actions_in.Goals as goal

-- the actions of the step k are counted
count_more : (b : List ℕ) (k x more sum total : ℕ) → k < length b / 8 → x ≡ field (8 * k) 8 b → more ≡ length (members x)
    → sum + length (flat (drop k (steps_in b))) ≡ total → sum + more + length (flat (drop (k + 1) (steps_in b))) ≡ total
count_more b k x more sum total h e f g =
    let one = ap length (flat_step b k x h e) ∙ length-append (members x) (flat (drop (k + 1) (steps_in b))) in
    omega arith

pub loop-k-preserved : goal.loop-k-preserved
loop-k-preserved c =
    let l = c.loop-k in (
      omega arith,
      count_more c.args.section.now l.k c.step_at.result c.from-sum.result l.sum _ (omega arith) c.step_at.ensures
          (c.from-sum.ensures ∙ c.count.ensures.0) l.invariant.1,
    )

pub returns : goal.returns
returns c = omega (arith, ap length (flat_none c.args.section.now c.loop-k.k (omega arith)), c.loop-k.invariant.1)
