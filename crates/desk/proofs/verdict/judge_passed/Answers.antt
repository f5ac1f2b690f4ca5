-- `verdict::judge_passed` meets its contract (O1, E5, S3): what judging the tables of the whole sheet answers and leaves, told with the sizes.
-- Assumes nothing.
use mathlib.Core.Path.{subst}
use mathlib.Core.List.{List}
use Prim.Native.Nat.{ℕ}
use Rattle.desk.specs.Left.{Judged}
use Rattle.desk.proofs.verdict.Judging.{judged_told, part_whole}
use Rattle.desk.proofs.verdict.judge_passed.Goals as goal

pub returns : goal.returns
returns c =
    judged_told c.args.sheet.now c.args.sizes c.requires c.refusal_or_sizes.ensures
    (subst (λ (b : List ℕ). Judged b c.judge_tables.result c.judge_tables.new.room) (part_whole c.args.sheet.now) c.judge_tables.ensures)
