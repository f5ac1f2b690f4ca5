-- `Restatable::count_restated` meets its contract (N8).
-- Assumes nothing.
use mathlib.Core.Path.{ap, ◌∙◌}
use lib.ListN.{length}
use Rattle.desk.proofs.restatable.PackedSheets.{sixteen, own_runs, own_normal, levels_told}
use Rattle.desk.proofs.restatable.Restatable.count_restated.Goals as goal

pub count_levels-requires : goal.count_levels-requires
count_levels-requires c =
    let e = c.step_section.ensures in
    let acc = c.args.self.now.accepted.now.judged.sheet.sheet_accepted in
    (sixteen _ acc c.args.self.now.entered, (own_runs _ acc _ e.steps e.short).few)

pub returns : goal.returns
returns c =
    let e = c.step_section.ensures in
    let acc = c.args.self.now.accepted.now.judged.sheet.sheet_accepted in
    levels_told _ acc _ (own_runs _ acc _ e.steps e.short) c.args.self.now.entered _ c.count_levels.ensures
    ∙ ap length (own_normal _ _ e.steps)
