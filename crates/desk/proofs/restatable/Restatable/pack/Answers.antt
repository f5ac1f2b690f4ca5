-- `Restatable::pack` meets its contract (N8): the sheet's own steps run, and packed they are the restated ones.
-- Assumes nothing.
use mathlib.Core.Path.{◌∙◌}
use Rattle.desk.proofs.restatable.PackedSheets.{own_runs, own_normal}
use Rattle.desk.proofs.restatable.Restatable.pack.Goals as goal

pub pack_section-requires : goal.pack_section-requires
pack_section-requires c =
    let e = c.step_section.ensures in
    (own_runs _ c.args.self.now.accepted.now.judged.sheet.sheet_accepted _ e.steps e.short, rw e.steps c.requires)

pub returns : goal.returns
returns c = c.pack_section.ensures ∙ own_normal _ _ c.step_section.ensures.steps
