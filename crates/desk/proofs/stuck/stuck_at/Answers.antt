-- `stuck::stuck_at` meets its contract (A5): every action is tried in the end sets.
-- Assumes nothing.
use mathlib.Core.Path.{◌∙◌}
use Rattle.answers.proofs.Restated.{accepted_order}
use Rattle.desk.proofs.stuck.EndsHeld.{transitions_within, stuck_told}
use Rattle.desk.proofs.stuck.stuck_at.Goals as goal

pub none_enabled-requires : goal.none_enabled-requires
none_enabled-requires c =
    let j = c.args.restatable.now.accepted.now.judged in (
      transitions_within _ _ j.sheet _ j.ends_told _ c.transition_section.ensures.system.told,
      j.sheet.sizes_read.m_high,
      c.args.restatable.now.entered.size,
    )

pub returns : goal.returns
returns c =
    let j = c.args.restatable.now.accepted.now.judged in
    let told = c.transition_section.ensures.system.told in
    c.none_enabled.ensures _ (accepted_order _ j.sheet.sheet_accepted) told c.args.restatable.now.entered
    ∙ stuck_told _ _ j.sheet _ j.ends_told _ told
