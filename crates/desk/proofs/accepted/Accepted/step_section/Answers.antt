-- `Accepted::step_section` meets its contract (S5, L5): the section is that of the sheet, has its steps, and is not too long.
-- Assumes nothing.
use Rattle.desk.proofs.AcceptedFacts.{section_told, section_room, section_all}
use Rattle.desk.proofs.accepted.Accepted.step_section.Goals as goal

pub returns-clause-bytes : goal.returns-clause-bytes
returns-clause-bytes c = section_all _ _ c.args.self.now.judged.sheet _ c.step_section.ensures

pub returns-clause-steps : goal.returns-clause-steps
returns-clause-steps c = section_told _ _ c.args.self.now.judged.sheet _ c.step_section.ensures

pub returns-clause-short : goal.returns-clause-short
returns-clause-short c = section_room _ _ c.args.self.now.judged.sheet _ c.step_section.ensures
