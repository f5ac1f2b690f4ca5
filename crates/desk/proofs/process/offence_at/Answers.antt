-- `process::offence_at` meets its contract (N7): the section read is that of the sheet, over its own alphabets.
-- Assumes nothing.
use Rattle.sheet.specs.Layout.{tables}
use Rattle.sheet.proofs.Sections.{decoded_alphabets}
use Rattle.answers.proofs.Restated.{accepted_order}
use Rattle.desk.proofs.AcceptedFacts.{steps_below}
use Rattle.desk.proofs.process.offence_at.Goals as goal

pub returns : goal.returns
returns c =
    let j = c.args.accepted.now.judged in
    let b = c.args.accepted.now.sheet.now in
    let acc = j.sheet.sheet_accepted in
    let same = c.step_section.ensures.steps in
    let found = c.first_offence.ensures (tables b) (accepted_order b acc) (decoded_alphabets j.decoded) (rw same (steps_below b acc)) in
    rw same at found
