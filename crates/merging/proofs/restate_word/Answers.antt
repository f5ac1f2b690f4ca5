-- V3, R19: where the run over the section has a fault 19 is answered; else restating its steps is restating the sheet with them.
use Rattle.std.proofs.Common.{refl, ap}
use Rattle.sheet.specs.Layout.{tables}
use Rattle.answers.specs.Outcomes.{outcome_of}
use Rattle.merging.specs.Words.{WordAnswer}
use Rattle.merging.proofs.RunWords.{run_fine, run_faulty, word_runs, word_restated}
use Rattle.merging.proofs.restate_word.Goals as goal

pub returns-in_default : goal.returns-in_default
returns-in_default c =
    let run = c.run_from_start-run.ensures (tables c.args.restatable.now.accepted.now.sheet.now) c.transition_section-system.ensures in
    WordAnswer.faulty (run_faulty run c.in_default.not-Accepted) (ap outcome_of c.refuse.ensures) refl

pub restate_steps-requires : goal.restate_steps-requires
restate_steps-requires c =
    let run = c.run_from_start-run.ensures (tables c.args.restatable.now.accepted.now.sheet.now) c.transition_section-system.ensures in
    word_runs c.args.restatable.now.accepted.now.judged.sheet.sheet_accepted c.requires (run_fine run c.in-Accepted.is)

pub returns : goal.returns
returns c =
    let run = c.run_from_start-run.ensures (tables c.args.restatable.now.accepted.now.sheet.now) c.transition_section-system.ensures in
    let fine = run_fine run c.in-Accepted.is in
    WordAnswer.runs fine
    (word_restated c.args.restatable.now.accepted.now.judged.sheet.sheet_accepted c.requires fine c.restate_steps.ensures)
