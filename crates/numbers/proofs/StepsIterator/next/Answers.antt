-- S5: the first step is read from the first eight bytes, and the section behind them has the others.
use Rattle.std.proofs.Common.{ap₂, sym, ◌∙◌, ◌∷◌, List, ℕ}
use Rattle.sheet.specs.Sections.{steps_in}
use Rattle.numbers.proofs.Bytes.{first_step, behind_first}
use Rattle.numbers.proofs.StepsIterator.next.Goals as goal

pub returns-clause-steps : goal.returns-clause-steps
returns-clause-steps c =
    let b = c.args.self.now.section.now in
    first_step b c.if-self-lt8.false
    ∙ ap₂ (λ (x : ℕ) (l : List ℕ). x ∷ steps_in l) (sym c.step_at-step.ensures) (sym (behind_first b))
