-- `process::process_check` meets its contract (N7): the first offence among the steps of an accepted sheet, else the sheet's refusal.
-- Assumes nothing.
use mathlib.Core.Path.{◌≡◌, ap, ◌∙◌, subst}
use mathlib.Core.List.{List}
use mathlib.Core.Option.{Option}
use Prim.Native.Nat.{ℕ}
use native.Mathlib.Omega.{arith}
use Rattle.std.proofs.lemmas.Grind.{common_steps}
use Rattle.traces.specs.Offences.{offending}
use Rattle.sheet.specs.Verdict.{verdict, Accepted}
use Rattle.answers.specs.Outcomes.{one_value}
use Rattle.answers.specs.ProcessCheck.{process_check}
use Rattle.answers.proofs.Passing.{told_given}
use Rattle.desk.specs.Left.{OffenceAt}
use Rattle.desk.proofs.AcceptedFacts.{check_refused}
use Rattle.desk.proofs.process.Offending.{offence, index_few, told, told_right}
use Rattle.desk.proofs.process.process_check.Goals as goal

abbrev numbers : Option ℕ → List ℕ
numbers o = one_value (offending o)

pub returns-in_default : goal.returns-in_default
unfolding process_check
returns-in_default c = check_refused _ _ c.in_default.not-Accepted c.judge-answer.ensures.answer_told numbers (offence c.args.sheet.now)

pub map_or-requires : goal.map_or-requires
map_or-requires c x e p q =
    let at = subst (OffenceAt c.of-accepted.result.sheet.now) e c.offence_at-offence.ensures in
    let few = index_few c.of-accepted.result.sheet.now c.of-accepted.result.judged.sheet.sheet_accepted x at in
    omega arith

pub returns : goal.returns
unfolding process_check
returns c =
    let b = c.args.sheet.now in
    let same = c.of-accepted.ensures.0 in
    let number : c.map_or.result ≡ told c.offence_at-offence.result = grind (arith, common_steps) in
    told_given numbers (verdict b) (offence b) _ (subst Accepted same c.of-accepted.result.judged.sheet.sheet_accepted)
    (ap one_value (number ∙ told_right _ _ c.offence_at-offence.ensures ∙ ap (λ (l : List ℕ). offending (offence l)) same))
