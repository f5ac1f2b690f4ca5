-- `oatmist_end_sets`, which serves E5: a refusal is handed back, else the sets are filled in.
use Rattle.std.proofs.Common.{◌≡◌, refl, sym, ap, subst, ◌∙◌, List, ℕ}
use Rattle.sheet.specs.Layout.{component_count, action_count, transitions_at, steps_at}
use Rattle.sheet.specs.Verdict.{Verdict, verdict}
use Rattle.answers.specs.declared.Answer.{Answer}
use Rattle.answers.specs.Outcomes.{Outcome, given, outcome_of, after}
use Rattle.answers.specs.Ends.{end_array, ends_outcome}
use Rattle.answers.proofs.Passing.{NotAccepted, IsRefusal, stopped_by, told_accepted}
use Rattle.desk.specs.Calls.{CheckAnswer, end_array_by}
use Rattle.oatmist.specs.Convention.{CAnswer, with_values}
use Rattle.oatmist.proofs.FitsWord.{fits_read, fits_told, handed_told}
use Rattle.oatmist.proofs.oatmist_end_sets.Goals as goal

stopped_ends : (b : List ℕ) (a : Answer) → IsRefusal a (verdict b) → outcome_of a ≡ ends_outcome b
unfolding ends_outcome
stopped_ends b a s = ap outcome_of s.answer_told ∙ ap (λ (v : Verdict). after v (given (end_array b))) (sym s.verdict_told)

refused_told : (b : List ℕ) (a : Answer) → NotAccepted a → CheckAnswer b a → outcome_of a ≡ ends_outcome b
refused_told b a h e = stopped_ends b a (stopped_by a h (verdict b) (component_count b) (action_count b) (transitions_at b) (steps_at b) e)

accepted_told : (b : List ℕ) → verdict b ≡ Verdict.accepted → given (end_array_by (verdict b) b) ≡ ends_outcome b
unfolding ends_outcome
accepted_told b acc = rw acc refl

pub hand-requires : goal.hand-requires
hand-requires c =
    fits_told c.end_sets-ended.result.answer _ c.end_sets-ended.ensures.answer_told (fits_read c.args.sheet.now _)

pub returns-in_default : goal.returns-in_default
returns-in_default c =
    let a = c.end_sets-ended.result.answer in
    handed_told a _ (refused_told c.args.sheet.now a c.in_default.not-Accepted c.end_sets-ended.ensures.answer_told) _ _ _ c.hand.ensures

pub returns : goal.returns
returns c =
    let b = c.args.sheet.now in
    let acc =
    (told_accepted c.in-Accepted.field-0 (verdict b) (component_count b) (action_count b) (transitions_at b) (steps_at b)
    (ap outcome_of (sym c.in-Accepted.is) ∙ c.end_sets-ended.ensures.answer_told)).0
    in
    subst (λ (o : Outcome (List ℕ)). CAnswer o 0 c.args.ends.now c.fill.new.out) (accepted_told b acc) (
      refl,
      c.fill.ensures ∙ ap (λ (xs : List ℕ). with_values xs c.args.ends.now) c.end_sets-ended.ensures.sets_told,
    )
