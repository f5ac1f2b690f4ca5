-- `reading::read_tables`, which serves R5 to R9, O1 and S3: where the trailer passed, the checkers' answers on the parts are the sheet's
-- refusals 5 to 9, and the decoded records are those of the bytes before the steps.
-- Assumes nothing.
use Rattle.std.proofs.Common.{◌≡◌, sym, ap, ◌∙◌, arith, List, ℕ, length, length-take}
use Rattle.std.specs.Prelude.{Bool, ltb}
use Rattle.systems.specs.Checking.{flat}
use Rattle.sheet.specs.Bounds.{most_in_steps}
use Rattle.sheet.specs.Layout.{tables}
use Rattle.sheet.specs.Refusals.{transitions_wrong, order_wrong, too_many_actions}
use Rattle.sheet.specs.Sections.{steps_in}
use Rattle.sheet.specs.Verdict.{Verdict, accepted, refuse_if}
use Rattle.answers.specs.declared.Sizes.{Sizes}
use Rattle.answers.specs.declared.Refusal.{Refusal}
use Rattle.answers.specs.declared.Answer.{Answer}
use Rattle.answers.specs.declared.Answer.TheVariants.{Accepted, Refused}
use Rattle.answers.specs.Outcomes.{refused, number_of, outcome_of, read_outcome}
use Rattle.answers.specs.SizesRead.{SizesRead}
use Rattle.reading.specs.Reading.{up_to_trailer}
use Rattle.reading.proofs.Passing.{trailer_read, trailer_then}
use Rattle.reading.proofs.Sections.{records_long, steps_short, decoded_part, decoded_read, records_told}
use Rattle.reading.proofs.Sections.{actions_told, transitions_told, two_refused, two_passed, count_told}
use Rattle.reading.proofs.read_tables.Goals as goal

-- a refusal, which tells no sizes
stopped : {a : Answer} {r : Refusal} {z : Sizes} {A : Type 0} → a ≡ Refused r 0 0 → (outcome_of a ≡ refused (number_of r) 0 0) × (a ≡ Accepted z → A)
stopped e = (ap outcome_of e, λ f. let n : ◌≡◌ {A = ℕ} 0 1 = cc in absurd (omega arith))

-- what comes behind refusals 5 to 8
abbrev behind : List ℕ → Verdict
behind b = refuse_if (too_many_actions b) 9 accepted

pub slice_bounds-front-end : goal.slice_bounds-front-end
slice_bounds-front-end c =
    let r = trailer_read c.args.sheet.now c.args.sizes c.requires.0 in omega (arith, length-take {A = ℕ})

pub decode-requires : goal.decode-requires
decode-requires c =
    let r = trailer_read c.args.sheet.now c.args.sizes c.requires.0 in
    let long = records_long r in
    (omega arith, omega arith)

pub returns-then-records_wrong : goal.returns-then-records_wrong
returns-then-records_wrong c =
    let r = trailer_read c.args.sheet.now c.args.sizes c.requires.0 in
    rw (records_told r c.records_wrong.ensures ∙ c.if-records_wrong.true) (stopped c.refuse.ensures)

pub returns-then-action_unused : goal.returns-then-action_unused
returns-then-action_unused c =
    let r = trailer_read c.args.sheet.now c.args.sizes c.requires.0 in
    let D = decoded_read r c.requires.1 c.decode.auto.components c.decode.ensures in
    rw (records_told r c.records_wrong.ensures ∙ c.if-records_wrong.false, actions_told r (omega arith) D c.action_unused.ensures ∙ c.if-action_unused.true)
    (stopped c.refuse-then-action_unused.ensures)

pub returns-in-Some : goal.returns-in-Some
returns-in-Some c =
    let b = c.args.sheet.now in
    let r = trailer_read b c.args.sizes c.requires.0 in
    let D = decoded_read r c.requires.1 c.decode.auto.components c.decode.ensures in
    let told = transitions_told r (c.refusal.ensures (tables b) D) in
    rw (
      records_told r c.records_wrong.ensures ∙ c.if-records_wrong.false,
      actions_told r (omega arith) D c.action_unused.ensures ∙ c.if-action_unused.false,
      two_refused (transitions_wrong b) (order_wrong b) (behind b) c.in-Some.refusal (sym c.in-Some.is ∙ told),
    )
    (stopped c.refuse-in-Some.ensures)

pub too_many-requires : goal.too_many-requires
too_many-requires c = rw c.step_section.ensures (steps_short (trailer_read c.args.sheet.now c.args.sizes c.requires.0))

-- whether there are too many actions, as they were counted in the step section
counted : {b : List ℕ} {z : Sizes} (r : SizesRead b z) {l : List ℕ} {x : Bool} → l ≡ up_to_trailer z.s b
    → x ≡ ltb most_in_steps (length (flat (steps_in l))) → too_many_actions b ≡ x
counted r e f = count_told r (f ∙ ap (λ (l : List ℕ). ltb most_in_steps (length (flat (steps_in l)))) e)

pub returns-then-too_many : goal.returns-then-too_many
returns-then-too_many c =
    let b = c.args.sheet.now in
    let r = trailer_read b c.args.sizes c.requires.0 in
    let D = decoded_read r c.requires.1 c.decode.auto.components c.decode.ensures in
    let told = transitions_told r (c.refusal.ensures (tables b) D) in
    rw (
      records_told r c.records_wrong.ensures ∙ c.if-records_wrong.false,
      actions_told r (omega arith) D c.action_unused.ensures ∙ c.if-action_unused.false,
      two_passed (transitions_wrong b) (order_wrong b) (behind b) (sym c.in_default.is ∙ told),
      counted r c.step_section.ensures c.too_many.ensures ∙ c.if-too_many.true,
    )
    (stopped c.refuse-then-too_many.ensures)

pub returns : goal.returns
returns c =
    let b = c.args.sheet.now in
    let z = c.args.sizes in
    let r = trailer_read b z c.requires.0 in
    let D = decoded_read r c.requires.1 c.decode.auto.components c.decode.ensures in
    let told = transitions_told r (c.refusal.ensures (tables b) D) in
    rw (
      records_told r c.records_wrong.ensures ∙ c.if-records_wrong.false,
      actions_told r (omega arith) D c.action_unused.ensures ∙ c.if-action_unused.false,
      two_passed (transitions_wrong b) (order_wrong b) (behind b) (sym c.in_default.is ∙ told),
      counted r c.step_section.ensures c.too_many.ensures ∙ c.if-too_many.false,
    ) (
      c.requires.0 ∙ ap (read_outcome b) (trailer_then b z c.requires.0 accepted),
      λ f. decoded_part r c.requires.1 c.decode.auto.components c.decode.ensures,
    )
