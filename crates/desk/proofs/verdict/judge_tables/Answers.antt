-- `verdict::judge_tables` meets its contract (O1, E5, S3): the refusal of the tables, or what the run over the parts of the sheet answers,
-- told again with the sizes, and leaves.
-- Assumes nothing.
use mathlib.Core.Path.{◌≡◌, ap, ◌∙◌}
use mathlib.Core.List.{List, ◌++◌}
use native.Mathlib.Omega.{arith}
use Prim.Native.Nat.{ℕ, ◌-◌, ◌≤◌}
use lib.ListN.{length, take, drop}
use lib.Seq.{take_at}
use Rattle.sheet.specs.declared.Component.{Component}
use Rattle.sheet.specs.Layout.{tables_of}
use Rattle.sheet.specs.Sections.{Decoded}
use Rattle.sheet.specs.Verdict.{accepted, tables_verdict}
use Rattle.answers.specs.declared.Sizes.{Sizes}
use Rattle.answers.specs.declared.Answer.TheVariants.{Accepted}
use Rattle.answers.specs.Outcomes.{outcome_of, read_outcome}
use Rattle.reading.specs.Reading.{TrailerPassed}
use Rattle.reading.proofs.Passing.{trailer_read}
use Rattle.machine.specs.Runs.{SystemOf}
use Rattle.desk.proofs.Parts.{sections_in, components_of}
use Rattle.desk.proofs.verdict.Judging.{refused_judged, tables_stopped, tables_verdict_fact, tables_told_accepted}
use Rattle.desk.proofs.verdict.Judging.{known_sizes, known_told, read_limits, system_read, run_judged, judged_told}
use Rattle.desk.proofs.verdict.judge_tables.Goals as goal

pub returns-in_default : goal.returns-in_default
returns-in_default c =
    let b = c.args.sheet.now in
    let a = c.read_tables-read.result in
    let stop = tables_stopped b a c.in_default.not-Accepted c.read_tables-read.ensures.0 in
    refused_judged b a (tables_verdict b accepted) stop (tables_verdict_fact b c.args.sizes c.requires stop) _

-- ---- none of 5 to 9 holds: the tables tell the sizes z that the trailer told

module _ (b : List ℕ) (z : Sizes) (passed : TrailerPassed b z) (w : Sizes)
    (told : outcome_of (Accepted w) ≡ read_outcome b (tables_verdict b accepted))
  where
    again : outcome_of (Accepted z) ≡ read_outcome b (tables_verdict b accepted)
    again = known_told b z passed w told

    sections : (z.t ≤ z.s) × (z.s ≤ length b)
    sections =
        let t = tables_told_accepted b z passed z again in
        let h = sections_in b z t.1 t.2 t.3 t.4 (read_limits b z passed z again) in
        (h.1, h.2)

    decoded : {components : List Component} → (Accepted w ≡ Accepted z → Decoded (tables_of (take z.s b) z.n z.m) components)
        → Decoded (tables_of (take z.s b) z.n z.m) components
    decoded h = h (ap Accepted (known_sizes b z passed w told))
        -- the components of the room are those that were read, whatever stands behind them

    front : {components : List Component} (rest : List Component)
        → (Accepted w ≡ Accepted z → Decoded (tables_of (take z.s b) z.n z.m) components) → take z.n (components ++ rest) ≡ components
    front {components} rest h = take_at components rest z.n ((decoded h).count ∙ components_of (take z.s b) z.n z.m)

    room_decoded : {components : List Component} (rest : List Component)
        → (Accepted w ≡ Accepted z → Decoded (tables_of (take z.s b) z.n z.m) components)
        → Decoded (tables_of (take z.s b) z.n z.m) (take z.n (components ++ rest))
    room_decoded rest h = rw (front rest h) (decoded h)

    room_system : {components : List Component} (rest : List Component)
        → (Accepted w ≡ Accepted z → Decoded (tables_of (take z.s b) z.n z.m) components)
        → SystemOf (tables_of (take z.s b) z.n z.m) z (take z.n (components ++ rest)) (take (z.s - z.t) (drop z.t b))
    room_system rest h = system_read b z passed z again _ (room_decoded rest h)

pub slice_bounds-read_tables-end : goal.slice_bounds-read_tables-end
slice_bounds-read_tables-end c = (trailer_read c.args.sheet.now c.args.sizes c.requires).n_high

pub slice_bounds-run_from_start-count : goal.slice_bounds-run_from_start-count
slice_bounds-run_from_start-count c = (sections _ c.args.sizes c.requires _ c.in-Accepted.ensures.0).0

pub slice_bounds-run_from_start-start : goal.slice_bounds-run_from_start-start
slice_bounds-run_from_start-start c = (sections _ c.args.sizes c.requires _ c.in-Accepted.ensures.0).0

pub slice_bounds-run_from_start-end : goal.slice_bounds-run_from_start-end
slice_bounds-run_from_start-end c = (sections _ c.args.sizes c.requires _ c.in-Accepted.ensures.0).1

pub step_section-requires : goal.step_section-requires
step_section-requires c = (trailer_read c.args.sheet.now c.args.sizes c.requires).trailer_last

pub run_from_start-run-requires : goal.run_from_start-run-requires
run_from_start-run-requires c =
    let low = (trailer_read c.args.sheet.now c.args.sizes c.requires).n_low in
    let told = c.in-Accepted.ensures in
    (record { tables = _; given = room_system _ c.args.sizes c.requires _ told.0 _ told.1 }, low)

pub returns : goal.returns
returns c =
    let b = c.args.sheet.now in
    let z = c.args.sizes in
    let told = c.in-Accepted.ensures in
    let run = c.run_from_start-run.ensures _ (room_system b z c.requires _ told.0 _ told.1) in
    judged_told b z c.requires c.refusal_or_sizes.ensures
    (run_judged b z c.requires z (again b z c.requires _ told.0) _ c.step_section.ensures c.run_from_start-run.result _
    (room_decoded b z c.requires _ told.0 _ told.1) run)
