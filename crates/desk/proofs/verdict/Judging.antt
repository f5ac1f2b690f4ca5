-- O1: from what the readers and the run answer to the verdict on the sheet, its end sets and the components of each action.
-- Assumes nothing.
use mathlib.Core.Path.{◌≡◌, refl, sym, ap, ap₂, subst, ◌∙◌}
use mathlib.Core.List.{List}
use Prim.Native.Nat.{ℕ, ◌-◌}
use native.Mathlib.Omega.{arith}
use lib.ListN.{length, take, drop}
use lib.Seq.{length-take-le, take_all}
use Rattle.std.proofs.lemmas.List.{get_or-take}
use Rattle.systems.specs.Tables.{Tables}
use Rattle.systems.specs.Running.{start}
use Rattle.systems.specs.Checking.{first_fault}
use Rattle.sheet.specs.declared.Component.{Component}
use Rattle.sheet.specs.Layout.{component_count, action_count, transitions_at, steps_at, tables_of, tables, steps}
use Rattle.sheet.specs.Limits.{InLimits}
use Rattle.sheet.specs.Verdict.{Verdict, accepted, refused, of_fault, trailer_verdict, tables_verdict, steps_verdict, verdict}
use Rattle.sheet.proofs.Guards.{trailer_guard, tables_guard, guard_stopped, guard_passed}
use Rattle.sheet.proofs.RoundTrip.{section_steps}
use Rattle.sheet.proofs.Verdicts.{passed_limits}
use Rattle.answers.specs.declared.Sizes.{Sizes}
use Rattle.answers.specs.declared.Answer.{Answer}
use Rattle.answers.specs.declared.Answer.TheVariants.{Accepted as AcceptedAnswer}
use Rattle.answers.specs.Outcomes.{Outcome, number_of, outcome_of, after, read_outcome}
use Rattle.answers.specs.Ends.{end_set}
use Rattle.answers.proofs.Restated.{accepted_fine}
use Rattle.answers.proofs.Passing.{NotAccepted, IsRefusal, stopped_by, told_accepted, same_sizes}
use Rattle.reading.specs.Reading.{TrailerPassed, up_to_trailer}
use Rattle.reading.proofs.Passing.{trailer_then}
use Rattle.sheet.specs.Sections.{steps_in, Decoded}
use Rattle.machine.specs.Runs.{SystemOf, RunFromStart}
use Rattle.desk.proofs.Parts.{tables_told, system_given}
use Rattle.desk.specs.Left.{ToldWithSizes, Judged}
use Rattle.desk.specs.declared.verdict.Room.{Room}

-- ---- a refused sheet leaves nothing that is promised

module _ (b : List ℕ) (r : Answer) (v : Verdict) (s : IsRefusal r v) (same : verdict b ≡ refused (number_of s.refusal) s.index) where
  pub refused_told : outcome_of r ≡ read_outcome b (verdict b)
  refused_told = rw (s.answer_told, same) refl

  pub refused_judged : (room : Room) → Judged b r room
  refused_judged room =
      record { answer_told = refused_told; room_left = λ acc. let z : ◌≡◌ {A = ℕ} 0 1 = cc in absurd (omega arith) }

module _ (b : List ℕ) (r : Answer) (h : NotAccepted r) where
  -- by the trailer
  pub trailer_stopped : (e : outcome_of r ≡ read_outcome b (trailer_verdict b accepted)) → IsRefusal r (trailer_verdict b accepted)
  trailer_stopped e = stopped_by r h (trailer_verdict b accepted) (component_count b) (action_count b) (transitions_at b) (steps_at b) e

  pub trailer_verdict_fact : (s : IsRefusal r (trailer_verdict b accepted)) → verdict b ≡ refused (number_of s.refusal) s.index
  unfolding verdict
  trailer_verdict_fact s = guard_stopped (trailer_guard b) (number_of s.refusal) s.index s.verdict_told (tables_verdict b (steps_verdict b))

  -- by the tables
  pub tables_stopped : (e : outcome_of r ≡ read_outcome b (tables_verdict b accepted)) → IsRefusal r (tables_verdict b accepted)
  tables_stopped e = stopped_by r h (tables_verdict b accepted) (component_count b) (action_count b) (transitions_at b) (steps_at b) e

-- ---- a trailer that passed

module _ (b : List ℕ) (z : Sizes) (t : TrailerPassed b z) where
  abbrev trailer_told : (trailer_verdict b accepted ≡ accepted) × (z.n ≡ component_count b) × (z.m ≡ action_count b) × (z.t ≡ transitions_at b)
      × (z.s ≡ steps_at b)
  trailer_told = told_accepted z (trailer_verdict b accepted) (component_count b) (action_count b) (transitions_at b) (steps_at b) t

  pub verdict_then : verdict b ≡ tables_verdict b (steps_verdict b)
  unfolding verdict
  verdict_then = trailer_then b z t (tables_verdict b (steps_verdict b))

  pub tables_verdict_fact : {r : Answer} (s : IsRefusal r (tables_verdict b accepted)) → verdict b ≡ refused (number_of s.refusal) s.index
  tables_verdict_fact s = verdict_then ∙ guard_stopped (tables_guard b) (number_of s.refusal) s.index s.verdict_told (steps_verdict b)

  module _ (w : Sizes) (e : outcome_of (AcceptedAnswer w) ≡ read_outcome b (tables_verdict b accepted)) where
    abbrev pub tables_told_accepted : (tables_verdict b accepted ≡ accepted) × (w.n ≡ component_count b) × (w.m ≡ action_count b)
        × (w.t ≡ transitions_at b) × (w.s ≡ steps_at b)
    tables_told_accepted = told_accepted w (tables_verdict b accepted) (component_count b) (action_count b) (transitions_at b) (steps_at b) e

    -- the readers tell the same sizes
    pub known_sizes : w ≡ z
    known_sizes = same_sizes w z (e ∙ ap (read_outcome b) tables_told_accepted.0 ∙ sym (t ∙ ap (read_outcome b) trailer_told.0))

    -- so the sizes of the trailer are told by the tables too
    pub known_told : outcome_of (AcceptedAnswer z) ≡ read_outcome b (tables_verdict b accepted)
    known_told = ap (λ (x : Sizes). outcome_of (AcceptedAnswer x)) (sym known_sizes) ∙ e

    -- none of 1 to 9 holds
    pub read_limits : InLimits b
    read_limits = passed_limits b trailer_told.0 tables_told_accepted.0

    verdict_steps : verdict b ≡ of_fault (first_fault (tables b) (start (tables b)) 0 (steps b))
    unfolding steps_verdict
    verdict_steps = verdict_then ∙ (guard_passed (tables_guard b) tables_told_accepted.0).1 (steps_verdict b)

    -- what the run over the steps answers, and leaves in the room beside the decoded records
    sheet_judged : (r : Answer) (room : Room) → Decoded (tables b) (take w.n room.components) → RunFromStart (tables b) w (steps b) r room.held → Judged b r room
    unfolding end_set tables tables_of
    sheet_judged r room d h =
        let n = tables_told_accepted.1 in
        let few = read_limits.components_high in
        let size = h.left.size in
        record {
          answer_told = h.answer
              ∙ ap₂ (λ (v : Verdict) (x : Outcome (List ℕ)). after v x) (sym verdict_steps)
              (e ∙ ap (read_outcome b) tables_told_accepted.0);
          room_left = λ acc. record {
            decoded = subst (λ (k : ℕ). Decoded (tables b) (take k room.components)) n d;
            ends =
                record {
                  count = length-take-le (component_count b) room.held (omega arith);
                  each = λ j l. get_or-take (component_count b) room.held j 0 l ∙ h.left.ends (accepted_fine b acc) j l;
                };
          };
        }

    abbrev same_tables : tables_of (take w.s b) w.n w.m ≡ tables b
    same_tables = tables_told b w.n w.m w.s tables_told_accepted.1 tables_told_accepted.2 tables_told_accepted.4

    -- what the machine is handed (S3, S4)
    pub system_read : (components : List Component) → Decoded (tables_of (take w.s b) w.n w.m) components
        → SystemOf (tables_of (take w.s b) w.n w.m) w components (take (w.s - w.t) (drop w.t b))
    system_read =
        let told = tables_told_accepted in
        system_given b w told.1 told.2 told.3 told.4 read_limits

    -- the run over the parts is that of the sheet
    pub run_judged : (p : List ℕ) → p ≡ up_to_trailer w.s b → (r : Answer) (room : Room) → Decoded (tables_of (take w.s b) w.n w.m) (take w.n room.components)
        → RunFromStart (tables_of (take w.s b) w.n w.m) w (steps_in p) r room.held → Judged b r room
    run_judged p part r room d h =
        let xs : steps_in p ≡ steps b =
        section_steps b p read_limits (part ∙ ap (λ (k : ℕ). up_to_trailer k b) tables_told_accepted.4) in
        sheet_judged r room (subst (λ (T : Tables). Decoded T (take w.n room.components)) same_tables d) (rw (sym same_tables, sym xs) h)

-- ---- an answer told again, with the sizes

module _ (b : List ℕ) (z : Sizes) (t : TrailerPassed b z) {a r : Answer} (told : ToldWithSizes a z r) where
  pub judged_told : {room : Room} → Judged b a room → Judged b r room
  judged_told h =
      record {
        answer_told = told b (verdict b) (t ∙ ap (read_outcome b) (trailer_told b z t).0) h.answer_told;
        room_left = h.room_left;
      }

-- ---- a sheet handed on as its part from 0 to its end: that is all of it

pub part_whole : (b : List ℕ) → take (length b - 0) b ≡ b
part_whole b = take_all (length b - 0) b (omega arith)
