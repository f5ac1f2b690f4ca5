-- An accepted sheet with its sizes, as the calls know it once it was checked: its alphabets, its dependence and its steps.
-- Assumes nothing.
use mathlib.Core.Path.{◌≡◌, sym, ap, ap₂, ◌∙◌, subst}
use mathlib.Core.List.{List}
use Prim.Native.Nat.{ℕ, ◌-◌, ◌*◌, ◌/◌, ◌≤◌}
use native.Mathlib.Omega.{arith}
use lib.ListN.{length, take, drop, length-drop}
use Rattle.systems.specs.Running.{start}
use Rattle.systems.specs.Checking.{flat}
use Rattle.systems.proofs.Faults.{fault_none}
use Rattle.systems.proofs.Executions.{flat_below}
use Rattle.sheet.specs.declared.Component.{Component}
use Rattle.sheet.specs.Bounds.{step_size, trailer_size, most_components, most_steps, most_in_steps}
use Rattle.sheet.specs.Layout.{transitions_at, steps_at, component_count, action_count, front, tables, steps, step_count}
use Rattle.sheet.specs.Sections.{steps_in, Decoded}
use Rattle.sheet.specs.Verdict.{verdict, Accepted}
use Rattle.systems.specs.Tables.{Tables, WordOver}
use Rattle.sheet.proofs.Limits.{limits_exact}
use Rattle.sheet.proofs.RoundTrip.{section_steps, sections_length}
use lib.Seq.{length-take-le}
use Rattle.answers.specs.declared.Sizes.{Sizes}
use Rattle.answers.specs.declared.Answer.{Answer}
use Rattle.answers.specs.declared.Answer.TheVariants.{Accepted as AcceptedAnswer}
use Rattle.answers.specs.Outcomes.{given, values, outcome_of, after, read_outcome}
use Rattle.answers.specs.Leaner.{step_section}
use Rattle.reading.specs.Reading.{up_to_trailer}
use Rattle.machine.specs.Runs.{SystemOf}
use Rattle.desk.proofs.Parts.{sections_in, section_short, tables_told, system_given}
use Rattle.answers.proofs.Passing.{NotAccepted, passed_on, told_accepted}
use Rattle.answers.proofs.SizesRead.{sizes_read}
use Rattle.answers.proofs.Restated.{accepted_limits, accepted_order, accepted_fine}
use Rattle.desk.specs.AcceptedSheet.{AcceptedSheet, EndsOf, JudgedSheet}
use Rattle.desk.specs.Calls.{CheckAnswer}
use Rattle.desk.specs.Left.{Judged}
use Rattle.desk.specs.declared.verdict.Room.{Room}

-- N1: where the check told sizes, the sheet is accepted, and they are its own (S6), within the limits
pub accepted_sheet : (b : List ℕ) (z : Sizes) → outcome_of (AcceptedAnswer z) ≡ read_outcome b (verdict b) → AcceptedSheet b z
accepted_sheet b z e =
    let acc = (told_accepted z (verdict b) (component_count b) (action_count b) (transitions_at b) (steps_at b) e).0 in
    record {
      sheet_accepted = acc;
      sizes_read = sizes_read b z (verdict b) e (λ k low high. (limits_exact b).1 (accepted_limits b acc) k);
    }

-- N1, S3, E5: and what judging left in the room is the sheet's
pub judged_sheet : {b : List ℕ} {z : Sizes} {room : Room} → Judged b (AcceptedAnswer z) room → JudgedSheet b z (take z.n room.components) (take z.n room.held)
judged_sheet {b} {z} {room} j =
    let k = accepted_sheet b z j.answer_told in
    let left = j.room_left k.sheet_accepted in
    let n = sym k.sizes_read.n_read in
    record {
      sheet = k;
      decoded = subst (λ (i : ℕ). Decoded (tables b) (take i room.components)) n left.decoded;
      ends_told = subst (λ (i : ℕ). EndsOf b (take i room.held)) n left.ends;
    }

-- L1: and its components are few
pub components_few : {b : List ℕ} {z : Sizes} {room : Room} → Judged b (AcceptedAnswer z) room → z.n ≤ most_components
components_few {b} {z} j = (accepted_sheet b z j.answer_told).sizes_read.n_high

-- ---- a call that asks the check first (O1)

-- a refusal is passed on, whatever the call would give (O1)
pub check_refused : (b : List ℕ) (a : Answer) → NotAccepted a → CheckAnswer b a → {A : Type 0} (f : A → List ℕ) (x : A)
    → outcome_of a ≡ values f (after (verdict b) (given x))
check_refused b a h e f x = passed_on a h (verdict b) (component_count b) (action_count b) (transitions_at b) (steps_at b) e f (given x)

-- ---- alphabets and steps

-- every action in a step of an accepted sheet is one of its m actions (R10)
pub steps_below : (b : List ℕ) → Accepted b → WordOver (tables b) (flat (steps b))
steps_below b acc =
    flat_below (tables b) (accepted_order b acc) (steps b) ((fault_none (tables b) (start (tables b)) 0 (steps b)).0 (accepted_fine b acc)).0

module _ (b : List ℕ) (z : Sizes) (r : AcceptedSheet b z) where
  -- ---- the step section, handed over as a part p (F6)

  module _ (p : List ℕ) (e : p ≡ up_to_trailer z.s b) where
    -- its steps are those of the sheet (S5)
    pub section_told : steps_in p ≡ steps b
    section_told = section_steps b p (accepted_limits b r.sheet_accepted) (e ∙ ap (λ (s : ℕ). up_to_trailer s b) r.sizes_read.s_read)

    -- the steps are over the actions of the sheet (R10)
    pub section_over : WordOver (tables b) (flat (steps_in p))
    section_over = rw section_told (steps_below b r.sheet_accepted)

    -- L6: they have few actions together
    pub section_few : length (flat (steps_in p)) ≤ most_in_steps
    section_few = rw section_told (accepted_limits b r.sheet_accepted).actions_total

    -- L5: they are few themselves
    pub section_room : length p ≤ step_size * most_steps
    section_room = rw e (section_short b z.s r.sizes_read.s_read (accepted_limits b r.sheet_accepted))

    -- A2: it is the part that the leaner answer hands back
    pub section_all : p ≡ step_section b
    unfolding step_section
    section_all =
        let at = r.sizes_read.s_read in
        let whole = sections_length b (accepted_limits b r.sheet_accepted) in
        let size : length b - trailer_size - z.s ≡ step_size * step_count b = omega arith in
        e ∙ ap₂ (λ (k i : ℕ). take k (drop i b)) size at

  -- ---- where the sections stand (S2)

  pub sections_at : (z.t ≤ z.s) × (z.s ≤ length b)
  sections_at =
      let k = r.sizes_read in
      let h = sections_in b z k.n_read k.m_read k.t_read k.s_read (accepted_limits b r.sheet_accepted) in
      (h.1, h.2)

  -- S2: the bytes before S
  pub front_told : take z.s b ≡ front b
  unfolding front
  front_told = ap (λ (s : ℕ). take s b) r.sizes_read.s_read

  -- S7: how many steps there are
  pub steps_counted : (p : List ℕ) → p ≡ step_section b → length p / step_size ≡ step_count b
  unfolding step_section
  steps_counted p e =
      let l = accepted_limits b r.sheet_accepted in
      let whole = sections_length b l in
      let size : length p ≡ step_size * step_count b =
      ap length e ∙ length-take-le (step_size * step_count b) (drop (steps_at b) b) (rw length-drop (omega arith)) in
      omega arith

  -- S3, S4: what the machine is handed: the decoded records and the transitions of the sheet
  pub sheet_system : {components : List Component} → Decoded (tables b) components → SystemOf (tables b) z components (take (z.s - z.t) (drop z.t b))
  sheet_system {components} d =
      let k = r.sizes_read in
      let same = tables_told b z.n z.m z.s k.n_read k.m_read k.s_read in
      let given =
      system_given b z k.n_read k.m_read k.t_read k.s_read (accepted_limits b r.sheet_accepted) components
      (subst (λ (T : Tables). Decoded T components) (sym same) d) in
      subst (λ (T : Tables). SystemOf T z components (take (z.s - z.t) (drop z.t b))) same given
