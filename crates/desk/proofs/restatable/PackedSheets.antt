-- N8: steps that run over the tables of an accepted sheet, with the participants of each action: they may be packed, and packed they are the
-- steps of their normal form, which are few.
-- Assumes nothing.
use mathlib.Core.Path.{◌≡◌, sym, ap, ap₂, ◌∙◌}
use mathlib.Core.List.{List, map}
use Prim.Native.Nat.{ℕ, ◌-◌, ◌*◌, ◌/◌, ◌≤◌}
use native.Mathlib.Omega.{arith}
use lib.ListN.{length, take, replicate, length-map}
use lib.Seq.{take-append_seam}
use Rattle.sets.specs.Bits.{set_of}
use Rattle.traces.specs.Foata.{foata}
use Rattle.systems.specs.Tables.{Tables, InOrder, WordOver}
use Rattle.systems.specs.Checking.{flat}
use Rattle.systems.specs.Independence.{dependent}
use Rattle.systems.specs.Running.{start}
use Rattle.systems.proofs.Faults.{fault_none}
use Rattle.systems.proofs.Executions.{flat_below}
use Rattle.sheet.specs.Bounds.{step_size, most_steps, most_components}
use Rattle.sheet.specs.Layout.{tables_of, tables, steps}
use Rattle.sheet.specs.Numbers.{number, parts}
use Rattle.sheet.specs.Sections.{steps_in}
use Rattle.sheet.specs.Verdict.{Accepted}
use Rattle.sheet.proofs.Numbers.{parts_length}
use Rattle.dependence.specs.participants.Participants.{OfSixteen, Participants}
use Rattle.dependence.proofs.participants.Entering.{participants_sixteen}
use Rattle.normal_form.specs.HoldsFoata.{HoldsFoata}
use Rattle.answers.specs.Restated.{normal, restated_steps}
use Rattle.answers.proofs.Normal.{normal_no_longer}
use Rattle.answers.proofs.Restated.{restated_normal, accepted_limits, accepted_order, accepted_fine}
use Rattle.desk.specs.AcceptedSheet.{SectionRuns}

module _ (b : List ℕ) (acc : Accepted b) where
  few_components : (tables b).components ≤ most_components
  unfolding tables tables_of
  few_components = (accepted_limits b acc).components_high

  -- L1, N8: what packing asks of the participants
  pub sixteen : {o : List ℕ} → Participants (tables b) o → OfSixteen o
  sixteen {o} p = participants_sixteen (tables b) o p few_components

  -- N1: the steps of the sheet itself run
  pub own_runs : (section : List ℕ) → steps_in section ≡ steps b → length section ≤ step_size * most_steps → SectionRuns b section
  own_runs section e short =
      record {
        fine = rw e (accepted_fine b acc);
        few = rw e (accepted_limits b acc).actions_total;
        short = short;
      }

  module _ (section : List ℕ) (g : SectionRuns b section) where
    over : WordOver (tables b) (flat (steps_in section))
    over = flat_below (tables b) (accepted_order b acc) (steps_in section) ((fault_none (tables b) (start (tables b)) 0 (steps_in section)).0 g.fine).0

    -- L5, N8: the steps of their normal form are few
    pub normal_few : length (normal (tables b) (steps_in section)) ≤ most_steps
    normal_few =
        let n = normal_no_longer (tables b) (accepted_order b acc) (steps_in section) g.fine in
        let size : length (steps_in section) ≡ length section / step_size =
        length-map (parts step_size (length section / step_size) section) number ∙ parts_length step_size (length section / step_size) section in
        let short = g.short in
        omega arith

    -- the normal form of the actions read
    abbrev placed : List (List ℕ)
    placed = foata (dependent (tables b)) (flat (steps_in section))

    -- what holds of the actions read for all tables that fit holds of the sheet's own
    of_sheet : {P : Tables → Type 0} {o : List ℕ} → Participants (tables b) o
        → ((T : Tables) → InOrder T → Participants T o → WordOver T (flat (steps_in section)) → P T) → P (tables b)
    of_sheet p h = h (tables b) (accepted_order b acc) p over

    module _ {o : List ℕ} (p : Participants (tables b) o) where
      -- N8: packed, they are the steps of the normal form
      module _ (packed : List ℕ) (count : ℕ)
          (h : (T : Tables) → InOrder T → Participants T o → WordOver T (flat (steps_in section))
          → HoldsFoata (dependent T) (flat (steps_in section)) packed count)
        where
          holds : HoldsFoata (dependent (tables b)) (flat (steps_in section)) packed count
          holds = of_sheet {P = λ T. HoldsFoata (dependent T) (flat (steps_in section)) packed count} p h

          pub packed_within : count ≤ length packed
          packed_within = holds.few

          pub packed_told : take count packed ≡ normal (tables b) (steps_in section)
          packed_told =
              ap₂ take (holds.counted ∙ sym (length-map placed set_of)) holds.packed_sets
              ∙ take-append_seam (map set_of placed) (replicate (length packed - count) 0)

      -- and counted alone
      pub levels_told : (count : ℕ) → ((T : Tables) → InOrder T → Participants T o → WordOver T (flat (steps_in section))
          → count ≡ length (foata (dependent T) (flat (steps_in section)))) → count ≡ length (normal (tables b) (steps_in section))
      levels_told count h =
          of_sheet {P = λ T. count ≡ length (foata (dependent T) (flat (steps_in section)))} p h ∙ sym (length-map placed set_of)

-- N8: of the sheet's own steps they are the restated ones
pub own_normal : (b section : List ℕ) → steps_in section ≡ steps b → normal (tables b) (steps_in section) ≡ restated_steps b
own_normal b section e = ap (normal (tables b)) e ∙ sym (restated_normal b)
