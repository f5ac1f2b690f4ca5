-- What the answers on one sheet are, proved: each record of `specs/OutcomeLaws.antt`.
-- Assumes nothing.
use mathlib.Core.Path.{◌≡◌, refl}
use mathlib.Core.List.{List}
use Prim.Native.Nat.{ℕ, ◌<◌, ◌≤◌}
use lib.ListN.{length}
use Rattle.sets.specs.Lists.{over}
use Rattle.sets.proofs.Bools.{ltb_true, ltb_false}
use Rattle.sets.proofs.Lists.{over_front, over_behind}
use Rattle.sets.proofs.Filling.{map_below_length, map_below_at}
use Rattle.sheet.specs.Bounds.{most_components}
use Rattle.sheet.specs.Layout.{component_count}
use Rattle.sheet.specs.Verdict.{verdict}
use Rattle.answers.specs.Outcomes.{given, refused, after}
use Rattle.answers.specs.Ends.{ends_outcome}
use Rattle.answers.specs.ProcessCheck.{process_check}
use Rattle.answers.specs.Figure.{figure_outcome}
use Rattle.answers.specs.Stuck.{stuck_outcome}
use Rattle.answers.specs.Report.{report, reporting, report_output}
use Rattle.answers.specs.OutcomeLaws.{OfAccepted, OneSheet, EndEntries, ReportLaws}
use Rattle.answers.proofs.LentOutput.{fitting_short, fitting_long}

-- ---- the refusal, or the value

of_verdict : {A : Type 0} (value : List ℕ → A) → OfAccepted (λ b. after (verdict b) (given (value b))) value
of_verdict value = record { of_refused = λ b k i e. rw e; of_accepted = λ b acc. rw acc }

-- S6, E5, N7, A4, A5: the refusal of a refused sheet; of an accepted one the sizes, end sets, process check, figure, stuck
pub one_sheet : OneSheet
unfolding ends_outcome process_check figure_outcome stuck_outcome
one_sheet =
    record {
      sizes_told_fact = of_verdict _;
      ends_told = of_verdict _;
      process_told_fact = of_verdict _;
      figure_told = of_verdict _;
      stuck_told = of_verdict _;
    }

-- ---- the end sets

-- E5: sixteen entries, the end set of each component and 0 beyond the last one
pub end_entries : (b : List ℕ) → EndEntries b
end_entries b =
    record {
      sixteen = map_below_length _ most_components;
      of_component = λ j h l. rw (map_below_at, (ltb_true j (component_count b)).1 l);
      of_none = λ j h l. rw (map_below_at, (ltb_false j (component_count b)).1 l);
    }

-- ---- the report

report_too_long : (b : List ℕ) (size : ℕ) → size < length (report b) → reporting b size ≡ refused 13 0 0
unfolding reporting
report_too_long b size h = fitting_short (report b) size h

report_told : (b : List ℕ) (size : ℕ) → length (report b) ≤ size → reporting b size ≡ given (length (report b))
unfolding reporting
report_told b size h = fitting_long (report b) size h

-- O5: a refused call leaves the output as it came
pub output_kept : (b out : List ℕ) (k i s : ℕ) → reporting b (length out) ≡ refused k i s → report_output b out ≡ out
unfolding report_output
output_kept b out k i s e = rw e

-- P1: the text is written over the front of the output
pub output_over : (b out : List ℕ) (k : ℕ) → reporting b (length out) ≡ given k → report_output b out ≡ over (report b) out
unfolding report_output
output_over b out k e = rw e

-- R13, P1: the report in lent bytes
pub reported : (b out : List ℕ) → ReportLaws b out
reported b out =
    record {
      too_long = λ h. let e = report_too_long b (length out) h in (e, output_kept b out 13 0 0 e);
      told = report_told b (length out);
      printed = λ h.
          rw (output_over b out (length (report b)) (report_told b (length out) h)) (over_front (report b) out (length (report b)) refl);
      behind = λ h.
          rw (output_over b out (length (report b)) (report_told b (length out) h)) (over_behind (report b) out (length (report b)) refl);
    }
