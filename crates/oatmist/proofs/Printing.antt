-- P1: an output of 16,384 bytes or more: what the report answers is the length of the text, and the text stands in front of the output.
-- Assumes nothing.
use mathlib.Core.Path.{◌≡◌, sym, ap, ◌∙◌, subst}
use mathlib.Core.List.{List, ◌++◌}
use Prim.Native.Nat.{ℕ, ◌≤◌}
use native.Mathlib.Omega.{arith}
use lib.ListN.{length, take, drop, length-append}
use Rattle.sets.proofs.Lists.{over_front}
use Rattle.answers.specs.declared.Answer.{Answer}
use Rattle.answers.specs.Outcomes.{given, one_value, outcome_of}
use Rattle.answers.specs.Report.{report, report_room}
use Rattle.report.specs.Calls.{ReportAnswer}
use Rattle.report.proofs.Demands.{report_demand}

module _ {b out after : List ℕ} {r : Answer} (A : ReportAnswer b out r after) (room : report_room ≤ length out) where
  pub length_given : outcome_of r ≡ given (one_value (length (report b)))
  length_given = ap outcome_of (report_demand.report_serves b out after r A room)

  written : (k : ℕ) → r ≡ Answer.Given k → (k ≡ length (report b)) × (after ≡ report b ++ drop k out)
  written k e = report_demand.report_writes b out after k (subst (λ (a : Answer). ReportAnswer b out a after) e A)

  pub size_told : (k : ℕ) → r ≡ Answer.Given k → length (report b) ≡ k
  size_told k e = sym (written k e).0

  pub text_front : (k : ℕ) → r ≡ Answer.Given k → take k after ≡ report b
  text_front k e =
      ap (λ (o : List ℕ). take k o) ((written k e).1 ∙ ap (λ (j : ℕ). report b ++ drop j out) (written k e).0)
      ∙ over_front (report b) out k (size_told k e)

  pub text_within : (k : ℕ) → r ≡ Answer.Given k → k ≤ length after
  text_within k e =
      let l = ap length (written k e).1 in
      let m = length-append (report b) (drop k out) in
      let s = size_told k e in
      omega arith
