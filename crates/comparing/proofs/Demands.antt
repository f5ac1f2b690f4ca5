-- What document 01 asks of two sheets given together, proved of the calls: each record of `specs/Demands.antt`.
-- Assumes nothing.
use mathlib.Core.Path.{◌≡◌, sym, ap, ◌∙◌}
use mathlib.Core.Logic.Iff
use mathlib.Core.Logic.{◌↔◌}
use mathlib.Core.Bool.{true, false}
use mathlib.Core.List.{List, ◌++◌}
use Prim.Native.Nat.{ℕ, ◌-◌, ◌<◌, ◌≤◌}
use native.Mathlib.Omega.{arith}
use lib.ListN.{length, drop}
use Rattle.sheet.specs.Layout.{front, step_count}
use Rattle.answers.specs.declared.Answer.{Answer}
use Rattle.answers.specs.Restated.{restated}
use Rattle.answers.specs.Related.{SameTables}
use Rattle.answers.specs.Outcomes.{bit}
use Rattle.answers.specs.FirstRefusal.{TwoSheetRefusal}
use Rattle.answers.specs.SameWork.{same_work}
use Rattle.answers.specs.Leaner.{winner}
use Rattle.answers.proofs.Told.{number_only, number_exactly, bit_exactly}
use Rattle.answers.proofs.FirstRefusal.{work_refuses, winner_refuses, number_or}
use Rattle.answers.proofs.Laws.{restated_laws, answer_laws}
use Rattle.desk.specs.Demands.{RestateWrote}
use Rattle.desk.proofs.Demands.{wrote_accepted, wrote_restated, call_demand3}
use Rattle.comparing.specs.Calls.{WinnerAnswer}
use Rattle.comparing.specs.Demands.{TwoSheetDemand1, SameWorkDemand, LeanerDemand}

-- ---- the refusals

-- D1, O6, O7, R14, A2: a result, or the one refusal that is due
pub two_sheet_demand1 : TwoSheetDemand1
two_sheet_demand1 =
    record {
      same_work_answers = λ b c. number_or bit (TwoSheetRefusal b c) (same_work b c) (work_refuses b c);
      winner_answers = λ b c. number_or (λ x. x) (TwoSheetRefusal b c) (winner b c) (winner_refuses b c);
      no_section = λ b c p k i s h q. q ∙ answer_laws.no_section b c k i s ((winner_refuses b c k i s).1 h);
    }

-- ---- same work

same_written : {b c w v : List ℕ} → RestateWrote b w → RestateWrote c v → (w ≡ v) ↔ (restated b ≡ restated c)
same_written o p =
    (λ e. sym (wrote_restated o) ∙ e ∙ wrote_restated p, λ e. wrote_restated o ∙ e ∙ sym (wrote_restated p))

-- A1: yes exactly for related sheets
pub same_work_demand : SameWorkDemand
same_work_demand =
    record {
      same_exactly = λ b c r t. Iff.trans (bit_exactly r (same_work b c) t true) (answer_laws.same_exactly b c);
      same_bytes = λ b c w v r t o p.
          Iff.trans (Iff.trans (bit_exactly r (same_work b c) t true) (answer_laws.same_exactly b c))
          (Iff.symm (Iff.trans (same_written o p) (restated_laws.same_bytes b c (wrote_accepted o) (wrote_accepted p))));
      other_exactly = λ b c r t. Iff.trans (bit_exactly r (same_work b c) t false) (answer_laws.other_exactly b c);
    }

-- ---- the leaner answer

module _ (b c w v : List ℕ) (r : Answer) (t : WinnerAnswer b c r) (o : RestateWrote b w) (p : RestateWrote c v) (same : SameTables b c) where
  first_told : (r ≡ Answer.Given 0) ↔ (step_count w ≤ step_count v)
  first_told =
      let k = call_demand3.written_count b w o in
      let l = call_demand3.written_count c v p in
      let told = Iff.trans (number_exactly r (winner b c) t 0) (answer_laws.first_wins b c) in
      (λ e. let h = (told.0 e).3 in omega arith, λ h. told.1 (wrote_accepted o, wrote_accepted p, same, omega arith))

  second_told : (r ≡ Answer.Given 1) ↔ (step_count v < step_count w)
  second_told =
      let k = call_demand3.written_count b w o in
      let l = call_demand3.written_count c v p in
      let told = Iff.trans (number_exactly r (winner b c) t 1) (answer_laws.second_wins b c) in
      (λ e. let h = (told.0 e).3 in omega arith, λ h. told.1 (wrote_accepted o, wrote_accepted p, same, omega arith))

-- A2, A3: the sheet with fewer restated steps, and its step section
pub leaner_demand : LeanerDemand
leaner_demand =
    record {
      first_wins = λ b c w v r t o p same. first_told b c w v r t o p same;
      second_wins = λ b c w v r t o p same. second_told b c w v r t o p same;
      first_section = λ b c p t h.
          let won = number_only (winner b c) 0 t in
          ap (λ (x : List ℕ). front b ++ (x ++ drop (length b - 10) b)) (h ∙ answer_laws.first_section b c won)
          ∙ answer_laws.section_between b ((answer_laws.first_wins b c).0 won).0;
      second_section = λ b c p t h.
          let won = number_only (winner b c) 1 t in
          ap (λ (x : List ℕ). front c ++ (x ++ drop (length c - 10) c)) (h ∙ answer_laws.second_section b c won)
          ∙ answer_laws.section_between c ((answer_laws.second_wins b c).0 won).1;
    }
