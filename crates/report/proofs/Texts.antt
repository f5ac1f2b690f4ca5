-- P1 to P5: the lines written for a sheet are its report, and a report always fits 16,384 bytes; what is then printed.
-- Assumes nothing.
use mathlib.Core.Path.{◌≡◌, refl, sym, ap, ap₂, ◌∙◌}
use mathlib.Core.Bool.{Bool, true, false}
use mathlib.Core.List.{List, [], ◌∷◌, ◌++◌, map, Memᴰ}
use Prim.Native.Nat.{ℕ, zero, suc, ◌+◌, ◌*◌, ◌^◌, ◌≤◌, ◌<◌}
use native.Mathlib.Nat.{mul-le-mul_left}
use native.Mathlib.Omega.{arith}
use lib.ListN.{length, get_or, length-append}
use Rattle.sets.specs.Lists.{append_all, over, below}
use Rattle.sets.specs.Bits.{members}
use Rattle.sets.proofs.Lists.{mem_below}
use Rattle.systems.specs.Checking.{flat}
use Rattle.sheet.specs.declared.Component.{Component}
use Rattle.sheet.specs.Bounds.{longest, most_steps, most_in_steps}
use Rattle.sheet.specs.Layout.{component_count, action_count, transitions_at, steps_at, step_count, tables, steps}
use Rattle.sheet.specs.Verdict.{Verdict, verdict, IsVerdict, sheet_refused, step_refused, all_passed, Accepted}
use Rattle.sheet.proofs.Limits.{limits_exact}
use Rattle.sheet.proofs.Verdicts.{verdict_first, verdict_number}
use Rattle.sheet.proofs.RoundTrip.{steps_length}
use Rattle.answers.specs.declared.Sizes.{Sizes}
use Rattle.answers.specs.declared.Refusal.TheVariants.{NoRoom}
use Rattle.answers.specs.declared.Answer.{Answer}
use Rattle.answers.specs.Outcomes.{Outcome, given, values, one_value, bit, number_of, outcome_of, read_outcome}
use Rattle.answers.specs.LentOutput.{output_by}
use Rattle.answers.specs.Ends.{end_set}
use Rattle.answers.specs.Restated.{restated_steps}
use Rattle.answers.specs.Figure.{FigureOf, figure}
use Rattle.answers.specs.Stuck.{stuck}
use Rattle.answers.specs.Report.{accepted_word, refused_word, end_word, line, step_texts, end_texts, summary_line}
use Rattle.answers.specs.Report.{step_lines, end_lines, report, reporting, report_output, report_room}
use Rattle.answers.proofs.Laws.{answer_laws}
use Rattle.answers.proofs.Normal.{normal_actions, normal_no_longer}
use Rattle.answers.proofs.Restated.{restated_normal, accepted_limits, accepted_order, accepted_fine}
use Rattle.answers.proofs.Reports.{report_refused, report_accepted}
use Rattle.answers.proofs.Passing.{NotAccepted, stopped_by}
use Rattle.answers.proofs.LentOutput.{fitting_short, fitting_long}
use Rattle.desk.specs.AcceptedSheet.{EndsOf, JudgedSheet}
use Rattle.report.specs.Calls.{refusal_line, ReportAnswer}
use Rattle.report.proofs.text.Bounds.{line_most, steps_most, ends_most}

-- ---- the lines of an accepted sheet (P3 to P5)

texts_same : (f g : ℕ → List ℕ) (js : List ℕ) → ((j : ℕ) → Memᴰ j js → f j ≡ g j) → append_all (map f js) ≡ append_all (map g js)
texts_same f g [] e = refl
texts_same f g (j ∷ js) e = ap₂ ◌++◌ (e j (Memᴰ.head refl)) (texts_same f g js (λ i m. e i (Memᴰ.tail m)))

steps_told : (b steps : List ℕ) → steps ≡ restated_steps b → step_texts steps ≡ step_lines b
unfolding step_lines
steps_told b steps e = ap step_texts e

ends_told : (b ends : List ℕ) → EndsOf b ends → end_texts (λ j. get_or ends j 0) (below (length ends)) ≡ end_lines b
unfolding end_lines
ends_told b ends e =
    ap (λ (n : ℕ). end_texts (λ j. get_or ends j 0) (below n)) e.count
    ∙ texts_same (λ j. line end_word (j ∷ members (get_or ends j 0))) (λ j. line end_word (j ∷ members (end_set b j))) (below (component_count b))
    (λ j i. ap (λ (x : ℕ). line end_word (j ∷ members x)) (e.each j ((mem_below (component_count b) j).0 i)))

-- ---- the line of a refusal (P2)

pub refusal_text : (b : List ℕ) (a : Answer) → NotAccepted a → outcome_of a ≡ read_outcome b (verdict b) → refusal_line a ≡ report b
refusal_text b a h e =
    let s = stopped_by a h (verdict b) (component_count b) (action_count b) (transitions_at b) (steps_at b) e in
    ap refusal_line s.answer_told ∙ sym (report_refused b (number_of s.refusal) s.index s.verdict_told)

-- ---- the length of a report: what room it needs (R13)

-- L5, N8: an accepted sheet has few restated steps
restated_few : (b : List ℕ) → Accepted b → length (restated_steps b) ≤ most_steps
unfolding step_count
restated_few b acc =
    let n = normal_no_longer (tables b) (accepted_order b acc) (steps b) (accepted_fine b acc) in
    let e = ap length (restated_normal b) in
    let l = steps_length b in
    let k = (accepted_limits b acc).trailer_last in
    let few = k.1 in
    let whole = k.2 in
    omega arith

bit_small : (t : Bool) → bit t < 10 ^ 20
bit_small true = omega arith
bit_small false = omega arith

module _ (b : List ℕ) (acc : Accepted b) where
  few_actions : length (flat (restated_steps b)) ≤ most_in_steps
  few_actions =
      let e = ap (λ (xs : List ℕ). length (flat xs)) (restated_normal b) in
      let n = normal_actions (tables b) (accepted_order b acc) (steps b) (accepted_fine b acc) in
      let h = (accepted_limits b acc).actions_total in
      omega arith

  ends_short : length (end_lines b) ≤ 3184
  unfolding end_lines
  ends_short = ends_most (end_set b) (component_count b) (accepted_limits b acc).components_high

  small_figure : figure b ≤ 10752
  small_figure = go (length (restated_steps b)) (restated_few b acc) ((answer_laws.figure_exactly b (figure b)).0 refl)
    where
      go : (k : ℕ) → k ≤ most_steps → FigureOf (length (flat (steps b))) k (figure b) → figure b ≤ 10752
      go zero h f = omega arith
      go (suc k) h f =
          let near = f.near in
          let times : figure b * 1 ≤ figure b * suc k = mul-le-mul_left (figure b) (omega arith) in
          let a = (accepted_limits b acc).actions_total in
          omega arith

  summary_short : length (summary_line b) ≤ 93
  unfolding summary_line step_count
  summary_short =
      let k = (accepted_limits b acc).length_high in
      let c = restated_few b acc in
      let f = small_figure in
      let h =
      line_most accepted_word (step_count b ∷ length (restated_steps b) ∷ figure b ∷ bit (stuck b) ∷ [])
      (omega arith, (omega arith, (omega arith, (bit_small (stuck b), tt)))) in
      omega arith

  accepted_short : length (report b) ≤ report_room
  unfolding step_lines
  accepted_short =
      let e = ap length (report_accepted b acc) in
      let x = length-append (summary_line b) (step_lines b ++ end_lines b) in
      let y = length-append (step_lines b) (end_lines b) in
      let first = summary_short in
      let second = steps_most (restated_steps b) in
      let third = ends_short in
      let f = restated_few b acc in
      let g = few_actions in
      omega arith

-- the step that a refusal names is one of the sheet, and there are few
refused_index : (b : List ℕ) (k i : ℕ) → verdict b ≡ Verdict.refused k i → i < longest
unfolding step_count
refused_index b k i e = go (verdict_first b) e
  where
    go : {v : Verdict} → IsVerdict b v → v ≡ Verdict.refused k i → i < longest
    go (sheet_refused l h before) q = let z : 0 ≡ i = cc in omega arith
    go (step_refused f passed first) q =
        let z : f.index ≡ i = cc in
        let l = first.step_below in
        let n = steps_length b in
        let size = ((limits_exact b).0 passed).length_high in
        omega arith
    go (all_passed passed faultless) q = let z : ◌≡◌ {A = ℕ} 0 1 = cc in absurd (omega arith)

-- every report fits 16,384 bytes (R13)
pub report_short : (b : List ℕ) → length (report b) ≤ report_room
report_short b = go (verdict b) refl
  where
    go : (v : Verdict) → verdict b ≡ v → length (report b) ≤ report_room
    go Verdict.accepted e = accepted_short b e
    go (Verdict.refused k i) e =
        let l = ap length (report_refused b k i e) in
        let n = (verdict_number b k i e).1 in
        let j = refused_index b k i e in
        let m = line_most refused_word (k ∷ i ∷ []) (omega arith, (omega arith, tt)) in
        omega arith

-- the lines of an accepted sheet, one behind another, are its report (P3 to P5)
module _ {b : List ℕ} {z : Sizes} {components : List Component} {ends : List ℕ} (J : JudgedSheet b z components ends) (numbers : List ℕ) {steps : List ℕ}
    (first : line accepted_word numbers ≡ summary_line b) (told : steps ≡ restated_steps b)
  where
    pub accepted_text : line accepted_word numbers ++ (step_texts steps ++ end_texts (λ j. get_or ends j 0) (below (length ends))) ≡ report b
    accepted_text =
        ap₂ ◌++◌ first (ap₂ ◌++◌ (steps_told b steps told) (ends_told b ends J.ends_told)) ∙ sym (report_accepted b J.sheet.sheet_accepted)

    -- they take as many bytes as it has
    pub accepted_room : length (line accepted_word numbers) + (length (step_texts steps)
        + length (end_texts (λ j. get_or ends j 0) (below (length ends)))) ≡ length (report b)
    accepted_room =
        let e = ap length accepted_text in
        let x = length-append (line accepted_word numbers) (step_texts steps ++ end_texts (λ j. get_or ends j 0) (below (length ends))) in
        let y = length-append (step_texts steps) (end_texts (λ j. get_or ends j 0) (below (length ends))) in
        omega arith

-- ---- what is handed over: the text, or 13 (R13)

-- R13: 13 where the output is too short, and the output as it came (O5)
pub printed_short : (b out : List ℕ) → length out < length (report b) → ReportAnswer b out (Answer.Refused NoRoom 0 0) out
unfolding reporting report_output
printed_short b out h =
    let e = fitting_short (report b) (length out) h in
    record { answer_told = ap (values one_value) (sym e); output_left = ap (λ (o : Outcome ℕ). output_by o (report b) out) (sym e) }

-- R13: else the length of the text, which stands in the output
pub printed_long : (b out : List ℕ) → length (report b) ≤ length out → ReportAnswer b out (Answer.Given (length (report b))) (over (report b) out)
unfolding reporting report_output
printed_long b out h =
    let e = fitting_long (report b) (length out) h in
    record { answer_told = ap (values one_value) (sym e); output_left = ap (λ (o : Outcome ℕ). output_by o (report b) out) (sym e) }

-- an output of 16,384 bytes always serves (R13)
pub room_serves : (b out : List ℕ) → report_room ≤ length out → reporting b (length out) ≡ given (length (report b))
unfolding reporting
room_serves b out h = let s = report_short b in fitting_long (report b) (length out) (omega arith)
