-- The demands on the calls for C, proved: the record of `specs/Demands.antt`, from the refusals of each outcome and its parts that fit.
-- Assumes nothing.
use mathlib.Core.Path.{◌≡◌, refl, sym, ap, ◌∙◌, subst}
use mathlib.Core.Logic.{◌⊎◌, inl, inr}
use mathlib.Core.List.{List, ◌++◌}
use Prim.Native.Nat.{ℕ, ◌+◌, ◌-◌, ◌/◌, ◌%◌, ◌<◌, ◌≤◌}
use native.Mathlib.Omega.{arith}
use lib.ListN.{length, take, drop, get_or, length-take, length-drop, length-append, get_or-append}
use lib.Seq.{get_or-take, get_or-drop, get_or-append-add}
use Rattle.traces.specs.Offences.{offending}
use Rattle.sheet.specs.Layout.{component_count, action_count, transitions_at, steps_at}
use Rattle.sheet.specs.Verdict.{Verdict, verdict}
use Rattle.answers.specs.declared.Answer.{Answer}
use Rattle.answers.specs.Outcomes.{Outcome, given, refused, values, one_value, bit, number_of, outcome_of, after, sizes_of, read_outcome}
use Rattle.answers.specs.Ends.{end_array, ends_outcome}
use Rattle.answers.specs.ProcessCheck.{process_check}
use Rattle.answers.specs.Figure.{figure_outcome}
use Rattle.answers.specs.Stuck.{stuck_outcome}
use Rattle.answers.specs.Restating.{restating}
use Rattle.answers.specs.Report.{reporting}
use Rattle.answers.specs.SameWork.{same_work}
use Rattle.answers.specs.Leaner.{winner}
use Rattle.answers.specs.FirstRefusal.{Refusal, SheetRefusal, RestateRefusal, ReportRefusal, TwoSheetRefusal, RefusesBy}
use Rattle.answers.proofs.RefusalsDue.{sheet_refuses}
use Rattle.answers.proofs.FirstRefusal.{ends_refuse, process_refuses, figure_refuses, stuck_refuses}
use Rattle.answers.proofs.FirstRefusal.{restate_refuses, report_refuses, work_refuses, winner_refuses, values_same}
use Rattle.answers.proofs.Laws.{output_laws}
use Rattle.answers.proofs.OutcomeLaws.{output_kept}
use Rattle.report.specs.Calls.{ReportAnswer}
use Rattle.answers.specs.declared.EndSets.{EndSets}
use Rattle.desk.specs.Calls.{EndSetsAnswer, end_array_by, ProcessAnswer, RestateAnswer, FigureAnswer, StuckAnswer}
use Rattle.comparing.specs.Calls.{SameWorkAnswer, WinnerAnswer}
use Rattle.products.specs.ProductVerdict.{rows_outcome}
use Rattle.rows.specs.Calls.{RowsAnswer, RowsRefusal}
use Rattle.rows.proofs.Demands.{rows_refuses, refused_left as rows-refused-left}
use Rattle.columns.specs.Calls.{ColumnsAnswer, ColumnsRefusal}
use Rattle.columns.proofs.Demands.{columns_demand}
use Rattle.oatmist.specs.Convention.{with_values, FitsWord, CAnswer}
use Rattle.oatmist.specs.Version.{version_number}
use Rattle.oatmist.specs.Calls.{EndSetsForC, ColumnsForC}
use Rattle.oatmist.specs.Demands.{ReadsAs, InFront, ToldToC, Number, DemandsForC}
use Rattle.oatmist.proofs.FitsWord.{fits_read, fits_process, fits_restate, fits_figure, fits_stuck}
use Rattle.oatmist.proofs.FitsWord.{fits_report, fits_rows, fits_columns, fits_work, fits_winner}

-- ---- the values in front

front_length : (xs old : List ℕ) → (length (take (length old) xs) ≤ length xs) × (length (take (length old) xs) ≤ length old)
front_length xs old = let e = length-take (length old) xs in (omega arith, omega arith)

in_front : (xs old new : List ℕ) → new ≡ with_values xs old → InFront xs old new
in_front xs old new e =
    record {
      size = ap length e ∙ whole;
      front = λ j h l. ap (λ (v : List ℕ). get_or v j 0) e
          ∙ one j h l;
      behind = λ j h. ap (λ (v : List ℕ). get_or v j 0) e ∙ other j h;
    }
  where
    T : List ℕ
    T = take (length old) xs

    whole : length (T ++ drop (length T) old) ≡ length old
    whole =
        let a = length-append T (drop (length T) old) in
        let b = length-drop (length T) old in
        let c = front_length xs old in
        omega arith

    one : (j : ℕ) → j < length xs → j < length old → get_or (T ++ drop (length T) old) j 0 ≡ get_or xs j 0
    one j h l =
        let m = length-take (length old) xs in
        get_or-append T (drop (length T) old) 0 j (omega arith) ∙ get_or-take (length old) xs j 0 l

    other : (j : ℕ) → length xs ≤ j → get_or (T ++ drop (length T) old) j 0 ≡ get_or old j 0
    other j h =
        let m = front_length xs old in
        let k : j ≡ length T + (j - length T) = omega arith in
        ap (λ (v : ℕ). get_or (T ++ drop (length T) old) v 0) k
        ∙ get_or-append-add T (drop (length T) old) (j - length T) 0
        ∙ get_or-drop (length T) old (j - length T) 0
        ∙ ap (λ (v : ℕ). get_or old v 0) (sym k)

-- ---- any call

module _ {A : Type 0} (f : A → List ℕ) (P : Refusal) (Values : List ℕ → Type 0) (o : Outcome A) (due : RefusesBy P o) where
  told_to_c : ((x : A) → o ≡ given x → Values (f x)) → FitsWord (values f o)
      → (r : ℕ) (old new : List ℕ) → CAnswer (values f o) r old new → ToldToC P Values r old new
  told_to_c told fits r old new = go o refl fits
    where
      go : (p : Outcome A) → o ≡ p → FitsWord (values f p) → CAnswer (values f p) r old new → ToldToC P Values r old new
      go (given x) e fit c =
          record {
            zero_exactly = (λ z k i s h. none k i s h, λ h. c.0);
            refused_exactly = λ k i s. (λ h. absurd (h.0 c.0), λ h. absurd (none k i s h));
            refused_untouched = λ n. absurd (n c.0);
            answered = λ z. (f x, told x e, in_front (f x) old new c.1);
          }
        where
          none : (k i s : ℕ) → P k i s → ⊥
          none k i s h =
              let other : given x ≡ refused k i s = sym e ∙ (due k i s).1 h in
              let z : ◌≡◌ {A = ℕ} 0 1 = cc in
              absurd (omega arith)
      go (refused k i s) e fit c =
          record {
            zero_exactly = (λ z l j t h. not_zero z, λ h. absurd (h k i s ((due k i s).0 e)));
            refused_exactly = λ l j t. (λ h. (due l j t).0 (e ∙ read l j t h), λ h. reads l j t (sym e ∙ (due l j t).1 h));
            refused_untouched = λ n. c.1;
            answered = λ z. absurd (not_zero z);
          }
        where
          not_zero : r ≡ 0 → ⊥
          not_zero z = let q = c.0 in let low = fit.0 in absurd (omega arith)

          parts : (r % 256 ≡ k) × (r / 65536 ≡ i) × (r / 256 % 256 ≡ s)
          parts = let q = c.0 in let small = fit.1 in let few = fit.2 in (omega arith, omega arith, omega arith)

          read : (l j t : ℕ) → ReadsAs r l j t → ◌≡◌ {A = Outcome A} (refused k i s) (refused l j t)
          read l j t h =
              let n : k ≡ l = sym parts.0 ∙ h.1 in
              let m : i ≡ j = sym parts.1 ∙ h.2 in
              let w : s ≡ t = sym parts.2 ∙ h.3 in
              cc

          reads : (l j t : ℕ) → ◌≡◌ {A = Outcome A} (refused k i s) (refused l j t) → ReadsAs r l j t
          reads l j t q =
              let n : k ≡ l = cc in
              let m : i ≡ j = cc in
              let w : s ≡ t = cc in
              (not_zero, parts.0 ∙ n, parts.1 ∙ m, parts.2 ∙ w)

-- what is told where the call is refused
where_refused : {A : Type 0} (f : A → List ℕ) (o : Outcome A) (r : ℕ) (old new : List ℕ) → CAnswer (values f o) r old new → ¬ (r ≡ 0)
    → (X : Type 0) → ((k i s : ℕ) → o ≡ refused k i s → X) → X
where_refused f (given x) r old new c n X h = absurd (n c.0)
where_refused f (refused k i s) r old new c n X h = h k i s refl

-- a call that gives one number
number_to_c : {A : Type 0} (number : A → ℕ) (P : Refusal) (o : Outcome A) → RefusesBy P o
    → FitsWord (values (λ (x : A). one_value (number x)) o)
    → (Q : Answer → Type 0) → ((a : Answer) → outcome_of a ≡ values (λ (x : A). one_value (number x)) o → Q a)
    → (r : ℕ) (old new : List ℕ) → CAnswer (values (λ (x : A). one_value (number x)) o) r old new → ToldToC P (Number Q) r old new
number_to_c {A} number P o due fits Q told =
    told_to_c (λ (x : A). one_value (number x)) P (Number Q) o due
    (λ x e. (number x, told (Answer.Given (number x)) (ap (values (λ (y : A). one_value (number y))) (sym e)), refl)) fits

-- a call that gives a list
list_to_c : (P : Refusal) (Values : List ℕ → Type 0) (o : Outcome (List ℕ)) → RefusesBy P o → FitsWord o
    → ((xs : List ℕ) → o ≡ given xs → Values xs) → (r : ℕ) (old new : List ℕ) → CAnswer o r old new → ToldToC P Values r old new
list_to_c P Values o due fits told r old new c =
    told_to_c (λ x. x) P Values o due told (subst FitsWord (sym (values_same o)) fits) r old new
    (subst (λ (p : Outcome (List ℕ)). CAnswer p r old new) (sym (values_same o)) c)

-- ---- each call

after_given : (v : Verdict) (xs ys : List ℕ) → after v (given xs) ≡ given ys → (v ≡ Verdict.accepted) × (ys ≡ xs)
after_given Verdict.accepted xs ys e = (refl, cc)
after_given (Verdict.refused k i) xs ys e = let z : ◌≡◌ {A = ℕ} 0 1 = cc in absurd (omega arith)

ended : (b : List ℕ) → verdict b ≡ Verdict.accepted → (e : EndSets) × EndSetsAnswer b e × (end_array b ≡ e.sets)
ended b acc = (
  record { answer = Answer.Accepted (record { n = component_count b; m = action_count b; t = transitions_at b; s = steps_at b }); sets = end_array b },
  record { answer_told = sym (ap (read_outcome b) acc); sets_told = sym (ap (λ (v : Verdict). end_array_by v b) acc) },
  refl,
)

ends_to_c : (b old new : List ℕ) (r : ℕ) → EndSetsForC b r old new
    → ToldToC (SheetRefusal b) (λ xs. (e : EndSets) × EndSetsAnswer b e × (xs ≡ e.sets)) r old new
unfolding ends_outcome
ends_to_c b old new r c =
    list_to_c (SheetRefusal b) _ (ends_outcome b) (ends_refuse b) (fits_read b (end_array b)) told r old new c
  where
    told : (xs : List ℕ) → after (verdict b) (given (end_array b)) ≡ given xs → (e : EndSets) × EndSetsAnswer b e × (xs ≡ e.sets)
    told xs q =
        let h = after_given (verdict b) (end_array b) xs q in
        let e = ended b h.0 in
        (e.0, e.1, h.1 ∙ e.2)

module _ (b d out left old new : List ℕ) (r : ℕ) where
  -- R18, R19, O9: what is told of columns
  columns_to_c : ColumnsForC b d out r left old new → ToldToC (ColumnsRefusal b d (length out)) (Number (λ a. ColumnsAnswer b d out a left)) r old new
  columns_to_c c =
      list_to_c (ColumnsRefusal b d (length out)) (Number (λ a. ColumnsAnswer b d out a left)) (outcome_of c.told) due
      (fits_columns b d out c.told left c.call) (number c.told c.call) r old new c.answer_told
    where
      due : RefusesBy (ColumnsRefusal b d (length out)) (outcome_of c.told)
      due = (columns_demand.columns_answers b d out left c.told c.call).refused_exactly

      number : (a : Answer) → ColumnsAnswer b d out a left → (xs : List ℕ) → outcome_of a ≡ given xs
          → Number (λ x. ColumnsAnswer b d out x left) xs
      number (Answer.Accepted z) h xs e = absurd ((columns_demand.columns_answers b d out left (Answer.Accepted z) h).no_sizes z refl)
      number (Answer.Given x) h xs e = (x, h, cc)
      number (Answer.Refused k i s) h xs e = let z : ◌≡◌ {A = ℕ} 0 1 = cc in absurd (omega arith)

  -- O5: a refused call leaves the output as it came
  columns_kept : ColumnsForC b d out r left old new → ¬ (r ≡ 0) → left ≡ out
  columns_kept c = go c.told c.call c.answer_told
    where
      go : (a : Answer) → ColumnsAnswer b d out a left → CAnswer (outcome_of a) r old new → ¬ (r ≡ 0) → left ≡ out
      go (Answer.Accepted z) h t n = absurd (n t.0)
      go (Answer.Given x) h t n = absurd (n t.0)
      go (Answer.Refused k i s) h t n = columns_demand.refused_untouched b d out left (Answer.Refused k i s) (number_of k) i s h refl

-- O10: the number of a version grows with its parts
grows : (a b c d e f : ℕ) → b < 100 → c < 100 → (a < d) ⊎ ((a ≡ d) × ((b < e) ⊎ ((b ≡ e) × (c < f)))) → version_number a b c < version_number d e f
grows a b c d e f k l (inl h) = omega arith
grows a b c d e f k l (inr (g, inl h)) = omega arith
grows a b c d e f k l (inr (g, inr (j, h))) = omega arith

-- D1, O4, O5: C is told what each call from Rattle answers; so D2 and D3 hold of what it is told
pub demands_for_c : DemandsForC
demands_for_c =
    record {
      check = λ b old new r.
          list_to_c (SheetRefusal b) _ (read_outcome b (verdict b)) (sheet_refuses b (sizes_of b)) (fits_read b (sizes_of b))
          (λ xs e. (after_given (verdict b) (sizes_of b) xs e).1) r old new;
      end_sets_fact = ends_to_c;
      process = λ b old new r.
          number_to_c offending (SheetRefusal b) (process_check b) (process_refuses b) (fits_process b) (ProcessAnswer b) (λ a e. e) r old new;
      figure = λ b old new r.
          number_to_c (λ x. x) (SheetRefusal b) (figure_outcome b) (figure_refuses b) (fits_figure b) (FigureAnswer b) (λ a e. e) r old new;
      stuck = λ b old new r.
          number_to_c bit (SheetRefusal b) (stuck_outcome b) (stuck_refuses b) (fits_stuck b) (StuckAnswer b) (λ a e. e) r old new;
      same_work_fact = λ b c old new r.
          number_to_c bit (TwoSheetRefusal b c) (same_work b c) (work_refuses b c) (fits_work b c) (SameWorkAnswer b c) (λ a e. e) r old new;
      winner = λ b c old new r.
          number_to_c (λ x. x) (TwoSheetRefusal b c) (winner b c) (winner_refuses b c) (fits_winner b c) (WinnerAnswer b c) (λ a e. e) r old new;
      restate = λ b out left old new r c.
          number_to_c (λ x. x) (RestateRefusal b (length out)) (restating b (length out)) (restate_refuses b (length out))
          (fits_restate b (length out)) (λ a. RestateAnswer b out a left) (λ a e. record { answer_told = e; output_left = c.output_left })
          r old new c.answer_told;
      report = λ b out left old new r c.
          number_to_c (λ x. x) (ReportRefusal b (length out)) (reporting b (length out)) (report_refuses b (length out))
          (fits_report b (length out)) (λ a. ReportAnswer b out a left) (λ a e. record { answer_told = e; output_left = c.output_left })
          r old new c.answer_told;
      rows = λ b out left old new r c.
          number_to_c (λ x. x) (RowsRefusal b (length out)) (rows_outcome b (length out)) (rows_refuses b (length out))
          (fits_rows b (length out)) (λ a. RowsAnswer b out a left) (λ a e. record { answer_told = e; output_left = c.output_left })
          r old new c.answer_told;
      columns = columns_to_c;
      restate_untouched = λ b out left old new r c n.
          where_refused one_value (restating b (length out)) r old new c.answer_told n (left ≡ out)
          (λ k i s e. c.output_left ∙ output_laws.refused_untouched b out k i s e);
      report_untouched = λ b out left old new r c n.
          where_refused one_value (reporting b (length out)) r old new c.answer_told n (left ≡ out)
          (λ k i s e. c.output_left ∙ output_kept b out k i s e);
      rows_untouched = λ b out left old new r c n.
          where_refused one_value (rows_outcome b (length out)) r old new c.answer_told n (left ≡ out)
          (λ k i s e. c.output_left ∙ rows-refused-left b out k i s e);
      columns_untouched = columns_kept;
      leaner = λ b c part h. h;
      version = λ r h. h;
      version_parts = refl;
      version_grows = grows;
      worked = (λ z. absurd (omega arith), refl, refl, refl);
    }
