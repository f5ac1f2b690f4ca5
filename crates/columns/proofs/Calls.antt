-- V3, V4, R18, R19, O9: how a call ends: with the one refusal that is due, which leaves the output as it came, or with the restated form of
-- every sheet that has the columns; and neither depends on the steps of the sheet that was given.
-- Assumes nothing.
use mathlib.Core.Path.{◌≡◌, refl, sym, ap, ◌∙◌, subst}
use mathlib.Core.Logic.{◌⊎◌, inl, inr}
use mathlib.Core.List.{List}
use Prim.Native.Nat.{ℕ, ◌<◌, ◌≤◌}
use native.Mathlib.Decide.{dec_lt}
use native.Mathlib.Omega.{arith}
use lib.ListN.{length}
use Rattle.sets.specs.Lists.{over}
use Rattle.systems.specs.Tables.{Tables}
use Rattle.sheet.specs.Layout.{component_count, tables}
use Rattle.sheet.specs.Verdict.{Verdict, IsVerdict, Accepted}
use Rattle.sheet.proofs.Verdicts.{verdict_first, verdict_only}
use Rattle.answers.specs.declared.Answer.{Answer}
use Rattle.answers.specs.Outcomes.{given, refused, values, one_value, outcome_of, TellsRefusal}
use Rattle.answers.specs.Restated.{restated}
use Rattle.answers.specs.Restating.{restating}
use Rattle.answers.specs.Related.{SameTables}
use Rattle.answers.specs.FirstRefusal.{Refusal, Numbered, TooShort, AtMostOne, NumberOr}
use Rattle.answers.proofs.Told.{same_refusal, is_given, refused_told}
use Rattle.answers.proofs.LentOutput.{refused_short, given_long, refused_kept, given_output}
use Rattle.answers.proofs.Relations.{same_tables, related_same}
use Rattle.columns.specs.ColumnRefusals.{ColumnsIn, HasColumns, Executable}
use Rattle.columns.specs.Calls.{ColumnsAnswer, sheet_refused, not_legible, not_executable, as_restated, ColumnsRefusal}
use Rattle.columns.proofs.Classes.{tables_back, tables_on, has_related}
use Rattle.columns.proofs.ColumnBytes.{columns_in_one, filled_over}

-- ---- the columns in the bytes, and the sheets that have them

-- V3, R18, R19: whichever sheet has the columns that fill the bytes, its restated form is the same
pub same_restated : {b d : List ℕ} {cs ds : List (List ℕ)} {x y : List ℕ} → ColumnsIn b d cs → ColumnsIn b d ds
    → HasColumns b cs x → HasColumns b ds y → restated x ≡ restated y
same_restated {b} {d} {cs} {ds} {x} {y} i j h k =
    related_same (has_related h (subst (λ (es : List (List ℕ)). HasColumns b es y) (columns_in_one j i) k))

-- R19: columns that stand in the same bytes are had by the same sheets
pub executable_same : {b d : List ℕ} {cs ds : List (List ℕ)} → ColumnsIn b d cs → ColumnsIn b d ds → Executable b cs → Executable b ds
executable_same {b} {d} {cs} {ds} i j e = subst (Executable b) (columns_in_one i j) e

-- ---- at most one refusal is due (O9)

same_number : {n k i s l j t : ℕ} → Numbered n k i s → Numbered n l j t → (k ≡ l) × (i ≡ j) × (s ≡ t)
same_number p q = (p.0 ∙ sym q.0, p.1 ∙ sym q.1, p.2 ∙ sym q.2)

-- an accepted sheet has no refusal
pub not_refused : {b : List ℕ} {k i : ℕ} → Accepted b → ¬ IsVerdict b (Verdict.refused k i)
not_refused {b} {k} {i} acc v =
    let e : Verdict.refused k i ≡ Verdict.accepted = verdict_only b (Verdict.refused k i) v ∙ acc in
    let z : ◌≡◌ {A = ℕ} 0 1 = cc in omega arith

-- R19, R13: what comes behind R18, for these columns
abbrev Behind : List ℕ → ℕ → List (List ℕ) → Refusal
Behind b room cs k i s =
    ((¬ Executable b cs) × Numbered 19 k i s) ⊎ ((c : List ℕ) × HasColumns b cs c × TooShort room (restated c) k i s)

-- O9: two refusals that are due are the same
pub columns_one : (b d : List ℕ) (room : ℕ) → AtMostOne (ColumnsRefusal b d room)
columns_one b d room k i s l j t = go
  where
    behind : {cs ds : List (List ℕ)} → ColumnsIn b d cs → ColumnsIn b d ds → Behind b room cs k i s → Behind b room ds l j t
        → (k ≡ l) × (i ≡ j) × (s ≡ t)
    behind x y (inl p) (inl q) = same_number p.1 q.1
    behind x y (inl p) (inr q) = absurd (p.0 (executable_same y x (q.0, q.1)))
    behind x y (inr p) (inl q) = absurd (q.0 (executable_same x y (p.0, p.1)))
    behind x y (inr p) (inr q) = same_number p.2.1 q.2.1

    go : ColumnsRefusal b d room k i s → ColumnsRefusal b d room l j t → (k ≡ l) × (i ≡ j) × (s ≡ t)
    go (inl p) (inl q) =
        let e : Verdict.refused k i ≡ Verdict.refused l j = verdict_only b _ p.0 ∙ sym (verdict_only b _ q.0) in
        (cc, cc, p.1 ∙ sym q.1)
    go (inl p) (inr (acc, q)) = absurd (not_refused acc p.0)
    go (inr (acc, p)) (inl q) = absurd (not_refused acc q.0)
    go (inr (acc, inl p)) (inr (acc', inl q)) = same_number p.1 q.1
    go (inr (acc, inl p)) (inr (acc', inr q)) = absurd (p.0 (q.0, q.1))
    go (inr (acc, inr p)) (inr (acc', inl q)) = absurd (q.0 (p.0, p.1))
    go (inr (acc, inr p)) (inr (acc', inr q)) = behind p.1 q.1 p.2 q.2

-- R13: none is due where some sheet has the columns and its restated form fits
none_due : {b d : List ℕ} {room k i s : ℕ} {cs : List (List ℕ)} {c : List ℕ} → Accepted b → ColumnsIn b d cs → HasColumns b cs c
    → length (restated c) ≤ room → ¬ ColumnsRefusal b d room k i s
none_due {b} {d} {room} {k} {i} {s} {cs} {c} acc x h long = go
  where
    go : ¬ ColumnsRefusal b d room k i s
    go (inl p) = not_refused acc p.0
    go (inr (acc', inl p)) = p.0 (cs, x)
    go (inr (acc', inr (ds, y, inl p))) = p.0 (executable_same x y (c, h))
    go (inr (acc', inr (ds, y, inr (e, g, p)))) =
        let same : length (restated e) ≡ length (restated c) = ap length (same_restated y x g h) in
        let short = p.0 in omega arith

-- ---- how a call ends

-- V3, O9: how a call ends: by the refusal that is due, or by what restating a sheet with the columns gives
pub data Ended (b d out : List ℕ) (r : Answer) (left : List ℕ) : Type 0 where
  -- O5, O9: refused, by the number that is due
  refuses : (k i s : ℕ) → ColumnsRefusal b d (length out) k i s → TellsRefusal r k i s → left ≡ out → Ended b d out r left
  -- V3: some sheet has the columns, and its restated form fits and is written
  writes : Accepted b → (cs : List (List ℕ)) → ColumnsIn b d cs → (c : List ℕ) → HasColumns b cs c → length (restated c) ≤ length out
      → r ≡ Answer.Given (length (restated c)) → left ≡ over (restated c) out → Ended b d out r left

numbered : (n : ℕ) → Numbered n n 0 0
numbered n = (refl, refl, refl)

-- V3, O9: what the call promises says how it ends
pub ended : {b d out : List ℕ} {r : Answer} {left : List ℕ} → ColumnsAnswer b d out r left → Ended b d out r left
ended {b} {r = r} (sheet_refused k i v e a) =
    refuses k i 0 (inl (subst (IsVerdict b) v (verdict_first b), refl)) e a
ended {r = r} (not_legible acc n e a) = refuses 18 0 0 (inr (acc, inl (n, numbered 18))) e a
ended {r = r} (not_executable acc cs x n e a) =
    refuses 19 0 0 (inr (acc, inr (cs, x, inl (n, numbered 19)))) e a
ended {b} {d} {out} {r} {left} (as_restated acc cs x c h e a) = go (dec_lt (length out) (length (restated c)))
  where
    go : Dec (length out < length (restated c)) → Ended b d out r left
    go (yes l) =
        let t = refused_short c (length out) h.accepted l in
        refuses 13 0 0 (inr (acc, inr (cs, x, inr (c, h, (l, numbered 13)))))
        (refused_told one_value r (restating c (length out)) e 13 0 0 t) (a ∙ refused_kept c out 13 0 0 t)
    go (no l) =
        let long : length (restated c) ≤ length out = omega arith in
        let t = given_long c (length out) h.accepted long in
        writes acc cs x c h long (is_given r (length (restated c)) (e ∙ ap (values one_value) t))
        (a ∙ given_output c out (length (restated c)) t)

module _ {b d out : List ℕ} {r : Answer} {left : List ℕ} where
  -- O9: the answer is the refusal that is due, else a number
  pub ended_answers : Ended b d out r left → NumberOr (ColumnsRefusal b d (length out)) r
  ended_answers (refuses k i s p e a) =
      record {
        refused_exactly = λ l j t. (
          λ f. let same : refused k i s ≡ refused l j t = sym e ∙ f in
              let n : k ≡ l = cc in let m : i ≡ j = cc in let w : s ≡ t = cc in
              subst (λ (z : ℕ). ColumnsRefusal b d (length out) z j t) n
              (subst (λ (z : ℕ). ColumnsRefusal b d (length out) k z t) m (subst (ColumnsRefusal b d (length out) k i) w p)),
          λ q. let same = columns_one b d (length out) k i s l j t p q in
              let n = same.0 in let m = same.1 in let w = same.2 in cc,
        );
        no_sizes = λ z f. let o : ◌≡◌ {A = ℕ} 0 1 = cc in omega arith;
      }
  ended_answers (writes acc cs x c h long e a) =
      record {
        refused_exactly = λ l j t. (
          λ f. let o : ◌≡◌ {A = ℕ} 0 1 = cc in absurd (omega arith),
          λ q. absurd (none_due acc x h long q),
        );
        no_sizes = λ z f. let o : ◌≡◌ {A = ℕ} 0 1 = cc in omega arith;
      }

  -- V3: where some sheet has the columns and its restated form fits, that is what is written, and its length is told
  pub ended_serves : Ended b d out r left → {cs : List (List ℕ)} {c : List ℕ} → Accepted b → ColumnsIn b d cs → HasColumns b cs c
      → length (restated c) ≤ length out → (r ≡ Answer.Given (length (restated c))) × (left ≡ over (restated c) out)
  ended_serves (refuses k i s p e a) acc x h long = absurd (none_due acc x h long p)
  ended_serves (writes _ ds y e g _ f a) acc x h long =
      let same = same_restated y x g h in
      (f ∙ ap (λ (t : List ℕ). Answer.Given (length t)) same, a ∙ ap (λ (t : List ℕ). over t out) same)

-- V3: a call that told a number has written
pub record Wrote (b d out : List ℕ) (k : ℕ) (left : List ℕ) : Type 0 where
  pub accepted : Accepted b
  pub held : List (List ℕ)
  pub legible : ColumnsIn b d held
  pub sheet : List ℕ
  pub has : HasColumns b held sheet
  pub length_told : k ≡ length (restated sheet)
  pub output : left ≡ over (restated sheet) out

-- V3: a call that gives a number has written the restated form of a sheet with the columns
pub ended_wrote : {b d out left : List ℕ} {k : ℕ} → Ended b d out (Answer.Given k) left → Wrote b d out k left
ended_wrote {k = k} (refuses n i s p e a) = let o : ◌≡◌ {A = ℕ} 0 1 = cc in absurd (omega arith)
ended_wrote {k = k} (writes acc cs x c h long e a) =
    record { accepted = acc; held = cs; legible = x; sheet = c; has = h; length_told = cc; output = a }

-- O5: a call that was refused has not
pub ended_kept : {b d out left : List ℕ} {r : Answer} {k i s : ℕ} → Ended b d out r left → TellsRefusal r k i s → left ≡ out
ended_kept (refuses l j t p e a) f = a
ended_kept (writes acc cs x c h long e a) f =
    let told : given (one_value (length (restated c))) ≡ refused _ _ _ = sym (ap outcome_of e) ∙ f in
    let o : ◌≡◌ {A = ℕ} 0 1 = cc in absurd (omega arith)

-- C1: answer and output are one
pub ended_fixed : {b d out left kept : List ℕ} {r s : Answer} → Ended b d out r left → Ended b d out s kept → (r ≡ s) × (left ≡ kept)
ended_fixed {b} {d} {out} {r = r} {s = other} (refuses k i s p e a) (refuses l j t q f c) =
    let same = columns_one b d (length out) k i s l j t p q in
    let n = same.0 in let m = same.1 in let w = same.2 in
    let told : TellsRefusal other k i s = cc in
    (same_refusal r other k i s e told, a ∙ sym c)
ended_fixed (refuses k i s p e a) (writes acc cs x c h long f g) = absurd (none_due acc x h long p)
ended_fixed (writes acc cs x c h long f g) (refuses l j t q e a) = absurd (none_due acc x h long q)
ended_fixed (writes acc cs x c h long f g) (writes acc' ds y e k long' m o) =
    let same = ended_serves (writes acc' ds y e k long' m o) acc x h long in
    (f ∙ sym same.0, g ∙ sym same.1)

-- ---- the steps of the given sheet play no part (V4)

module _ {b c : List ℕ} (same : SameTables b c) where
  -- R18 asks the same over the same tables
  columns_in_over : {d : List ℕ} {cs : List (List ℕ)} → ColumnsIn b d cs → ColumnsIn c d cs
  columns_in_over x =
      filled_over (component_count c) (tables c).alphabet same.same_components
      (λ j l. ap (λ (T : Tables). T.alphabet j) (same_tables same)) x

  -- and so does R19
  has_over : {cs : List (List ℕ)} {x : List ℕ} → HasColumns b cs x → HasColumns c cs x
  has_over h =
      record {
        accepted = h.accepted;
        same_tables = tables_on (tables_back same) h.same_tables;
        same_columns = h.same_columns;
      }

-- V4: over the same tables the call answers and writes the same
pub steps_no_part : {b c d out left : List ℕ} {r : Answer} → Accepted b → Accepted c → SameTables b c
    → ColumnsAnswer b d out r left → ColumnsAnswer c d out r left
steps_no_part {b} {c} acc acc' same (sheet_refused k i v e a) =
    let f : Verdict.refused k i ≡ Verdict.accepted = sym v ∙ acc in
    let z : ◌≡◌ {A = ℕ} 0 1 = cc in absurd (omega arith)
steps_no_part acc acc' same (not_legible _ n e a) = not_legible acc' (λ x. n (x.0, columns_in_over (tables_back same) x.1)) e a
steps_no_part acc acc' same (not_executable _ cs x n e a) =
    not_executable acc' cs (columns_in_over same x) (λ h. n (h.0, has_over (tables_back same) h.1)) e a
steps_no_part acc acc' same (as_restated _ cs x w h e a) = as_restated acc' cs (columns_in_over same x) w (has_over same h) e a
