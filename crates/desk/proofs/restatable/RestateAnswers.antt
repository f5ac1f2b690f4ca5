-- R13, O5, N9: restating's answer and output: the sheet's own refusal, else 13, else the packed steps written as the restated sheet.
-- Assumes nothing.
use mathlib.Core.Path.{◌≡◌, sym, ap, ap₂, ◌∙◌}
use mathlib.Core.List.{List, ◌++◌}
use Prim.Native.Nat.{ℕ, ◌+◌, ◌*◌, ◌≤◌, ◌<◌}
use native.Mathlib.Omega.{arith}
use lib.ListN.{length, length-append}
use Rattle.sets.specs.Lists.{over}
use Rattle.sheet.specs.Layout.{front}
use Rattle.sheet.specs.Writing.{step_bytes, trailer, sheet_of}
use Rattle.sheet.specs.Verdict.{Verdict, verdict, Accepted}
use Rattle.sheet.proofs.Numbers.{length_numbers}
use Rattle.answers.specs.declared.Refusal.{Refusal}
use Rattle.answers.specs.declared.Refusal.TheVariants.{NoRoom}
use Rattle.answers.specs.declared.Answer.{Answer}
use Rattle.answers.specs.declared.Answer.TheVariants.{Given, Refused}
use Rattle.answers.specs.declared.Sizes.{Sizes}
use Rattle.answers.specs.Outcomes.{Outcome, given, refused, values, one_value, number_of}
use Rattle.answers.specs.LentOutput.{length_or13, output_by}
use Rattle.answers.specs.SizesRead.{SizesRead}
use Rattle.answers.specs.Restated.{with_steps, restated}
use Rattle.answers.specs.Restating.{restating, output_after}
use Rattle.answers.proofs.LentOutput.{refused_first, refused_kept, accepted_fits, fitting_long, fitting_short}
use Rattle.answers.proofs.Passing.{IsRefusal}
use Rattle.desk.specs.Left.{RestatedInto}
use Rattle.desk.specs.Calls.{RestateAnswer}

-- a refused call leaves the output as it came
refused_right : (b out : List ℕ) (r : Refusal) (i s : ℕ) → restating b (length out) ≡ refused (number_of r) i s → RestateAnswer b out (Refused r i s) out
refused_right b out r i s e =
    record { answer_told = ap (values one_value) (sym e); output_left = sym (refused_kept b out (number_of r) i s e) }

-- O5: the sheet's own refusal is told, and the output is as it came
pub restate_refused : (b out : List ℕ) (r : Answer) (v : Verdict) (s : IsRefusal r v) → verdict b ≡ Verdict.refused (number_of s.refusal) s.index
    → RestateAnswer b out r out
restate_refused b out r v s same =
    rw s.answer_told (refused_right b out s.refusal s.index 0 (refused_first b (length out) (number_of s.refusal) s.index same))

-- N9: the restated bytes of an accepted sheet, written, are its restating
pub restate_with : {b w out : List ℕ} {r : Answer} {after : List ℕ} → Accepted b → w ≡ restated b → RestatedInto w out r after
    → RestateAnswer b out r after
unfolding output_after
restate_with {b} {w} {out} {r} {after} acc e i =
    let same : length_or13 w (length out) ≡ restating b (length out) =
    ap (λ (x : List ℕ). length_or13 x (length out)) e ∙ sym (accepted_fits b (length out) acc) in
    record {
      answer_told = i.answer_told ∙ ap (values one_value) same;
      output_left = i.output_left ∙ ap₂ (λ (o : Outcome ℕ) (x : List ℕ). output_by o x out) same e;
    }

-- ---- the packed steps written (R13, N9)

module _ (b : List ℕ) (z : Sizes) (k : SizesRead b z) (before : List ℕ) (same : before ≡ front b) (xs ys : List ℕ) (packed : xs ≡ ys) where
  -- the sheet with these steps
  sheet_told : sheet_of before z.n z.m xs ≡ with_steps b ys
  sheet_told = ap₂ (λ (x l : List ℕ). sheet_of x z.n z.m l) same packed ∙ rw (k.n_read, k.m_read)

  -- S2: how long it is
  size_told : length before + 8 * length xs + 10 ≡ length (with_steps b ys)
  unfolding sheet_of trailer
  size_told =
      omega (arith, length_numbers 8 xs, length-append (step_bytes xs) (trailer (length before) z.n z.m))
      ∙ sym (length-append before (step_bytes xs ++ trailer (length before) z.n z.m))
      ∙ ap length sheet_told

  -- R13: the output is too short for it, and is as it came (O5)
  pub restate_short : (out : List ℕ) → length out < length before + 8 * length xs + 10 → {r : Answer} → r ≡ Refused NoRoom 0 0
      → RestatedInto (with_steps b ys) out r out
  restate_short out h {r} told =
      let e = size_told in
      let short : length_or13 (with_steps b ys) (length out) ≡ refused 13 0 0 = fitting_short (with_steps b ys) (length out) (omega arith) in
      rw told (record {
        answer_told = ap (values one_value) (sym short);
        output_left = ap (λ (o : Outcome ℕ). output_by o (with_steps b ys) out) (sym short);
      })

  -- N9: the packed steps, written with tables and trailer, are the sheet in the output
  pub restate_written : (out after : List ℕ) → length before + 8 * length xs + 10 ≤ length out → after ≡ over (sheet_of before z.n z.m xs) out
      → RestatedInto (with_steps b ys) out (Given (length before + 8 * length xs + 10)) after
  restate_written out after h e =
      let s = size_told in
      let long : length_or13 (with_steps b ys) (length out) ≡ given (length (with_steps b ys)) =
      fitting_long (with_steps b ys) (length out) (omega arith) in
      record {
        answer_told = ap (λ (k : ℕ). given (one_value k)) size_told ∙ ap (values one_value) (sym long);
        output_left = e ∙ ap (λ (x : List ℕ). over x out) sheet_told
            ∙ ap (λ (o : Outcome ℕ). output_by o (with_steps b ys) out) (sym long);
      }
