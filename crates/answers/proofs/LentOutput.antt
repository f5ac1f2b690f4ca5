-- R13, O5, N9: a text handed over in lent bytes: 13 exactly where it does not fit, else its length, what is written and what is kept; and
-- restating by these.
-- Assumes nothing.
use mathlib.Core.Path.{◌≡◌, ◌∙◌}
use mathlib.Core.Bool.{Bool, true, false}
use mathlib.Core.List.{List}
use Prim.Native.Nat.{ℕ, ◌<◌, ◌≤◌}
use native.Mathlib.Omega.{arith}
use lib.Dec.{ltb}
use lib.ListN.{length, take, drop}
use Rattle.sets.specs.Lists.{over}
use Rattle.sets.proofs.Bools.{ltb_true, ltb_false}
use Rattle.sets.proofs.Lists.{over_front, over_behind}
use Rattle.sheet.specs.Verdict.{Verdict, verdict, Accepted}
use Rattle.answers.specs.Outcomes.{given, refused, after}
use Rattle.answers.specs.LentOutput.{unless_short, length_or13}
use Rattle.answers.specs.Restated.{restated}
use Rattle.answers.specs.Restating.{restating, output_after}

-- ---- any text: whether it fits (R13)

module _ (text : List ℕ) where
  pub fitting_long : (size : ℕ) → length text ≤ size → length_or13 text size ≡ given (length text)
  unfolding length_or13
  fitting_long size l = rw ((ltb_false size (length text)).1 l)

  pub fitting_short : (size : ℕ) → size < length text → length_or13 text size ≡ refused 13 0 0
  unfolding length_or13
  fitting_short size l = rw ((ltb_true size (length text)).1 l)

  -- what is given is the length of the text
  pub fitting_length : (size k : ℕ) → length_or13 text size ≡ given k → length text ≡ k
  unfolding length_or13
  fitting_length size k e = go (ltb size (length text)) e
    where
      go : (s : Bool) → unless_short s (length text) ≡ given k → length text ≡ k
      go true h = let z : ◌≡◌ {A = ℕ} 0 1 = cc in absurd (omega arith)
      go false h = cc

-- ---- restating

-- O1: the sheet's own refusal comes before 13
pub refused_first : (b : List ℕ) (size k i : ℕ) → verdict b ≡ Verdict.refused k i → restating b size ≡ refused k i 0
unfolding restating
refused_first b size k i e = rw e

-- R13: for an accepted sheet 13 is the only refusal left
pub accepted_fits : (b : List ℕ) (size : ℕ) → Accepted b → restating b size ≡ length_or13 (restated b) size
unfolding restating
accepted_fits b size acc = rw acc

-- R13: 13 is told where the restated sheet does not fit
pub refused_short : (b : List ℕ) (size : ℕ) → Accepted b → size < length (restated b) → restating b size ≡ refused 13 0 0
refused_short b size acc l = accepted_fits b size acc ∙ fitting_short (restated b) size l

-- R13: where it fits, its length is given
pub given_long : (b : List ℕ) (size : ℕ) → Accepted b → length (restated b) ≤ size → restating b size ≡ given (length (restated b))
given_long b size acc l = accepted_fits b size acc ∙ fitting_long (restated b) size l

-- O5: a refused call does not change the output
pub refused_kept : (b out : List ℕ) (k i s : ℕ) → restating b (length out) ≡ refused k i s → output_after b out ≡ out
unfolding output_after
refused_kept b out k i s e = rw e

-- what is given is the length of the restated sheet (N9)
pub given_length : (b : List ℕ) (size k : ℕ) → restating b size ≡ given k → length (restated b) ≡ k
unfolding restating
given_length b size k e = go (verdict b) e
  where
    go : (v : Verdict) → after v (length_or13 (restated b) size) ≡ given k → length (restated b) ≡ k
    go (Verdict.refused r i) h = let z : ◌≡◌ {A = ℕ} 0 1 = cc in absurd (omega arith)
    go Verdict.accepted h = fitting_length (restated b) size k h

-- N9: the restated sheet is written over the front of the output
pub given_output : (b out : List ℕ) (k : ℕ) → restating b (length out) ≡ given k → output_after b out ≡ over (restated b) out
unfolding output_after
given_output b out k e = rw e

-- N9: so the first bytes, as many as were told, are the restated sheet
pub given_written : (b out : List ℕ) (k : ℕ) → restating b (length out) ≡ given k → take k (output_after b out) ≡ restated b
given_written b out k e = rw (given_output b out k e) (over_front (restated b) out k (given_length b (length out) k e))

-- N9: and the bytes behind its end stay as they are
pub given_behind : (b out : List ℕ) (k : ℕ) → restating b (length out) ≡ given k → drop k (output_after b out) ≡ drop k out
given_behind b out k e = rw (given_output b out k e) (over_behind (restated b) out k (given_length b (length out) k e))
