-- F4: sections written one behind another, each into the rest of the output that the one before it left: what is still to be written.
-- Assumes nothing.
use mathlib.Core.Path.{◌≡◌, refl, sym, ap, ap₂, ◌∙◌}
use mathlib.Core.List.{List, [], ◌++◌, append_assoc, append-nil}
use Prim.Native.Nat.{ℕ, ◌+◌, ◌-◌, ◌≤◌}
use native.Mathlib.Omega.{arith}
use lib.ListN.{length, drop, length-append, length-drop}
use lib.Seq.{length-take-le}
use borrow.Rule.Slice.PartMut.{mid_of, put_mid}
use Rattle.sets.specs.Lists.{over}
use Rattle.writing.proofs.Lending.{lent_over}

-- of `whole`, for which there is room, what is `left` is still to be written: `used` bytes stand in front of the output
pub record StillToWrite (whole left before after : List ℕ) (used : ℕ) : Type 0 where
  pub done : List ℕ
  pub split : whole ≡ done ++ left
  pub place : used ≡ length done
  pub written : after ≡ over done before
  pub fits : length whole ≤ length before

pub to_write_all : (whole left X : List ℕ) → whole ≡ left → length whole ≤ length X → StillToWrite whole left X X 0
to_write_all whole left X e h = record { done = []; split = e; place = refl; written = refl; fits = h }

module _ {whole left X X' : List ℕ} {used : ℕ} (O : StillToWrite whole left X X' used) where
  done_long : length O.done + length left ≡ length whole
  done_long = sym (ap length O.split ∙ length-append O.done left)

  pub to_write_length : length X' ≡ length X
  to_write_length =
      ap length O.written ∙ length-append O.done (drop (length O.done) X)
      ∙ omega (arith, length-drop (length O.done) X, done_long, O.fits)

  pub to_write_used : used ≤ length X'
  to_write_used = omega (arith, done_long, O.place, O.fits, to_write_length)

  -- the room for the next section, and in the rest that is lent to its writer
  pub to_write_room : (next rest : List ℕ) → left ≡ next ++ rest → used + length next ≤ length X'
  to_write_room next rest e =
      let l = ap length e ∙ length-append next rest in
      omega (arith, done_long, O.place, O.fits, to_write_length)

  pub to_write_lent : (next rest : List ℕ) → left ≡ next ++ rest → length next ≤ length (mid_of used (length X' - used) X')
  to_write_lent next rest e =
      let d = length-drop used X' in
      let l = length-take-le (length X' - used) (drop used X') (omega arith) in
      let r = to_write_room next rest e in
      omega arith

  -- the rest was lent, and came back with the next section in front
  pub to_write_more : (next rest : List ℕ) → left ≡ next ++ rest → {Y : List ℕ} {k r : ℕ} → k ≡ length X' - used
      → Y ≡ over next (mid_of used k X') → r ≡ length next → StillToWrite whole rest X (put_mid used k X' Y) (used + r)
  to_write_more next rest e count y size =
      record {
        done = O.done ++ next;
        split = O.split ∙ ap (λ (l : List ℕ). O.done ++ l) e ∙ sym (append_assoc O.done next rest);
        place = ap₂ (λ (i j : ℕ). i + j) O.place size ∙ sym (length-append O.done next);
        written = lent_over O.done next X O.written O.place count y;
        fits = O.fits;
      }

  -- nothing is left
  pub to_write_end : left ≡ [] → (used ≡ length whole) × (X' ≡ over whole X)
  to_write_end e =
      let all : O.done ≡ whole = sym (O.split ∙ ap (λ (l : List ℕ). O.done ++ l) e ∙ append-nil O.done) in
      (O.place ∙ ap length all, O.written ∙ ap (λ (l : List ℕ). over l X) all)
