-- P1: the texts of a list, written one behind another.
-- Assumes nothing.
use Rattle.std.proofs.Common.{◌≡◌, sym, ap, ◌∙◌, List, [], ◌∷◌, ◌++◌, append_assoc, map, ℕ, ◌+◌, ◌≤◌, length, arith}
use mathlib.Core.List.{append-nil}
use lib.ListN.{length-append}
use Rattle.sets.specs.Lists.{append_all}

-- of the texts of xs those of `left` are still to be written, behind what stands there now
pub record StillToWrite (f : ℕ → List ℕ) (xs left before now : List ℕ) : Type 0 where
  pub whole : now ++ append_all (map f left) ≡ before ++ append_all (map f xs)

pub to_write_none : {f : ℕ → List ℕ} {xs left before : List ℕ} → xs ≡ left → StillToWrite f xs left before before
to_write_none {f = f} {before = before} e = record { whole = ap (λ (l : List ℕ). before ++ append_all (map f l)) (sym e) }

module _ {f : ℕ → List ℕ} {xs left before now : List ℕ} (S : StillToWrite f xs left before now) where
  pub to_write_room : (v : ℕ) (l : List ℕ) (room : ℕ) → left ≡ v ∷ l → length before + length (append_all (map f xs)) ≤ room
      → length now + length (f v) ≤ room
  to_write_room v l room e h =
      let w : now ++ (f v ++ append_all (map f l)) ≡ before ++ append_all (map f xs) = sym (ap (λ (k : List ℕ). now ++ append_all (map f k)) e) ∙ S.whole in
      let n = ap length w in
      let a = length-append now (f v ++ append_all (map f l)) in
      let b = length-append (f v) (append_all (map f l)) in
      let c = length-append before (append_all (map f xs)) in
      omega arith

  pub to_write_more : (v : ℕ) (l next : List ℕ) → left ≡ v ∷ l → next ≡ now ++ f v → StillToWrite f xs l before next
  to_write_more v l next e q =
      record {
        whole =
            ap (λ (k : List ℕ). k ++ append_all (map f l)) q
            ∙ append_assoc now (f v) (append_all (map f l))
            ∙ sym (ap (λ (k : List ℕ). now ++ append_all (map f k)) e)
            ∙ S.whole;
      }

  pub to_write_end : left ≡ [] → now ≡ before ++ append_all (map f xs)
  to_write_end e = sym (append-nil now) ∙ sym (ap (λ (k : List ℕ). now ++ append_all (map f k)) e) ∙ S.whole
