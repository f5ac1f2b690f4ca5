-- N8: what holds the steps, or their number, once an action has been put into one of them.
-- Assumes nothing.
use mathlib.Core.Path.{◌≡◌, refl, sym, ap, ap₂, ◌∙◌}
use mathlib.Core.Bool.{Bool, ◌||◌}
use mathlib.Core.List.{List, [], ◌∷◌, ◌++◌, map}
use Prim.Native.Nat.{ℕ, zero, suc, ◌+◌, ◌-◌, ◌≤◌, ◌<◌, max}
use native.Mathlib.Omega.{arith}
use lib.Dec.{eqb}
use lib.ListN.{length, get_or, set, replicate, length-set}
use Rattle.sets.specs.Lists.{any_of}
use Rattle.sets.specs.Bits.{member, with, set_of}
use Rattle.sets.proofs.Members.{member_zero, member_with, member_ext}
use Rattle.traces.specs.Foata.{insert_sorted, put_at}
use Rattle.traces.proofs.Insert.{any_of_insert_sorted}
use Rattle.traces.proofs.Placing.{put_length}
use Rattle.normal_form.specs.HoldsFoata.{HoldsSteps}
use Rattle.normal_form.specs.Words.{Counted}

-- ---- the sets of the steps

member_set_of : (i : ℕ) (s : List ℕ) → member (set_of s) i ≡ any_of (λ j. eqb j i) s
member_set_of i [] = member_zero i
member_set_of i (j ∷ s) = member_with j (set_of s) i ∙ ap (λ (b : Bool). eqb j i || b) (member_set_of i s)

set_of_insert_sorted : (a : ℕ) (s : List ℕ) → set_of (insert_sorted a s) ≡ with a (set_of s)
set_of_insert_sorted a s =
    member_ext (set_of (insert_sorted a s)) (with a (set_of s)) (λ i.
    member_set_of i (insert_sorted a s)
    ∙ any_of_insert_sorted (λ j. eqb j i) a s
    ∙ ap (λ (b : Bool). eqb a i || b) (sym (member_set_of i s))
    ∙ sym (member_with a (set_of s) i))

-- the sets of steps, with z zeros behind them
abbrev padded : List (List ℕ) → ℕ → List ℕ
padded ss z = map set_of ss ++ replicate z 0

put_sets : (a k : ℕ) (ss : List (List ℕ)) (z y : ℕ) → k ≤ length ss → length (put_at a k ss) + y ≡ length ss + z
    → set (padded ss z) k (with a (get_or (padded ss z) k 0)) ≡ padded (put_at a k ss) y
put_sets a zero [] zero y h e = absurd (omega arith)
put_sets a zero [] (suc z) y h e = let same : z ≡ y = omega arith in ap (λ (x : ℕ). with a 0 ∷ replicate x 0) same
put_sets a zero (s ∷ ss) z y h e =
    let same : z ≡ y = omega arith in
    ap₂ (λ (x r : ℕ). x ∷ padded ss r) (sym (set_of_insert_sorted a s)) same
put_sets a (suc k) [] z y h e = absurd (omega arith)
put_sets a (suc k) (s ∷ ss) z y h e = ap (λ (t : List ℕ). set_of s ∷ t) (put_sets a k ss z y (omega arith) (omega arith))

-- ---- an action put into the step of its level

module _ (a level count count' : ℕ) (counts : count' ≡ max count (level + 1)) (ss : List (List ℕ)) where
  -- the number of steps
  pub put_counted : Counted count ss → Counted count' (put_at a level ss)
  put_counted all = let size = put_length a level ss in omega arith

  -- and the steps as sets
  pub put_holds : (packed packed' : List ℕ) → level < length packed → packed' ≡ set packed level (with a (get_or packed level 0)) → level ≤ length ss
      → HoldsSteps packed count ss → HoldsSteps packed' count' (put_at a level ss)
  put_holds packed packed' within puts few H =
      let all = H.counted in
      let steps_fit = H.few in
      let same : length packed' ≡ length packed = ap length puts ∙ length-set packed level _ in
      let now = put_counted all in
      let size = put_length a level ss in
      record {
        counted = now;
        few = omega arith;
        packed_sets = puts
            ∙ ap (λ (p : List ℕ). set p level (with a (get_or p level 0))) H.packed_sets
            ∙ put_sets a level ss (length packed - count) (length packed' - count') few (omega arith);
      }

-- zeros hold no steps
pub holds_none : (packed : List ℕ) → packed ≡ replicate (length packed) 0 → HoldsSteps packed 0 []
holds_none packed empty =
    let all : length packed ≡ length packed - 0 = omega arith in
    record { counted = refl; few = omega arith; packed_sets = empty ∙ ap (λ (n : ℕ). replicate n 0) all }
