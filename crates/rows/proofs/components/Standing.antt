-- R15: when a component stands in the bytes, by what the reader looks at: its length, its counts, and its states all at once.
-- Assumes nothing.
use mathlib.Core.Path.{◌≡◌, ap, ◌∙◌}
use mathlib.Core.Logic.{◌↔◌, ◌⊎◌, inl, inr}
use mathlib.Core.Bool.{Bool, true, false, ◌||◌}
use mathlib.Core.List.{List}
use Prim.Native.Nat.{ℕ, ◌+◌, ◌-◌, ◌*◌, ◌/◌, ◌%◌, ◌≤◌, ◌<◌}
use native.Mathlib.Omega.{arith}
use lib.Dec.{eqb, ltb, leb}
use lib.ListN.{length, take, drop, get_or, length-drop}
use lib.Seq.{get_or-take, get_or-drop, length-take-le, take_all}
use Rattle.sets.proofs.Bools.{true_or_false, or_false, eqb_true, eqb_false, ltb_false, leb_false}
use Rattle.rows.specs.components.Reading.{AllBelow, Stands}

module _ (b : List ℕ) (at : ℕ) where
  -- the bytes from `at` on, and those behind the three counts
  abbrev rest : List ℕ
  rest = take (length b - at) (drop at b)

  abbrev behind : List ℕ
  behind = take (length rest - 3) (drop 3 rest)

  rest_is : rest ≡ drop at b
  rest_is = take_all (length b - at) (drop at b) (omega (arith, length-drop at b))

  behind_is : behind ≡ drop 3 rest
  behind_is = take_all (length rest - 3) (drop 3 rest) (omega (arith, length-drop 3 rest))

  pub rest_at : (i : ℕ) → get_or rest i 0 ≡ get_or b (at + i) 0
  rest_at i = ap (λ (l : List ℕ). get_or l i 0) rest_is ∙ get_or-drop at b i 0

  rest_long : length rest ≡ length b - at
  rest_long = ap length rest_is ∙ length-drop at b

  abbrev states : ℕ
  states = get_or rest 0 0

  states_told : states ≡ get_or b at 0
  states_told = let e : at + 0 ≡ at = omega arith in rest_at 0 ∙ ap (λ (k : ℕ). get_or b k 0) e

  -- the bytes of k transitions
  abbrev part : ℕ → List ℕ
  part k = take (2 * k) behind

  part_at : (k i : ℕ) → i < 2 * k → get_or (part k) i 0 ≡ get_or b (at + 3 + i) 0
  part_at k i l =
      let e : at + (3 + i) ≡ at + 3 + i = omega arith in
      get_or-take (2 * k) behind i 0 l
      ∙ ap (λ (x : List ℕ). get_or x i 0) behind_is
      ∙ get_or-drop 3 rest i 0
      ∙ rest_at (3 + i)
      ∙ ap (λ (x : ℕ). get_or b x 0) e

  abbrev counts_out : Bool
  counts_out = (eqb states 0 || ltb 32 states) || leb states (get_or rest 1 0)

  pub stands : (k : ℕ) → k ≡ get_or rest 2 0 → 3 ≤ length rest → 2 * k ≤ length behind → counts_out ≡ false
      → AllBelow states (part k) ↔ Stands b at
  stands k told three enough right = (
    λ all.
        let first = (or_false _ _).0 right in
        let two = (or_false _ _).0 first.0 in
        let s = states_told in
        let initial = rest_at 1 in
        let count = count_told in
        let long = rest_long in
        let room = ap length behind_is ∙ length-drop 3 rest in
        record {
          inside = omega arith;
          in_range =
              record {
                states_low = let z = (eqb_false states 0).0 two.0 in omega arith;
                states_high = let z = (ltb_false 32 states).0 two.1 in omega arith;
                initial_below = let z = (leb_false states (get_or rest 1 0)).0 first.1 in omega arith;
                source_below = λ t l. below_states all (2 * t) (at + 3 + 2 * t) (omega arith) (omega arith);
                target_below = λ t l. below_states all (2 * t + 1) (at + 4 + 2 * t) (omega arith) (omega arith);
              };
        },
    λ s i l. each s i (let e = part_long in omega arith),
  )
    where
      count_told : k ≡ get_or b (at + 2) 0
      count_told = told ∙ rest_at 2

      part_long : length (part k) ≡ 2 * k
      part_long = length-take-le (2 * k) behind enough

      below_states : AllBelow states (part k) → (i x : ℕ) → i < 2 * get_or b (at + 2) 0 → x ≡ at + 3 + i → get_or b x 0 < get_or b at 0
      below_states all i x l f =
          let c = count_told in
          let e = part_long in
          let a = all i (omega arith) in
          let p = part_at k i (omega arith) in
          let s = states_told in
          rw f (omega arith)

      each : Stands b at → (i : ℕ) → i < 2 * k → get_or (part k) i 0 < states
      each s i l = go (true_or_false (eqb (i % 2) 0))
        where
          go : (eqb (i % 2) 0 ≡ true) ⊎ (eqb (i % 2) 0 ≡ false) → get_or (part k) i 0 < states
          go (inl f) =
              let z = (eqb_true (i % 2) 0).0 f in
              let c = count_told in
              let e : at + 3 + i ≡ at + 3 + 2 * (i / 2) = omega arith in
              let q = s.in_range.source_below (i / 2) (omega arith) in
              rw (part_at k i l) (rw e (rw states_told q))
          go (inr f) =
              let z = (eqb_false (i % 2) 0).0 f in
              let c = count_told in
              let e : at + 3 + i ≡ at + 4 + 2 * (i / 2) = omega arith in
              let q = s.in_range.target_below (i / 2) (omega arith) in
              rw (part_at k i l) (rw e (rw states_told q))
