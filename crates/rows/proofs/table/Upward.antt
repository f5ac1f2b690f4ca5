-- F4: sections written for the numbers below n, one behind another: those from j on are what is left.
-- Assumes nothing.
use mathlib.Core.Path.{◌≡◌, sym, ap, ◌∙◌}
use mathlib.Core.List.{List, [], ◌++◌, map}
use Prim.Native.Nat.{ℕ, suc, ◌+◌, ◌-◌, ◌<◌, ◌≤◌}
use native.Mathlib.Numerals.{add-one}
use native.Mathlib.Omega.{arith}
use Rattle.sets.specs.Lists.{append_all, below, upward}

module _ (f : ℕ → List ℕ) (n : ℕ) where
  -- what is to be written from j on
  abbrev pub left_from : ℕ → List ℕ
  left_from j = append_all (map f (upward j (n - j)))

  pub left_all : append_all (map f (below n)) ≡ left_from 0
  unfolding below
  left_all = let e : n ≡ n - 0 = omega arith in ap (λ (k : ℕ). append_all (map f (upward 0 k))) e

  pub left_next : (j : ℕ) → j < n → left_from j ≡ f j ++ left_from (j + 1)
  unfolding upward
  left_next j h =
      let e : n - j ≡ suc (n - (j + 1)) = omega arith in
      ap (λ (k : ℕ). append_all (map f (upward j k))) e ∙ ap (λ (i : ℕ). f j ++ append_all (map f (upward i (n - (j + 1))))) (sym (add-one j))

  pub left_none : (j : ℕ) → n ≤ j → left_from j ≡ []
  unfolding upward
  left_none j h = let e : n - j ≡ 0 = omega arith in ap (λ (k : ℕ). append_all (map f (upward j k))) e
