-- R15, B7: the parts of a product, filled one after another.
-- Assumes nothing.
use mathlib.Core.Path.{◌≡◌, sym, ap, ◌∙◌}
use mathlib.Core.Logic.{◌⊎◌, inl, inr}
use mathlib.Core.List.{List}
use Prim.Native.Nat.{ℕ, ◌+◌, ◌<◌}
use native.Mathlib.Omega.{arith}
use lib.ListN.{length, get_or, set}
use lib.Seq.{get_or-set_same, get_or-set_other}
use Rattle.rows.specs.declared.product.Part.{Part}
use Rattle.rows.specs.Reading.{no_part}
use Rattle.sets.proofs.Lists.{last_or_below}

-- R15, B7: one part more that is as g says
pub part_next : (f : Part → ℕ) (g : ℕ → ℕ) (i : ℕ) (l : List Part) (p : Part) → i < length l
    → ((k : ℕ) → k < i → f (get_or l k no_part) ≡ g k) → f p ≡ g i → (k : ℕ) → k < i + 1 → f (get_or (set l i p) k no_part) ≡ g k
part_next f g i l p h each e k b = at (last_or_below i k b)
  where
    at : (k ≡ i) ⊎ (k < i) → f (get_or (set l i p) k no_part) ≡ g k
    at (inl q) = ap (λ (j : ℕ). f (get_or (set l i p) j no_part)) q ∙ ap f (get_or-set_same l i p no_part h) ∙ e ∙ ap g (sym q)
    at (inr c) = ap f (get_or-set_other l i k p no_part (λ q. absurd (omega arith))) ∙ each k c
