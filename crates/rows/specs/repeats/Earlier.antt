-- R16: which earlier rows agree with a row, as far as the components compared go.
-- Assumes nothing.
use Rattle.std.specs.Prelude.{◌≡◌, ◌↔◌, Bool, true, not, List, ℕ, ◌<◌, eqb, length, get_or}
use Rattle.std.specs.List.{list_any}
use Rattle.sets.specs.Lists.{any_of, below}
use Rattle.sets.specs.Bits.{member, set_of}
use Rattle.products.specs.Product.{Product}
use Rattle.products.specs.ProductBytes.{entry}
use Rattle.products.specs.ProductVerdict.{same_row}

-- the set of the rows before row g
abbrev pub rows_before : ℕ → ℕ
rows_before g = set_of (below g)

-- the rows g and h have the same bytes for the first k components
abbrev pub AgreeOn : List ℕ → ℕ → ℕ → ℕ → Type 0
AgreeOn b k g h = (i : ℕ) → i < k → entry b h i ≡ entry b g i

-- the list has, for each row, the set of the rows before it that agree with it for the first k components
pub record EarlierAgree (b : List ℕ) (k : ℕ) (same : List ℕ) : Type 0 where
  pub exact : (g h : ℕ) → g < length same → (member (get_or same g 0) h ≡ true) ↔ ((h < g) × AgreeOn b k g h)

-- one of the sets is not empty
abbrev pub some_left : List ℕ → Bool
some_left same = list_any (λ x. not (eqb x 0)) same

-- R16: one of the first m rows repeats an earlier one
abbrev pub repeats_below : Product → ℕ → Bool
repeats_below P m = any_of (λ g. any_of (same_row P g) (below g)) (below m)
