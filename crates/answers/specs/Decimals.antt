-- P1: decimal numbers read back: what `decimal` is to be, said without how it is made.
-- Assumes nothing.
use Rattle.std.specs.Prelude.{◌≡◌, ◌≢◌, ℕ, ◌+◌, ◌-◌, ◌*◌, ◌≤◌, get_or}
use mathlib.Core.List.{List, [], ◌∷◌, Memᴰ}
use Rattle.answers.specs.Report.{decimal}

-- the number that a text tells, most significant digit first, where n was told before it
abbrev pub value_after : ℕ → List ℕ → ℕ
value_after n [] = n
value_after n (c ∷ cs) = value_after (10 * n + (c - 48)) cs

abbrev pub value : List ℕ → ℕ
value cs = value_after 0 cs

-- of every number
pub record Decimals : Type 0 where
  -- the text tells the number
  pub read_back : (x : ℕ) → value (decimal x) ≡ x
  -- in digits alone, 0 to 9
  pub digits_alone : (x c : ℕ) → Memᴰ c (decimal x) → (48 ≤ c) × (c ≤ 57)
  -- 0 is one digit, and no other number begins with it
  pub zero_printed : decimal 0 ≡ 48 ∷ []
  pub no_zero_first : (x : ℕ) → x ≢ 0 → get_or (decimal x) 0 48 ≢ 48
  -- no other text of digits that does not begin with 0 tells the number
  pub no_other : (l : List ℕ) → ((c : ℕ) → Memᴰ c l → (48 ≤ c) × (c ≤ 57)) → get_or l 0 48 ≢ 48 → decimal (value l) ≡ l
