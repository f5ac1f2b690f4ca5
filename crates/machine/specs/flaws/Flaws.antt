-- The first step that is refused for itself, whatever is held before it (R10, R11, O3).
-- Assumes nothing.
use Rattle.std.specs.Prelude.{◌≡◌, false, List, ℕ, ◌<◌, length, get_or, Option, None, Some}
use Rattle.std.proofs.Math.Option as numbers
use Rattle.systems.specs.Tables.{Tables}
use Rattle.systems.specs.Checking.{not_actions, not_apart, lowest}
use Rattle.answers.specs.Outcomes as outcomes
use Rattle.machine.specs.declared.flaws.Flaw.{Flaw}

-- the number of a refusal; 0 for none (O3)
abbrev pub number_of : numbers.Option ℕ → ℕ
number_of numbers.none = 0
number_of (numbers.some k) = k

-- 10 or 11 of the step x, the lowest that holds; 0 where neither does (R10, R11)
abbrev pub flaw_of : Tables → ℕ → ℕ
flaw_of T x = number_of (lowest (not_actions T x) (not_apart T x) false)

-- f is the first flaw of the steps xs: its refusal and its index (O3)
pub record FlawAt (T : Tables) (xs : List ℕ) (f : Flaw) : Type 0 where
  pub inside : f.index < length xs
  pub none_earlier : (i : ℕ) → i < f.index → flaw_of T (get_or xs i 0) ≡ 0
  pub told : outcomes.number_of f.refusal ≡ flaw_of T (get_or xs f.index 0)

-- the first flaw of the steps xs, if there is one (O3)
abbrev pub IsFirstFlaw : Tables → List ℕ → Option Flaw → Type 0
IsFirstFlaw T xs None = (i : ℕ) → i < length xs → flaw_of T (get_or xs i 0) ≡ 0
IsFirstFlaw T xs (Some f) = FlawAt T xs f
