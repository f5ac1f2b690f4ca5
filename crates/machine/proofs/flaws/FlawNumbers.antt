-- R10, R11, O3: what the number of a step's flaw says of the tests 10 and 11, and the other way round.
-- Assumes nothing.
use mathlib.Core.Path.{◌≡◌, refl, sym, ap, ap₂, ◌∙◌}
use mathlib.Core.Logic.{◌≢◌}
use mathlib.Core.Bool.{Bool, true, false, ◌||◌}
use mathlib.Core.Option.{some}
use Prim.Native.Nat.{ℕ, ◌^◌}
use native.Mathlib.Omega.{arith}
use lib.Dec.{eqb, leb}
use Rattle.systems.specs.Tables.{Tables}
use Rattle.systems.specs.Checking.{not_actions, not_apart, lowest}
use Rattle.machine.specs.flaws.Flaws.{number_of, flaw_of}

-- ---- by the tests as they are computed

module _ (T : Tables) (x : ℕ) where
  -- the test of 10, by the number of actions (R10)
  pub misses_told : {m : ℕ} {r b : Bool} → T.actions ≡ m → r ≡ (eqb x 0 || leb (2 ^ m) x) → r ≡ b → not_actions T x ≡ b
  unfolding not_actions
  misses_told e p q = ap (λ (k : ℕ). eqb x 0 || leb (2 ^ k) x) e ∙ sym p ∙ q

  -- the number, by the two tests (O3)
  pub flaw_by : {a b : Bool} → not_actions T x ≡ a → not_apart T x ≡ b → number_of (lowest a b false) ≡ flaw_of T x
  flaw_by p q = ap₂ (λ (a b : Bool). number_of (lowest a b false)) (sym p) (sym q)

-- ---- from the number to the tests (O3)

-- no flaw: neither test holds
pub flaw_none : (a b : Bool) → number_of (lowest a b false) ≡ 0 → (a ≡ false) × (b ≡ false)
flaw_none true b e = absurd (omega arith)
flaw_none false true e = absurd (omega arith)
flaw_none false false e = (refl, refl)

-- a flaw is the lowest refusal, whether 12 holds or not
pub flaw_some : (a b c : Bool) (k : ℕ) → k ≡ number_of (lowest a b false) → k ≢ 0 → lowest a b c ≡ some k
flaw_some true b c k e n = ap some (sym e)
flaw_some false true c k e n = ap some (sym e)
flaw_some false false c k e n = absurd (n e)
