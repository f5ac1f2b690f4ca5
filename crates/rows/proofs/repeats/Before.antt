-- R16: where no component is compared yet, each row has all rows before it.
-- Assumes nothing.
use mathlib.Core.Path.{◌≡◌, sym, ap, ◌∙◌}
use mathlib.Core.List.{List}
use Prim.Native.Nat.{ℕ, ◌<◌}
use native.Mathlib.Omega.{arith}
use lib.ListN.{length, get_or}
use Rattle.sets.specs.Bits.{member}
use Rattle.sets.proofs.AllBelow.{below_exact}
use Rattle.rows.specs.repeats.Earlier.{rows_before, EarlierAgree}

pub started : (same : List ℕ) → ((g : ℕ) → g < length same → get_or same g 0 ≡ rows_before g) → (b : List ℕ) → EarlierAgree b 0 same
started same each b =
    record {
      exact = λ g h l. (
        λ t. ((below_exact g h).0 (ap (λ (z : ℕ). member z h) (sym (each g l)) ∙ t), λ i k. absurd (omega arith)),
        λ r. ap (λ (z : ℕ). member z h) (each g l) ∙ (below_exact g h).1 r.0,
      );
    }
