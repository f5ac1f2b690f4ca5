-- B4: two rows are independent in the sense of 002 exactly when the two actions are independent by the sheet.
-- Assumes nothing.
use mathlib.Core.Path.{◌≡◌}
use mathlib.Core.Logic.{◌↔◌}
use mathlib.Core.Bool.{true, false}
use Prim.Native.Nat.{ℕ, ◌<◌}
use Rattle.sets.proofs.Bools.{false_iff}
use Rattle.systems.specs.Independence.{dependent}
use Rattle.systems.proofs.Dependence.{ShareAlphabet, dependent_shares}
use Rattle.sheet.specs.Layout.{tables_of}
use Rattle.products.specs.Product.{Product, TakesPart, Independent}
use Rattle.products.proofs.Firing.{InRange, tables_by, action_part}

module _ (P : Product) (ok : InRange P) (busy : (g : ℕ) → g < P.rows → (j : ℕ) × (j < P.components) × TakesPart P g j) where
  pub independent_rows : (g h : ℕ) → g < P.rows → h < P.rows → Independent P g h ↔ (dependent (tables_by P) g h ≡ false)
  unfolding tables_of
  independent_rows g h l m = (
    λ apart.
        (false_iff (dependent (tables_by P) g h)).1
        (λ d.
        let s = shared.0 d in
        apart s.0 s.1 (((action_part P ok g s.0 s.1).0 s.2).1, ((action_part P ok h s.0 s.1).0 s.3).1)),
    λ e j n parts.
        (false_iff (dependent (tables_by P) g h)).0 e
        (shared.1 (j, n, (action_part P ok g j n).1 (l, parts.0), (action_part P ok h j n).1 (m, parts.1))),
  )
    where
      shared : (dependent (tables_by P) g h ≡ true) ↔ ShareAlphabet (tables_by P) g h
      shared = let b = busy g l in dependent_shares (tables_by P) g h (b.0, b.1, (action_part P ok g b.0 b.1).1 (l, b.2))
