-- The rows of a product whose counts and length passed 15 (B5, R15): the last bytes, n for each of m rows.
-- Assumes nothing.
use Rattle.std.specs.Prelude.{◌≡◌, List, ℕ, ◌+◌, ◌*◌, ◌≤◌, length}
use Rattle.sheet.specs.Bounds.{most_components, most_actions}
use Rattle.products.specs.ProductBytes.{components_in, rows_in, rows_at}

-- R15: counts in range, and a length that fits them
pub record RowsStand (b : List ℕ) (n m : ℕ) : Type 0 where
  pub n_told : n ≡ components_in b
  pub m_told : m ≡ rows_in b
  pub few_components : n ≤ most_components
  pub few_rows : m ≤ most_actions
  pub length_fits : length b ≡ rows_at b + n * m
