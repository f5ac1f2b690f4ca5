-- One record decoded.
-- Assumes nothing.
use Rattle.std.specs.Prelude.{◌≡◌, List, ℕ, ◌<◌}
use Rattle.sheet.specs.declared.Component.{Component}
use Rattle.sheet.specs.Layout.{states_of, initial_of, alphabet_of}

-- the record with index j in the bytes b, decoded; the states of its component begin at `base` (S3)
pub record RecordDecoded (b : List ℕ) (j base : ℕ) (c : Component) : Type 0 where
  pub states_decoded : c.states ≡ states_of b j
  pub initial_decoded : c.initial ≡ initial_of b j
  pub alphabet_decoded : c.alphabet ≡ alphabet_of b j
  pub begins : c.base ≡ base
  pub small : c.states < 256
