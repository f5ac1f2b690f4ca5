-- `restated::same_places` meets its contract (A1): the packed steps of the two sheets compared.
-- Assumes nothing.
use mathlib.Core.Path.{ap₂, ◌∙◌}
use Rattle.sheet.specs.Refusals.{same_numbers}
use Rattle.comparing.proofs.Sameness.{pointwise_same}
use Rattle.comparing.proofs.restated.same_places.Goals as goal

pub returns : goal.returns
returns g c = c.eq.ensures ∙ pointwise_same c.pack_alone.result.now c.pack_alone-2.result.now ∙ ap₂ same_numbers c.pack_alone.ensures c.pack_alone-2.ensures
