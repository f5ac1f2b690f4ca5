-- `oatmist_winner`, which serves A3: a refusal fits into one number (O4, O7).
use Rattle.oatmist.proofs.FitsWord.{fits_winner, fits_told}
use Rattle.oatmist.proofs.oatmist_winner.Goals as goal

pub hand-requires : goal.hand-requires
hand-requires c = fits_told c.winner.result _ c.winner.ensures (fits_winner _ _)
