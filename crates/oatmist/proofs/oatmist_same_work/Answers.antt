-- `oatmist_same_work`, which serves A1: a refusal fits into one number (O4, O7).
use Rattle.oatmist.proofs.FitsWord.{fits_work, fits_told}
use Rattle.oatmist.proofs.oatmist_same_work.Goals as goal

pub hand-requires : goal.hand-requires
hand-requires c = fits_told c.same_work.result _ c.same_work.ensures (fits_work _ _)
