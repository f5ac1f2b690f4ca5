-- `oatmist_check`, which serves O1, S6: a refusal fits into one number (O4, O7).
use Rattle.oatmist.proofs.FitsWord.{fits_read, fits_told}
use Rattle.oatmist.proofs.oatmist_check.Goals as goal

pub hand-requires : goal.hand-requires
hand-requires c = fits_told c.check.result _ c.check.ensures (fits_read _ _)
