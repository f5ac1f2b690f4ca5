-- `oatmist_process`, which serves N7: a refusal fits into one number (O4, O7).
use Rattle.oatmist.proofs.FitsWord.{fits_process, fits_told}
use Rattle.oatmist.proofs.oatmist_process.Goals as goal

pub hand-requires : goal.hand-requires
hand-requires c = fits_told c.process_check.result _ c.process_check.ensures (fits_process _)
