-- `oatmist_stuck`, which serves A5: a refusal fits into one number (O4, O7).
use Rattle.oatmist.proofs.FitsWord.{fits_stuck, fits_told}
use Rattle.oatmist.proofs.oatmist_stuck.Goals as goal

pub hand-requires : goal.hand-requires
hand-requires c = fits_told c.is_stuck.result _ c.is_stuck.ensures (fits_stuck _)
