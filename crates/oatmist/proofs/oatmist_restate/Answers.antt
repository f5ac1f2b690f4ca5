-- `oatmist_restate`, which serves N9: a refusal fits into one number (O4, O7).
use Rattle.oatmist.proofs.FitsWord.{fits_restate, fits_told}
use Rattle.oatmist.proofs.oatmist_restate.Goals as goal

pub hand-requires : goal.hand-requires
hand-requires c = fits_told c.restate.result _ c.restate.ensures.answer_told (fits_restate _ _)
