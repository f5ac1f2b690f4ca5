-- `oatmist_report`, which serves P1 to P5: a refusal fits into one number (O4, O7).
use Rattle.oatmist.proofs.FitsWord.{fits_report, fits_told}
use Rattle.oatmist.proofs.oatmist_report.Goals as goal

pub hand-requires : goal.hand-requires
hand-requires c = fits_told c.report.result _ c.report.ensures.answer_told (fits_report _ _)
