-- `oatmist_rows`, which serves B6, O8: a refusal fits into one number (O4, O7).
use Rattle.oatmist.proofs.FitsWord.{fits_rows, fits_told}
use Rattle.oatmist.proofs.oatmist_rows.Goals as goal

pub hand-requires : goal.hand-requires
hand-requires c = fits_told c.rows.result _ c.rows.ensures.answer_told (fits_rows _ _)
