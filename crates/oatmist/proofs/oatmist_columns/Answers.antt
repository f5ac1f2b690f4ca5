-- `oatmist_columns`, which serves V3 and O9: a refusal fits into one number (O4, O7).
use Rattle.oatmist.proofs.FitsWord.{fits_columns, parts_fit}
use Rattle.oatmist.proofs.oatmist_columns.Goals as goal

pub hand-requires : goal.hand-requires
hand-requires c = parts_fit _ (fits_columns _ _ _ c.columns.result _ c.columns.ensures)
