-- `oatmist_figure`, which serves A4: a refusal fits into one number (O4, O7).
use Rattle.oatmist.proofs.FitsWord.{fits_figure, fits_told}
use Rattle.oatmist.proofs.oatmist_figure.Goals as goal

pub hand-requires : goal.hand-requires
hand-requires c = fits_told c.figure_of.result _ c.figure_of.ensures (fits_figure _)
