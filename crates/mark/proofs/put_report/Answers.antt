-- The room is long enough for any report, so there is one, and it stands in front (P1 to P5).
use Rattle.std.proofs.Common.{length, ap, ◌∙◌, sym}
use Rattle.answers.proofs.Told.{is_given}
use Rattle.oatmist.proofs.Printing.{length_given, size_told, text_front}
use Rattle.mark.proofs.put_report.Goals as goal

pub returns-in_default : goal.returns-in_default
returns-in_default c =
    absurd (c.in_default.not-Given _ (is_given c.report-answer.result _ (length_given c.report-answer.ensures c.requires)))

pub returns : goal.returns
returns c = text_front c.report-answer.ensures c.requires _ c.in-Given.is

pub slice_bounds-result-end-2 : goal.slice_bounds-result-end-2
slice_bounds-result-end-2 c = sym (ap length (returns c) ∙ size_told c.report-answer.ensures c.requires _ c.in-Given.is)
