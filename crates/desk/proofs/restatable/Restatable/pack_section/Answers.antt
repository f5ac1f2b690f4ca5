-- `Restatable::pack_section` meets its contract (N8): what was packed are the steps of the normal form.
-- Assumes nothing.
use mathlib.Core.Path.{sym}
use lib.Seq.{length-take-le}
use Rattle.desk.proofs.restatable.PackedSheets.{sixteen, packed_within, packed_told}
use Rattle.desk.proofs.restatable.Restatable.pack_section.Goals as goal

pub pack-count-requires : goal.pack-count-requires
pack-count-requires c = let s = c.args.self.now in (sixteen _ s.accepted.now.judged.sheet.sheet_accepted s.entered, c.requires.1.enough)

pub slice_bounds-result-end : goal.slice_bounds-result-end
slice_bounds-result-end c =
    let s = c.args.self.now in
    sym (length-take-le _ _
    (packed_within _ s.accepted.now.judged.sheet.sheet_accepted _ c.requires.0 s.entered _ _
    (λ T i p w. c.pack-count.ensures T i p w c.requires.1.zeros)))

pub returns : goal.returns
returns c =
    let s = c.args.self.now in
    packed_told _ s.accepted.now.judged.sheet.sheet_accepted _ c.requires.0 s.entered _ _
    (λ T i p w. c.pack-count.ensures T i p w c.requires.1.zeros)
