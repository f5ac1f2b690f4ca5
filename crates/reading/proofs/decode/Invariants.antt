-- `reading::decode`, which serves S3: the components so far are those of their records.
-- Assumes nothing.
use Rattle.std.proofs.Common.{◌≡◌, ℕ, ◌*◌, ◌<◌, ◌≤◌, get_or}
use Rattle.sheet.specs.Layout.{tables_of}
use Rattle.sheet.specs.Sections.{base_of, no_component}
use Rattle.reading.specs.records.Decoding.{RecordDecoded}
use Rattle.reading.proofs.decode.Given as goal

abbrev pub invariant-loop-j : goal.invariant-loop-j
invariant-loop-j l =
    (l.base ≡ base_of (tables_of l.section 0 0) l.j)
    × (l.base ≤ 255 * l.j)
    × ((k : ℕ) → k < l.j → RecordDecoded l.section k (base_of (tables_of l.section 0 0) k) (get_or l.components k no_component))
