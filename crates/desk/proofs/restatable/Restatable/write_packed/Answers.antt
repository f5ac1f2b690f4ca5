-- `Restatable::write_packed` meets its contract (N8, N9, R13, O5): the packed steps make the restated sheet, written where it fits; else the
-- output stays as it came.
-- Assumes nothing.
use mathlib.Core.Path.{◌≡◌}
use mathlib.Core.List.{List}
use Prim.Native.Nat.{ℕ, ◌≤◌, ◌<◌}
use native.Mathlib.Omega.{arith}
use lib.ListN.{length}
use Rattle.sheet.specs.Bounds.{most_steps}
use Rattle.sheet.specs.Layout.{front, tables}
use Rattle.sheet.specs.Sections.{steps_in}
use Rattle.sheet.specs.Verdict.{Accepted}
use Rattle.answers.specs.Restated.{normal}
use Rattle.answers.proofs.Restated.{accepted_limits, front_short}
use Rattle.desk.specs.AcceptedSheet.{SectionRuns}
use Rattle.desk.proofs.restatable.PackedSheets.{normal_few}
use Rattle.desk.proofs.restatable.RestateAnswers.{restate_short, restate_written}
use Rattle.desk.proofs.restatable.Restatable.write_packed.Goals as goal

-- L5: the packed steps are few
few : (b : List ℕ) → Accepted b → (section : List ℕ) → SectionRuns b section → (steps : List ℕ) → steps ≡ normal (tables b) (steps_in section)
    → length steps ≤ most_steps
few b acc section g steps e = rw e (normal_few b acc section g)

-- L7: and so are the bytes before them
short : (b : List ℕ) → Accepted b → (before : List ℕ) → before ≡ front b → length before < 65536
short b acc before e = rw e (front_short b (accepted_limits b acc))

pub overflow_add-size-2 : goal.overflow_add-size-2
overflow_add-size-2 c =
    let acc = c.args.self.now.accepted.now.judged.sheet.sheet_accepted in
    let f = few _ acc _ c.requires.0 _ c.pack_section-steps.ensures in
    let s = short _ acc _ c.front-front.ensures in
    omega arith

pub returns-then-out-size : goal.returns-then-out-size
returns-then-out-size c =
    let k = c.args.self.now.accepted.now.judged.sheet.sizes_read in
    restate_short _ _ k _ c.front-front.ensures _ _ c.pack_section-steps.ensures _ c.if-out-size.true c.refuse.ensures

pub write_sheet-requires : goal.write_sheet-requires
write_sheet-requires c =
    let acc = c.args.self.now.accepted.now.judged.sheet.sheet_accepted in
    let f = few _ acc _ c.requires.0 _ c.pack_section-steps.ensures in
    let s = short _ acc _ c.front-front.ensures in
    let room = c.if-out-size.false in
    (s, f, omega arith)

pub returns : goal.returns
returns c =
    let k = c.args.self.now.accepted.now.judged.sheet.sizes_read in
    restate_written _ _ k _ c.front-front.ensures _ _ c.pack_section-steps.ensures _ _ c.if-out-size.false c.write_sheet.ensures
