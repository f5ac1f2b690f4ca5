-- The lowest element that is left is the next to be written (P4, P5).
use Rattle.std.proofs.Common.{◌∙◌, sym, ap, ◌∷◌, ℕ}
use Rattle.sets.specs.Bits.{members}
use Rattle.sets.proofs.Members.{members_zero}
use Rattle.sets.proofs.Walks.{taken_first}
use Rattle.answers.specs.Report.{report_room}
use Rattle.report.proofs.text.Appending.{to_write_room, to_write_more, to_write_end}
use Rattle.report.proofs.text.Text.members.Goals as goal

pub part-requires : goal.part-requires
part-requires c =
    to_write_room c.loop-i.invariant c.from.result (members c.next.new.self.left) report_room
    (taken_first c.in-Some.ensures.steps ∙ ap (λ (i : ℕ). i ∷ members c.next.new.self.left) (sym c.from.ensures)) c.requires

pub loop-i-preserved : goal.loop-i-preserved
loop-i-preserved c =
    to_write_more c.loop-i.invariant c.from.result (members c.next.new.self.left) _
    (taken_first c.in-Some.ensures.steps ∙ ap (λ (i : ℕ). i ∷ members c.next.new.self.left) (sym c.from.ensures)) c.part.ensures

pub returns : goal.returns
returns c = to_write_end c.loop-i.invariant (ap members c.in-None.ensures.steps.0 ∙ members_zero)
