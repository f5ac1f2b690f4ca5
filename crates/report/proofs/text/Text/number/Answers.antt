-- A number has as many digits as there are places, and there is room for them (P1).
use Rattle.std.proofs.Common.{◌≡◌, refl, ap, ◌∙◌, List, ◌++◌, ℕ, length, take, arith}
use Rattle.std.proofs.lemmas.List.{take-set-le}
use lib.Seq.{length-take-le}
use Rattle.answers.specs.Report.{decimal}
use Rattle.report.proofs.text.Digits.{decimal_length, digits_none, digits_more, digits_all}
use Rattle.report.proofs.text.Text.number.Goals as goal

pub loop-place-init : goal.loop-place-init
loop-place-init c =
    let x = c.args.x in
    let k = c.ilog10.result in
    let inside = c.self.inside in
    let told = c.ilog10.ensures in
    let size = decimal_length c.max.result k x c.max.ensures told.power_le told.next_power_gt in
    let written : length (take inside.used inside.bytes) ≡ length c.args.self.now = ap length c.self.view_is in
    let used = length-take-le inside.used inside.bytes (omega arith) in
    record {
      digits = digits_none c.max.result k x inside.bytes inside.used c.max.ensures told.power_le told.next_power_gt;
      kept = c.self.view_is;
      start = refl;
      least = omega arith;
      most = omega arith;
      room = omega arith;
    }

pub loop-place-preserved : goal.loop-place-preserved
loop-place-preserved c =
    let at = c.loop-place in
    record {
      digits = digits_more c.args.x at.self-inside.bytes at.self-inside.used at.place _ at.left at.invariant.digits (omega arith) at.invariant.most
          (omega arith);
      kept = take-set-le _ _ _ _ (omega arith) ∙ at.invariant.kept;
      start = at.invariant.start;
      least = omega arith;
      most = omega arith;
      room = at.invariant.room;
    }

pub returns : goal.returns
returns c =
    let at = c.loop-place in
    digits_all c.args.x at.self-inside.bytes at.self-inside.used at.place _ at.left at.invariant.digits (omega arith) (omega arith)
    ∙ ap (λ (l : List ℕ). l ++ decimal c.args.x) at.invariant.kept
