-- S5, S6: one step more, and behind the last one the trailer.
use Rattle.std.proofs.Common.{◌≡◌, refl, sym, ap, ◌∙◌, arith, ◌<◌, length, take, get_or, List, ℕ}
use Rattle.sets.specs.Lists.{over}
use Rattle.sheet.specs.Numbers.{bytes}
use Rattle.sheet.specs.Writing.{step_bytes, trailer}
use Rattle.std.proofs.Math.Seq.{take-length}
use Rattle.sheet.proofs.Numbers.{length_numbers}
use Rattle.writing.proofs.Lending.{lent_over, steps_length, steps_next}
use Rattle.writing.proofs.write_steps.Goals as goal

pub loop-k-preserved : goal.loop-k-preserved
loop-k-preserved c =
    let l = c.loop-k in
    let steps = c.args.steps.now in
    let out = c.args.out.now in
    let inside : l.k < length steps = omega arith in
    lent_over (step_bytes (take l.k steps)) (bytes 8 (get_or steps l.k 0)) out l.invariant (sym (steps_length l.k steps (omega arith))) refl c.put.ensures
    ∙ ap (λ (p : List ℕ). over p out) (steps_next l.k steps inside)

pub returns : goal.returns
returns c =
    let steps = c.args.steps.now in
    let out = c.args.out.now in
    let end = c.args.end in
    let all : c.loop-k.k ≡ length steps = omega arith in
    let written : c.loop-k.out ≡ over (step_bytes steps) out =
    c.loop-k.invariant ∙ ap (λ (l : List ℕ). over (step_bytes l) out) (ap (λ (j : ℕ). take j steps) all ∙ take-length steps) in
    lent_over (step_bytes steps) (trailer end.s end.n end.m) out written (sym (length_numbers 8 steps)) refl c.write.ensures
