-- B9: what is counted, at most 64 an alphabet, are the elements of the alphabets passed.
use Rattle.std.proofs.Common.{◌≡◌, ◌*◌, ◌≤◌, length}
use Rattle.rows.proofs.judge.Elements.{elements_below}
use Rattle.rows.proofs.judge.elements_of.Given as goal

abbrev pub invariant-loop-part : goal.invariant-loop-part
invariant-loop-part l = record {
  most : l.sum ≤ 64 * l.part-index;
  counted : l.sum ≡ length (elements_below l.parts l.part-index);
}
