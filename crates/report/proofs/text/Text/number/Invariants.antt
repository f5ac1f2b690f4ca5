-- The last digits stand in their places, and the text is as it was, which serves P1.
use Rattle.std.proofs.Common.{◌≡◌, ◌≤◌, take}
use Rattle.report.proofs.text.Digits.{DigitsFrom}
use Rattle.report.proofs.text.Text.number.Given as goal

abbrev pub invariant-loop-place : goal.invariant-loop-place
invariant-loop-place l = record {
  digits : DigitsFrom l.x l.self-inside.bytes l.self-inside.used l.place l.end l.left;
  kept : take l.self-inside.used l.self-inside.bytes ≡ l.fn.self;
  start : l.place-start ≡ l.self-inside.used;
  least : l.place-start ≤ l.place;
  most : l.place ≤ l.end;
  room : l.end ≤ 16384;
}
