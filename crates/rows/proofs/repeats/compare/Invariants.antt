-- R16: the rows passed are compared in component j, and stand in the table by their numbers.
use Rattle.rows.proofs.repeats.Agreeing.{Compared}
use Rattle.rows.proofs.repeats.compare.Given as goal

abbrev pub invariant-loop-g : goal.invariant-loop-g
invariant-loop-g l = Compared l.rows.bytes.now l.rows.m l.j l.g l.same l.seen
