-- R16: the set has just what the alphabets passed have.
use Rattle.rows.proofs.judge.Alphabets.{UnionUpTo}
use Rattle.rows.proofs.judge.rows_used.Given as goal

abbrev pub invariant-loop-part : goal.invariant-loop-part
invariant-loop-part l = UnionUpTo l.parts l.part-index l.all
