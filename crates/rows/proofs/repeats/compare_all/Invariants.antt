-- R16: the components passed are compared.
use Rattle.rows.specs.repeats.Earlier.{EarlierAgree}
use Rattle.rows.proofs.repeats.compare_all.Given as goal

abbrev pub invariant-loop-j : goal.invariant-loop-j
invariant-loop-j l = EarlierAgree l.rows.bytes.now l.j l.same
