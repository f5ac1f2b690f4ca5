-- S4: the first transition is read from the first four bytes, and the bytes behind them have the others.
-- Assumes nothing.
use Rattle.std.proofs.Common.{rules, ap, length}
use Rattle.numbers.proofs.transitions.Parting.{first_transition}
use Rattle.numbers.proofs.transitions.TransitionsIterator.next.Goals as goal

pub returns-clause-steps : goal.returns-clause-steps
returns-clause-steps c = first_transition c.args.self.now.section.now c.in-len4-up.len_at_least

pub returns-clause-goes : goal.returns-clause-goes
returns-clause-goes c = let e = ap length (first_transition c.args.self.now.section.now c.in-len4-up.len_at_least) in search rules
