-- Past the end nothing is written, which serves D1 and C1.
use Rattle.std.proofs.Common.{sym, rules}
use lib.Seq.{set_out}
use Rattle.oatmist.proofs.convention.put.Goals as goal

pub returns-else-k-out : goal.returns-else-k-out
returns-else-k-out c = sym (set_out _ _ _ (search rules))
