-- R19: the test of one column is whether it has a label, and the walk over the columns ends at the first that has.
use Rattle.std.proofs.Common.{◌≡◌, ◌≢◌, rules, length}
use Rattle.std.proofs.lemmas.Iterator.{YieldsList-from_slice, cases_from_any}
use borrow.Author.Tests.{tests}
use Rattle.merging.proofs.Slices.{left_over}
use Rattle.merging.proofs.heads.some_left.Goals as goal

pub returns : goal.returns
returns c =
    left_over c.args.left.now c.any.result
    (cases_from_any _ _ _ (λ x. length x.now ≢ 0) (λ x. length x.now ≡ 0) c.any.ensures.ran (YieldsList-from_slice c.args.left.now cc)
    (λ x q k. search (rules, tests)) (λ x q k. search (rules, tests)))
