-- `verdict::end_sets` meets its contract (E5): the end sets of an accepted sheet in front of the array, else zeros.
-- Assumes nothing.
use native.Mathlib.Omega.{arith}
use lib.ListN.{length-take}
use Rattle.desk.proofs.AcceptedFacts.{components_few, judged_sheet}
use Rattle.desk.proofs.verdict.EndArrays.{ends_filled}
use Rattle.desk.proofs.verdict.end_sets.Goals as goal

pub shared_ref_as_front-first_sets : goal.shared_ref_as_front-first_sets
shared_ref_as_front-first_sets c = components_few c.in-Accepted.ensures

pub first_sets-requires : goal.first_sets-requires
first_sets-requires c = let few = components_few c.in-Accepted.ensures in simp length-take (omega arith)

pub returns : goal.returns
returns c =
    let j = judged_sheet c.in-Accepted.ensures in
    let k = j.sheet.sizes_read in
    ends_filled c.args.sheet.now _ j.ends_told (let high = k.n_high in let read = k.n_read in omega arith) c.in-Accepted.sizes j.sheet _
    c.in-Accepted.ensures.answer_told c.first_sets.ensures
