-- A5: stuck says exactly that the end sets enable no action.
-- Assumes nothing.
use mathlib.Core.Path.{◌≡◌}
use mathlib.Core.Logic.{◌↔◌}
use mathlib.Core.Bool.{true, false}
use mathlib.Core.List.{List}
use Prim.Native.Nat.{ℕ, ◌<◌}
use Rattle.sets.specs.Lists.{any_of, below}
use Rattle.sets.proofs.Bools.{not_true}
use Rattle.sets.proofs.Lists.{any_of_false, none_false, mem_below}
use Rattle.systems.specs.Running.{enabled}
use Rattle.sheet.specs.Layout.{action_count, tables}
use Rattle.answers.specs.Ends.{end_set}
use Rattle.answers.specs.Stuck.{stuck}

pub stuck_exact : (b : List ℕ) → (stuck b ≡ true) ↔ ((a : ℕ) → a < action_count b → enabled (tables b) (end_set b) a ≡ false)
unfolding stuck
stuck_exact b =
    let test = enabled (tables b) (end_set b) in
    let below-m = below (action_count b) in (
      λ e a h. any_of_false test below-m ((not_true (any_of test below-m)).0 e) ((mem_below (action_count b) a).1 h),
      λ h. (not_true (any_of test below-m)).1 (none_false test below-m (λ a m. h a ((mem_below (action_count b) a).0 m))),
    )
