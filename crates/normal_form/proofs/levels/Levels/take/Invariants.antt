-- The largest entry so far, and then the components that are still to be entered (N8).
use Rattle.std.proofs.Common.{◌≡◌, ◌<◌, ◌^◌, List, ℕ, max}
use Rattle.sets.specs.Bits.{members}
use Rattle.dependence.specs.participants.Levels.{largest}
use Rattle.normal_form.specs.levels.Levels.{LevelsRaised}
use Rattle.normal_form.proofs.levels.Levels.take.Given as goal

abbrev pub invariant-loop-j : goal.invariant-loop-j
invariant-loop-j l =
    record {
      small : l.j-iterator.left < 2 ^ 16;
      largest_left : max l.level (largest l.self.last (members l.j-iterator.left)) ≡ largest l.self.last (members l.participants);
    }

abbrev pub invariant-loop-i : goal.invariant-loop-i
invariant-loop-i l =
    record {
      small : l.i-iterator.left < 2 ^ 16;
      raised : (after : List ℕ) → LevelsRaised l.i-iterator.left l.level l.self.last after → LevelsRaised l.participants l.level l.fn.self.last after;
    }
