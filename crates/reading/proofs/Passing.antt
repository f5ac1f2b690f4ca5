-- R1 to R4: what is known of a sheet whose trailer passed: its sizes (S6), and that only what comes behind the trailer is left to look at.
-- Assumes nothing.
use mathlib.Core.Path.{◌≡◌}
use mathlib.Core.List.{List}
use Prim.Native.Nat.{ℕ}
use Rattle.sheet.specs.Layout.{component_count, action_count, transitions_at, steps_at}
use Rattle.sheet.specs.Verdict.{Verdict, accepted, trailer_verdict}
use Rattle.sheet.proofs.Guards.{NoRefusal, trailer_guard, guard_passed}
use Rattle.answers.specs.declared.Sizes.{Sizes}
use Rattle.answers.specs.SizesRead.{SizesRead}
use Rattle.answers.proofs.Passing.{told_accepted}
use Rattle.answers.proofs.SizesRead.{sizes_read}
use Rattle.reading.specs.Reading.{TrailerPassed}

module _ (b : List ℕ) (z : Sizes) (e : TrailerPassed b z) where
  abbrev let_through : NoRefusal b 1 5 × ((v : Verdict) → trailer_verdict b v ≡ v)
  let_through =
      guard_passed (trailer_guard b)
      (told_accepted z (trailer_verdict b accepted) (component_count b) (action_count b) (transitions_at b) (steps_at b) e).0

  -- S6: the sizes, and the bounds that follow
  pub trailer_read : SizesRead b z
  trailer_read = sizes_read b z (trailer_verdict b accepted) e let_through.0

  -- R1 to R4: whatever comes behind the trailer
  pub trailer_then : (v : Verdict) → trailer_verdict b v ≡ v
  trailer_then = let_through.1
