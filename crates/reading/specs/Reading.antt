-- What the readers of a sheet have shown: that its trailer passed, with the sizes that it tells. And the step section by where it begins.
-- The functions over it carry out R1 to R4, S2 and S6.
-- Assumes nothing.
use Rattle.std.specs.Prelude.{◌≡◌, List, ℕ, ◌-◌, length, take, drop}
use Rattle.sheet.specs.Bounds.{trailer_size}
use Rattle.sheet.specs.Verdict.{accepted, trailer_verdict}
use Rattle.answers.specs.declared.Sizes.{Sizes}
use Rattle.answers.specs.declared.Answer.TheVariants.{Accepted}
use Rattle.answers.specs.Outcomes.{outcome_of, read_outcome}

-- the trailer of the sheet b passed, and tells the sizes z (S6): none of R1 to R4 holds
abbrev pub TrailerPassed : List ℕ → Sizes → Type 0
TrailerPassed b z = outcome_of (Accepted z) ≡ read_outcome b (trailer_verdict b accepted)

-- the bytes of the sheet b from s up to its trailer (S2)
abbrev pub up_to_trailer : ℕ → List ℕ → List ℕ
up_to_trailer s b = take (length b - trailer_size - s) (drop s b)
