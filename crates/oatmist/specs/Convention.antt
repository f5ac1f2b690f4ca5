-- How a call for C tells its outcome: what it returns, and every entry of the array that is lent for the values (include/oatmist.h).
-- Assumes nothing.
use Rattle.std.specs.Prelude.{◌≡◌, List, ℕ, ◌+◌, ◌*◌, ◌≤◌, ◌<◌, ◌^◌, length, take}
use Rattle.sets.specs.Lists.{over}
use Rattle.answers.specs.Outcomes.{Outcome, given, refused}

-- O4, O7: a refusal as one number: its number in bits 0 to 7, its sheet in bits 8 to 15, its step index from bit 16 on
abbrev pub refusal_word : ℕ → ℕ → ℕ → ℕ
refusal_word k i s = k + 256 * s + 65536 * i

-- the values in front of the array, as many as it has room for; its other entries as they were (D1, C1)
abbrev pub with_values : List ℕ → List ℕ → List ℕ
with_values xs out = over (take (length out) xs) out

-- O5: r is returned, and the array was `old` and is `new`
abbrev pub CAnswer : Outcome (List ℕ) → ℕ → List ℕ → List ℕ → Type 0
CAnswer (given xs) r old new = (r ≡ 0) × (new ≡ with_values xs old)
CAnswer (refused k i s) r old new = (r ≡ refusal_word k i s) × (new ≡ old)

-- a refusal whose parts fit into their bits, and whose number is not 0 (O4, O7)
abbrev pub FitsWord : Outcome (List ℕ) → Type 0
FitsWord (given xs) = Unit {0}
FitsWord (refused k i s) = (1 ≤ k) × (k < 256) × (s < 256) × (i < 2 ^ 40)

-- a refusal whose sheet and step index fit into their bits (O4, O7)
abbrev pub PartsFit : Outcome (List ℕ) → Type 0
PartsFit (given xs) = Unit {0}
PartsFit (refused k i s) = (s < 256) × (i < 2 ^ 40)
