-- S1: numbers as bytes, and a run of bytes cut into parts of one size.
-- Assumes nothing.
use Rattle.std.specs.Prelude.{List, [], ◌∷◌, ℕ, zero, suc, ◌+◌, ◌*◌, ◌/◌, ◌%◌, ◌<◌, take, drop, get_or}

-- every element is a byte
abbrev pub AreBytes : List ℕ → Type 0
AreBytes b = (i : ℕ) → get_or b i 0 < 256

-- S1: the number that stands in some bytes, the low byte in front
abbrev pub number : List ℕ → ℕ
number [] = 0
number (d ∷ ds) = d + 256 * number ds

-- the k bytes of the number x
abbrev pub bytes : ℕ → ℕ → List ℕ
bytes zero x = []
bytes (suc k) x = x % 256 ∷ bytes k (x / 256)

-- the number that stands in `size` bytes at the offset `at`
unfoldable pub field : ℕ → ℕ → List ℕ → ℕ
field at size b = number (take size (drop at b))

-- k parts of `size` bytes each, one behind another
abbrev pub parts : ℕ → ℕ → List ℕ → List (List ℕ)
parts size zero b = []
parts size (suc k) b = take size b ∷ parts size k (drop size b)
