-- O10: the version of the library, which tells a program by which rules it answers (our own rule: document 02, request 4, changes
-- answers).
-- Assumes nothing.
use Rattle.std.specs.Prelude.{ℕ, ◌+◌, ◌*◌}

-- the three parts of a version as one number; it grows with the version, since the second and the third part have at most two digits
abbrev pub version_number : ℕ → ℕ → ℕ → ℕ
version_number first second third = 10000 * first + 100 * second + third

-- O10: 2.0.0: the first version in which a figure that is an exact half is rounded to the even number (A4)
abbrev pub library_version : ℕ
library_version = version_number 2 0 0
