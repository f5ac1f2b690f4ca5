-- A quoted text as bytes; the worked texts are written so (P1 to P5, X1).
-- Assumes nothing.
use Rattle.std.specs.Prelude.{List, [], ◌∷◌, ℕ}
use Prim.Native.Char.{code}
use Prim.Native.String.{String}

-- the codes of its characters (P1, X1)
abbrev pub text_of : String → List ℕ
text_of String.[] = []
text_of (String.◌∷◌ c s) = code c ∷ text_of s
