-- What reading the standard input to its end gave. It serves P1.
-- Assumes nothing.
use Rattle.std.specs.Prelude.{List, [], ℕ, take, Result, Ok, Err}

-- the bytes that reading gave: those in front of the buffer b, none where a read failed
abbrev pub bytes_read : {E : Type 0} → Result ℕ E → List ℕ → List ℕ
bytes_read (Ok k) b = take k b
bytes_read (Err e) b = []
