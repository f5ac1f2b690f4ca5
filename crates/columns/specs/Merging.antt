-- Columns merged into a word, one action after another: an action is taken when it heads the column of each of its components. What is
-- said here serves the code that does so (V3); no demand names it.
-- Assumes nothing.
use Rattle.std.specs.Prelude.{◌≡◌, true, cond, List, ◌∷◌, ◌++◌, ℕ, ◌^◌, ◌<◌, drop}
use Rattle.sets.specs.Bits.{member}
use Rattle.systems.specs.Tables.{Tables, WordOver}
use Rattle.columns.specs.Columns.{column}

-- a step with one action (S5)
abbrev pub single : ℕ → ℕ
single a = 2 ^ a

-- of each component the labels of its column that are not yet taken
abbrev pub Rest : Type 0
Rest = ℕ → List ℕ

-- V1: the word is over the actions of T, and its columns are these
pub record IsWordOf (T : Tables) (rest : Rest) (w : List ℕ) : Type 0 where
  pub over : WordOver T w
  pub each : (j : ℕ) → j < T.components → column T w j ≡ rest j

-- the action is the first label of what is left of column j
abbrev pub HeadedBy : Rest → ℕ → ℕ → Type 0
HeadedBy rest j a = (later : List ℕ) × (rest j ≡ a ∷ later)

-- the action heads the column of each of its components
abbrev pub Heads : Tables → Rest → ℕ → Type 0
Heads T rest a = (j : ℕ) → j < T.components → member (T.alphabet j) a ≡ true → HeadedBy rest j a

-- what is left when the action is taken from the column of each of its components
abbrev pub taken_from : Tables → Rest → ℕ → Rest
taken_from T rest a j = cond (member (T.alphabet j) a) (drop 1 (rest j)) (rest j)

-- the word w was taken from the columns `whole`, and `rest` is left; whatever word has these columns, some word has what is left
pub record Merged (T : Tables) (whole : Rest) (w : List ℕ) (rest : Rest) : Type 0 where
  pub over : WordOver T w
  pub split : (j : ℕ) → j < T.components → whole j ≡ column T w j ++ rest j
  pub kept : (u : List ℕ) → IsWordOf T whole u → (v : List ℕ) × IsWordOf T rest v
