-- X2, C3: the starred cases of document 01's sheets to try, in one table: the steps of a sheet over Pair, and what is to come of it;
-- and the worked example with what is printed for it.
-- Sets are written as binary numerals, bit a for action a: {0} is 0b1, {1} is 0b10, {0,1} is 0b11, {2} is 0b100.
-- Assumes nothing.
use Rattle.std.specs.Prelude.{Bool, true, false, ◌&&◌, List, [], ◌∷◌, ℕ, eqb}
use Rattle.sheet.specs.Refusals.{same_numbers}
use Rattle.sheet.specs.Verdict.{Verdict, accepted, refused, verdict}
use Rattle.answers.specs.Ends.{end_set}
use Rattle.answers.specs.Restated.{restated}
use Rattle.answers.specs.Quoted.{text_of}
use Rattle.answers.specs.Pair.{pair_sheet}

-- ---- the table (X2, C3)

-- restated as these steps, with the end sets of components 0 and 1; or refused, with number and step index
pub data DueResult : Type 0 where
  becomes : List ℕ → ℕ → ℕ → DueResult
  refused_by : ℕ → ℕ → DueResult

-- a trial: the steps that are given, and what is to come of them
pub record Trial : Type 0 where
  pub given : List ℕ
  pub due : DueResult

-- the trial with these steps and this result
abbrev pub trial : List ℕ → DueResult → Trial
trial xs o = record { given = xs; due = o }

-- X2: the ten sheets over Pair: six that are accepted and four that are refused
abbrev pub starred : List Trial
starred =
    -- no steps
    trial [] (becomes [] 0b1 0b1)
    -- two independent actions, in two orders and in one step
    ∷ trial (0b1 ∷ 0b10 ∷ []) (becomes (0b11 ∷ []) 0b10 0b110)
    ∷ trial (0b10 ∷ 0b1 ∷ []) (becomes (0b11 ∷ []) 0b10 0b110)
    ∷ trial (0b11 ∷ []) (becomes (0b11 ∷ []) 0b10 0b110)
    -- one component moves, the other keeps its set
    ∷ trial (0b10 ∷ []) (becomes (0b10 ∷ []) 0b1 0b110)
    -- two independent actions, then one that both components have
    ∷ trial (0b1 ∷ 0b10 ∷ 0b100 ∷ []) (becomes (0b11 ∷ 0b100 ∷ []) 0b1 0b1)
    -- R11 at step 0, R12 at step 0, R12 at step 1
    ∷ trial (0b101 ∷ []) (refused_by 11 0)
    ∷ trial (0b100 ∷ []) (refused_by 12 0)
    ∷ trial (0b1 ∷ 0b1 ∷ []) (refused_by 12 1)
    -- R11 at step 1, which comes before R12: action 0 is not enabled there
    ∷ trial (0b1 ∷ 0b101 ∷ []) (refused_by 11 1)
    ∷ []

-- the verdict is accepted
abbrev pub is_accepted : Verdict → Bool
is_accepted accepted = true
is_accepted (refused k i) = false

-- the verdict is this refusal, with number and step index
abbrev pub is_refused_by : Verdict → ℕ → ℕ → Bool
is_refused_by accepted k i = false
is_refused_by (refused r p) k i = eqb r k && eqb p i

-- of the sheet b comes what is due
abbrev pub holds_for : List ℕ → DueResult → Bool
holds_for b (becomes ys e₀ e₁) =
    is_accepted (verdict b) && same_numbers (restated b) (pair_sheet ys) && eqb (end_set b 0) e₀ && eqb (end_set b 1) e₁
holds_for b (refused_by k i) = is_refused_by (verdict b) k i

-- the trial comes out as the table says
abbrev pub holds : Trial → Bool
holds c = holds_for (pair_sheet c.given) c.due

-- ---- the worked example (X1)

-- X1: the worked example, with the steps {0} {1} {2} {0}
abbrev pub worked_sheet : List ℕ
worked_sheet = pair_sheet (0b1 ∷ 0b10 ∷ 0b100 ∷ 0b1 ∷ [])

-- what is printed for it: accepted 4 3 13 0, step 0 1, step 2, step 0, end 0 1, end 1 0
abbrev pub printed : List ℕ
printed = text_of "accepted 4 3 13 0\nstep 0 1\nstep 2\nstep 0\nend 0 1\nend 1 0\n"
