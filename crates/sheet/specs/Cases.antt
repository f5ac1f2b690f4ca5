-- Worked sheets, byte for byte, one or more for each refusal (R1 to R12, O1 to O4): a sheet that is accepted, and what becomes of it when
-- some bytes are changed.
-- For any two refusals that follow each other there is a sheet of which both hold. Both sides of every limit stand in LimitCases.
-- Assumes nothing.
use Rattle.std.specs.Prelude.{◌≡◌, ℕ, suc, take, drop}
use mathlib.Core.List.{List, [], ◌∷◌, ◌++◌, replicate}
use Rattle.sets.specs.Lists.{keep}
use Rattle.sheet.specs.Refusals.{refusal}
use Rattle.sheet.specs.Verdict.{Verdict, accepted, refused, verdict}

-- a sheet, which of R1 to R9 hold of it, and its verdict (O1)
pub record Case : Type 0 where
  pub given : List ℕ
  pub holding : List ℕ
  pub due : Verdict

-- the case with these three (O1)
abbrev pub case : List ℕ → List ℕ → Verdict → Case
case b ks v = record { given = b; holding = ks; due = v }

-- those of the numbers whose refusal holds of the sheet (R1 to R9)
abbrev pub holding_of : List ℕ → List ℕ → List ℕ
holding_of b [] = []
holding_of b (k ∷ ks) = keep (refusal b k) k (holding_of b ks)

-- the numbers of R1 to R9
abbrev pub one_to_nine : List ℕ
one_to_nine = 1 ∷ 2 ∷ 3 ∷ 4 ∷ 5 ∷ 6 ∷ 7 ∷ 8 ∷ 9 ∷ []

-- the byte at the offset i becomes x (G4)
abbrev pub changed : ℕ → ℕ → List ℕ → List ℕ
changed i x b = take i b ++ (x ∷ drop (suc i) b)

-- more bytes, put in at the offset i (G4)
abbrev pub inserted : ℕ → List ℕ → List ℕ → List ℕ
inserted i xs b = take i b ++ (xs ++ drop i b)

-- the sheet that is accepted (N1), 86 bytes; each comment tells the offsets of the lines below it
abbrev pub good : List ℕ
good =
    -- at 0, component 0: two states, initial 0, actions 0 and 2
    2 ∷ 0 ∷ 0 ∷ 0 ∷ 0b1 ∷ 0 ∷ 0 ∷ 0 ∷ 0b101 ∷ 0 ∷ 0 ∷ 0 ∷ 0 ∷ 0 ∷ 0 ∷ 0
    -- at 16, component 1: two states, initial 0, actions 1 and 2
    ∷ 2 ∷ 0 ∷ 0 ∷ 0 ∷ 0b1 ∷ 0 ∷ 0 ∷ 0 ∷ 0b110 ∷ 0 ∷ 0 ∷ 0 ∷ 0 ∷ 0 ∷ 0 ∷ 0
    -- at 32 and 36, transitions of component 0
    ∷ 0 ∷ 0 ∷ 0 ∷ 1
    ∷ 0 ∷ 1 ∷ 2 ∷ 0
    -- at 40, 44 and 48, transitions of component 1, the second internal
    ∷ 1 ∷ 0 ∷ 1 ∷ 0
    ∷ 1 ∷ 0 ∷ 255 ∷ 1
    ∷ 1 ∷ 1 ∷ 2 ∷ 0
    -- at 52, 60 and 68, the steps {0}, {2} and {0, 1}
    ∷ 0b1 ∷ 0 ∷ 0 ∷ 0 ∷ 0 ∷ 0 ∷ 0 ∷ 0
    ∷ 0b100 ∷ 0 ∷ 0 ∷ 0 ∷ 0 ∷ 0 ∷ 0 ∷ 0
    ∷ 0b11 ∷ 0 ∷ 0 ∷ 0 ∷ 0 ∷ 0 ∷ 0 ∷ 0
    -- at 76, the trailer: C 0, T 32, S 52, n 2, m 3 and the mark
    ∷ 0 ∷ 0 ∷ 32 ∷ 0 ∷ 52 ∷ 0 ∷ 2 ∷ 3 ∷ 0x46 ∷ 0x53
    ∷ []

-- 17 steps of all 64 actions, 1,088 actions in all (R9)
abbrev pub crowded : List ℕ
crowded = replicate 136 255

-- R1 to R12, O1 to O4: the cases, by the number of the refusal
abbrev pub refusal_cases : List Case
refusal_cases =
    case good [] accepted
    -- 1 before 2 and 3: the empty sheet
    ∷ case [] (1 ∷ 2 ∷ 3 ∷ []) (refused 1 0)
    -- 2: each byte of the mark; before 3, no action
    ∷ case (changed 84 0x53 (changed 85 0x46 good)) (2 ∷ []) (refused 2 0)
    ∷ case (changed 84 0x47 good) (2 ∷ []) (refused 2 0)
    ∷ case (changed 85 0x54 good) (2 ∷ []) (refused 2 0)
    ∷ case (changed 85 0x54 (changed 83 0 good)) (2 ∷ 3 ∷ 5 ∷ []) (refused 2 0)
    -- 3: 17 components; before 4, C is not 0
    ∷ case (changed 78 16 (changed 79 1 (changed 82 17 good))) (3 ∷ 4 ∷ 5 ∷ []) (refused 3 0)
    ∷ case (changed 76 1 (changed 83 0 good)) (3 ∷ 4 ∷ 5 ∷ []) (refused 3 0)
    -- 4: C in each of its bytes; T below 16 n; S below T; S behind the steps; half a transition; half a step; before 5, filler
    ∷ case (changed 76 1 good) (4 ∷ []) (refused 4 0)
    ∷ case (changed 77 1 good) (4 ∷ []) (refused 4 0)
    ∷ case (changed 78 28 good) (4 ∷ []) (refused 4 0)
    ∷ case (changed 80 28 good) (4 ∷ []) (refused 4 0)
    ∷ case (changed 80 80 good) (4 ∷ 7 ∷ 8 ∷ []) (refused 4 0)
    ∷ case (changed 82 54 (inserted 52 (0 ∷ 0 ∷ []) good)) (4 ∷ []) (refused 4 0)
    ∷ case (inserted 52 (0 ∷ 0 ∷ 0 ∷ 0 ∷ []) good) (4 ∷ []) (refused 4 0)
    ∷ case (changed 76 1 (changed 17 1 good)) (4 ∷ 5 ∷ []) (refused 4 0)
    -- 5, in the second record: each byte of the filler; no initial state, or one too high; no action, or one too high; before 6
    ∷ case (changed 17 1 good) (5 ∷ []) (refused 5 0)
    ∷ case (changed 18 1 good) (5 ∷ []) (refused 5 0)
    ∷ case (changed 19 1 good) (5 ∷ []) (refused 5 0)
    ∷ case (changed 20 0 good) (5 ∷ []) (refused 5 0)
    ∷ case (changed 20 0b100 good) (5 ∷ []) (refused 5 0)
    ∷ case (changed 23 0b1 good) (5 ∷ []) (refused 5 0)
    ∷ case (changed 24 0 (changed 8 0b111 good)) (5 ∷ 7 ∷ []) (refused 5 0)
    ∷ case (changed 24 0b1000 good) (5 ∷ 6 ∷ 7 ∷ []) (refused 5 0)
    ∷ case (changed 24 0b1110 good) (5 ∷ []) (refused 5 0)
    ∷ case (changed 31 0b1 good) (5 ∷ []) (refused 5 0)
    ∷ case (changed 17 1 (changed 83 4 good)) (5 ∷ 6 ∷ []) (refused 5 0)
    -- 6: there is an action 3, and no component has it; before 7, a component 2
    ∷ case (changed 83 4 good) (6 ∷ []) (refused 6 0)
    ∷ case (changed 83 4 (changed 48 2 good)) (6 ∷ 7 ∷ []) (refused 6 0)
    -- 7, in the last transition: no such component, source, label or target; before 8, a component 2 before a component 1
    ∷ case (changed 48 2 good) (7 ∷ []) (refused 7 0)
    ∷ case (changed 49 2 good) (7 ∷ []) (refused 7 0)
    ∷ case (changed 50 0 good) (7 ∷ []) (refused 7 0)
    ∷ case (changed 50 254 good) (7 ∷ []) (refused 7 0)
    ∷ case (changed 51 2 good) (7 ∷ []) (refused 7 0)
    ∷ case (changed 44 2 good) (7 ∷ 8 ∷ []) (refused 7 0)
    -- 8: two transitions that fall by component, by source, by label and by target, where all behind rises; two equal ones; before 9
    ∷ case (changed 32 1 (changed 34 1 (changed 35 0 (changed 39 1 good)))) (8 ∷ []) (refused 8 0)
    ∷ case (changed 33 1 (changed 35 0 (changed 37 0 (changed 39 1 good)))) (8 ∷ []) (refused 8 0)
    ∷ case (changed 42 255 (changed 46 1 good)) (8 ∷ []) (refused 8 0)
    ∷ case (changed 43 1 (changed 46 1 (changed 47 0 good))) (8 ∷ []) (refused 8 0)
    ∷ case (changed 46 1 (changed 47 0 good)) (8 ∷ []) (refused 8 0)
    ∷ case (changed 46 1 (changed 47 0 (inserted 52 crowded good))) (8 ∷ 9 ∷ []) (refused 8 0)
    -- 9, before 10: each of these steps has actions that are not there
    ∷ case (inserted 52 crowded good) (9 ∷ []) (refused 9 0)
    -- 10: an empty step; an action 3, an action 63; before 11, the actions 0, 2 and 3
    ∷ case (changed 52 0 good) [] (refused 10 0)
    ∷ case (changed 68 0b1000 good) [] (refused 10 2)
    ∷ case (changed 75 0b1000_0000 good) [] (refused 10 2)
    ∷ case (changed 60 0b1101 good) [] (refused 10 1)
    -- 11: the actions 1 and 2, both enabled; before 12, the actions 0 and 2, where 0 is not enabled
    ∷ case (changed 60 0b110 good) [] (refused 11 1)
    ∷ case (changed 60 0b101 good) [] (refused 11 1)
    -- 12: the action 0 a second time; the action 2, which component 1 cannot do without its internal transition; before 10 of a later step
    ∷ case (changed 60 0b1 good) [] (refused 12 1)
    ∷ case (changed 46 1 good) [] (refused 12 1)
    ∷ case (changed 52 0b100 (changed 60 0 good)) [] (refused 12 0)
    ∷ []

-- the case comes out as the table says (R1 to R9, O1)
abbrev pub ComesOut : Case → Type 0
ComesOut c = (holding_of c.given one_to_nine ≡ c.holding) × (verdict c.given ≡ c.due)
