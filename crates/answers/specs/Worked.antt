-- Worked answers: for some sheets, what each call tells and what is printed, number by number and byte by byte. Each definition of an answer
-- has a sheet here that is accepted and one that is refused (S6, O4, E5, N7, N8, A1 to A5, P1 to P5).
-- Sets are written as binary numerals, as in Starred.
-- Assumes nothing.
use Rattle.std.specs.Prelude.{Bool, false, ◌&&◌, List, [], ◌∷◌, ◌++◌, map, ℕ, ◌-◌, ◌^◌, eqb, replicate}
use Rattle.sets.specs.Lists.{append_all, upward, below}
use Rattle.traces.specs.Offences.{offending}
use Rattle.sheet.specs.Refusals.{same_numbers}
use Rattle.sheet.specs.Verdict.{verdict}
use Rattle.sheet.specs.Writing.{sheet_of}
use Rattle.answers.specs.Outcomes.{Outcome, given, refused, values, one_value, bit, read_outcome}
use Rattle.answers.specs.Ends.{ends_outcome}
use Rattle.answers.specs.ProcessCheck.{process_check}
use Rattle.answers.specs.Restated.{restated_steps}
use Rattle.answers.specs.Restating.{restating}
use Rattle.answers.specs.SameWork.{same_work}
use Rattle.answers.specs.Leaner.{winner, leaner}
use Rattle.answers.specs.Figure.{figure_outcome}
use Rattle.answers.specs.Stuck.{stuck_outcome}
use Rattle.answers.specs.Report.{report, reporting, report_output}
use Rattle.answers.specs.Quoted.{text_of}
use Rattle.answers.specs.Pair.{record_bytes, pair_sheet}
use Rattle.answers.specs.Starred.{worked_sheet}

-- ---- the sheets

-- over Pair, {0} {1}: its normal form is that of {1} {0} (N8)
abbrev pub zero_one : List ℕ
zero_one = pair_sheet (0b1 ∷ 0b10 ∷ [])

-- over Pair, {1} {0} (N8)
abbrev pub one_zero : List ℕ
one_zero = pair_sheet (0b10 ∷ 0b1 ∷ [])

-- {0} {0}: action 0 is not enabled before the second step (R12)
abbrev pub refused_sheet : List ℕ
refused_sheet = pair_sheet (0b1 ∷ 0b1 ∷ [])

-- {0,1} {2} in turn, 48 times, then {0} {0}: action 0 is not enabled before the step with index 97 (R12)
abbrev pub long_refused_sheet : List ℕ
long_refused_sheet = pair_sheet (append_all (replicate 48 (0b11 ∷ 0b100 ∷ [])) ++ (0b1 ∷ 0b1 ∷ []))

-- {0} {1} {2} in turn, eight steps in all (P3, P4)
abbrev pub eight_sheet : List ℕ
eight_sheet = pair_sheet (0b1 ∷ 0b10 ∷ 0b100 ∷ 0b1 ∷ 0b10 ∷ 0b100 ∷ 0b1 ∷ 0b10 ∷ [])

-- the smallest sheet (X4): one component with one state and no transition is stuck at once (A5)
abbrev pub smallest_sheet : List ℕ
smallest_sheet = sheet_of (record_bytes 1 0b1 0b1) 1 1 []

-- component 0 has action 0, component 1 has actions 1 and 2; each has one state, and can always do its actions (N8, W2, W3)
abbrev pub loop_sheet : List ℕ → List ℕ
loop_sheet xs =
    sheet_of (record_bytes 1 0b1 0b1 ++ (record_bytes 1 0b1 0b110 ++ (0 ∷ 0 ∷ 0 ∷ 0 ∷ 1 ∷ 0 ∷ 1 ∷ 0 ∷ 1 ∷ 0 ∷ 2 ∷ 0 ∷ []))) 2 3 xs

-- sixteen components and 64 actions (L1, L2): component 15 has 32 states (L3), and goes by action 63 from state 30 to state 31
abbrev pub widest_sheet : List ℕ
widest_sheet =
    sheet_of
    (record_bytes 1 0b1 (2 ^ 63 - 1)
    ++ (append_all (replicate 14 (record_bytes 1 0b1 0b1))
    ++ (record_bytes 32 (2 ^ 30) (2 ^ 63)
    ++ (15 ∷ 30 ∷ 63 ∷ 31 ∷ []))))
    16 64 (2 ^ 63 ∷ [])

-- {0} {1} {2} five times, then {0} {1}: seventeen steps, and eleven restated ones (P3)
abbrev pub seventeen_sheet : List ℕ
seventeen_sheet = pair_sheet (append_all (replicate 5 (0b1 ∷ 0b10 ∷ 0b100 ∷ [])) ++ (0b1 ∷ 0b10 ∷ []))

-- sixteen components, each with an action of its own: component 0 has 32 states, and may be in any of them (P5). All but the last act
-- together, then the last (P4)
abbrev pub full_sheet : List ℕ
full_sheet =
    sheet_of
    (record_bytes 32 (2 ^ 32 - 1) 0b1
    ++ (append_all (map (λ j. record_bytes 1 0b1 (2 ^ j)) (upward 1 15))
    ++ (append_all (map (λ q. 0 ∷ q ∷ 0 ∷ q ∷ []) (below 32))
    ++ append_all (map (λ j. j ∷ 0 ∷ j ∷ 0 ∷ []) (upward 1 15)))))
    16 16 ((2 ^ 15 - 1) ∷ 2 ^ 15 ∷ [])

-- the same bytes before S as four records of 16 bytes and four transitions, or as five records: the two sheets differ in n alone
abbrev front_bytes : List ℕ
front_bytes =
    append_all (replicate 4 (record_bytes 2 0b1 (2 ^ 41 - 1)))
    ++ (2 ∷ 0 ∷ 0 ∷ 0 ∷ 3 ∷ 0 ∷ 0 ∷ 0 ∷ 3 ∷ 0 ∷ 0 ∷ 1 ∷ 3 ∷ 1 ∷ 0 ∷ 0 ∷ [])

-- the one with four records (N4, R14)
abbrev pub four_sheet : List ℕ
four_sheet = sheet_of front_bytes 4 41 []

-- the one with five records (N4, R14)
abbrev pub five_sheet : List ℕ
five_sheet = sheet_of front_bytes 5 41 []

-- ---- the table: what each call tells (S6, E5, N7, N8, R13, A1 to A5, R14) and prints (P1 to P5)

-- what the definitions give, and what it is to be
pub record Worked : Type 0 where
  pub found : Outcome (List ℕ)
  pub due : Outcome (List ℕ)

abbrev row : Outcome (List ℕ) → Outcome (List ℕ) → Worked
row x y = record { found = x; due = y }

-- the check, a number, a yes or no, the process check as one number
abbrev sizes_told : List ℕ → Outcome (List ℕ)
sizes_told b = read_outcome b (verdict b)

abbrev number_told : Outcome ℕ → Outcome (List ℕ)
number_told o = values one_value o

abbrev bit_told : Outcome Bool → Outcome (List ℕ)
bit_told o = values (λ t. one_value (bit t)) o

abbrev process_told : List ℕ → Outcome (List ℕ)
process_told b = values (λ o. one_value (offending o)) (process_check b)

-- the rows, behind the rule that they show
abbrev pub worked : List Worked
worked =
    -- S6: n, m, T and S
    row (sizes_told worked_sheet) (given (2 ∷ 3 ∷ 32 ∷ 52 ∷ []))
    ∷ row (sizes_told refused_sheet) (refused 12 1 0)
    -- A4: the figure: four actions in three steps
    ∷ row (number_told (figure_outcome worked_sheet)) (given (13 ∷ []))
    -- A4: five actions in four steps, and seven: each half goes to the even number
    ∷ row (number_told (figure_outcome (loop_sheet (0b1 ∷ 0b1 ∷ 0b1 ∷ 0b1 ∷ 0b10 ∷ [])))) (given (12 ∷ []))
    ∷ row (number_told (figure_outcome (loop_sheet (0b11 ∷ 0b11 ∷ 0b11 ∷ 0b1 ∷ [])))) (given (18 ∷ []))
    ∷ row (number_told (figure_outcome refused_sheet)) (refused 12 1 0)
    -- A5: stuck
    ∷ row (bit_told (stuck_outcome worked_sheet)) (given (0 ∷ []))
    ∷ row (bit_told (stuck_outcome smallest_sheet)) (given (1 ∷ []))
    ∷ row (bit_told (stuck_outcome refused_sheet)) (refused 12 1 0)
    -- E5: the end sets: {1}, {0}, and none beyond the two components
    ∷ row (ends_outcome worked_sheet) (given (0b10 ∷ 0b1 ∷ replicate 14 0))
    ∷ row (ends_outcome refused_sheet) (refused 12 1 0)
    -- N7: the process check: yes; or the step with index 1
    ∷ row (process_told (pair_sheet (0b11 ∷ 0b100 ∷ 0b1 ∷ []))) (given (0 ∷ []))
    ∷ row (process_told worked_sheet) (given (2 ∷ []))
    ∷ row (process_told refused_sheet) (refused 12 1 0)
    -- W2: of the step {0,2}, action 0 moves forward and action 2 stays
    ∷ row (given (restated_steps (loop_sheet (0b10 ∷ 0b101 ∷ [])))) (given (0b11 ∷ 0b100 ∷ []))
    -- W3: action 0 moves forward by two steps; and 2 before 1 stays so
    ∷ row (given (restated_steps (loop_sheet (0b10 ∷ 0b100 ∷ 0b1 ∷ [])))) (given (0b11 ∷ 0b100 ∷ []))
    ∷ row (given (restated_steps (loop_sheet (0b100 ∷ 0b10 ∷ [])))) (given (0b100 ∷ 0b10 ∷ []))
    -- R13: restating: 86 bytes, one too few, a refused sheet whatever the room
    ∷ row (number_told (restating worked_sheet 86)) (given (86 ∷ []))
    ∷ row (number_told (restating worked_sheet 85)) (refused 13 0 0)
    ∷ row (number_told (restating refused_sheet 0)) (refused 12 1 0)
    -- R13, O5: the report: its length, one byte too few, a refused sheet; the bytes behind it stay, and so do all where it is refused
    ∷ row (number_told (reporting worked_sheet 57)) (given (57 ∷ []))
    ∷ row (number_told (reporting worked_sheet 56)) (refused 13 0 0)
    ∷ row (number_told (reporting refused_sheet 15)) (given (13 ∷ []))
    ∷ row (given (report_output refused_sheet (text_of "---------------"))) (given (text_of "refused 12 1\n--"))
    ∷ row (given (report_output refused_sheet (text_of "------------"))) (given (text_of "------------"))
    -- A3, O6, O7: the leaner sheet: the second, the first, the first in a tie; refusals of the first, of the second, of the pair
    ∷ row (number_told (winner worked_sheet zero_one)) (given (1 ∷ []))
    ∷ row (number_told (winner zero_one worked_sheet)) (given (0 ∷ []))
    ∷ row (number_told (winner zero_one one_zero)) (given (0 ∷ []))
    ∷ row (number_told (winner refused_sheet long_refused_sheet)) (refused 12 1 0)
    ∷ row (number_told (winner worked_sheet refused_sheet)) (refused 12 1 1)
    ∷ row (number_told (winner worked_sheet smallest_sheet)) (refused 14 0 0)
    -- R14, N4: 14 where the sheets differ in n alone
    ∷ row (sizes_told four_sheet) (given (4 ∷ 41 ∷ 64 ∷ 80 ∷ []))
    ∷ row (sizes_told five_sheet) (given (5 ∷ 41 ∷ 80 ∷ 80 ∷ []))
    ∷ row (number_told (winner four_sheet five_sheet)) (refused 14 0 0)
    -- A2: its step section
    ∷ row (given (leaner worked_sheet zero_one)) (given (1 ∷ 0 ∷ 0 ∷ 0 ∷ 0 ∷ 0 ∷ 0 ∷ 0 ∷ 2 ∷ 0 ∷ 0 ∷ 0 ∷ 0 ∷ 0 ∷ 0 ∷ 0 ∷ []))
    ∷ row (given (leaner one_zero zero_one)) (given (2 ∷ 0 ∷ 0 ∷ 0 ∷ 0 ∷ 0 ∷ 0 ∷ 0 ∷ 1 ∷ 0 ∷ 0 ∷ 0 ∷ 0 ∷ 0 ∷ 0 ∷ 0 ∷ []))
    ∷ row (given (leaner worked_sheet refused_sheet)) (given [])
    -- A1: same work
    ∷ row (bit_told (same_work zero_one one_zero)) (given (1 ∷ []))
    ∷ row (bit_told (same_work zero_one worked_sheet)) (given (0 ∷ []))
    ∷ row (bit_told (same_work refused_sheet zero_one)) (refused 12 1 0)
    ∷ row (bit_told (same_work zero_one smallest_sheet)) (refused 14 0 0)
    -- P1 to P5: the texts
    ∷ row (given (report long_refused_sheet)) (given (text_of "refused 12 97\n"))
    ∷ row (given (report smallest_sheet)) (given (text_of "accepted 0 0 0 1\nend 0 0\n"))
    ∷ row (given (report eight_sheet))
    (given (text_of "accepted 8 5 16 0\nstep 0 1\nstep 2\nstep 0 1\nstep 2\nstep 0 1\nend 0 1\nend 1 1 2\n"))
    ∷ row (given (report seventeen_sheet))
    (given
    (text_of "accepted 17 11 15 0\n"
    ++ (append_all (replicate 5 (text_of "step 0 1\nstep 2\n"))
    ++ text_of "step 0 1\nend 0 1\nend 1 1 2\n")))
    ∷ row (given (report widest_sheet))
    (given (text_of "accepted 1 1 10 1\nstep 63\nend 0 0\nend 1 0\nend 2 0\nend 3 0\nend 4 0\nend 5 0\nend 6 0\nend 7 0\nend 8 0\nend 9 0\nend 10 0\nend 11 0\nend 12 0\nend 13 0\nend 14 0\nend 15 31\n"))
    ∷ row (given (report full_sheet))
    (given
    (text_of "accepted 2 1 160 0\nstep 0 1 2 3 4 5 6 7 8 9 10 11 12 13 14 15\n"
    ++ (text_of "end 0 0 1 2 3 4 5 6 7 8 9 10 11 12 13 14 15 16 17 18 19 20 21 22 23 24 25 26 27 28 29 30 31\nend 1 0\nend 2 0\nend 3 0\n"
    ++ text_of "end 4 0\nend 5 0\nend 6 0\nend 7 0\nend 8 0\nend 9 0\nend 10 0\nend 11 0\nend 12 0\nend 13 0\nend 14 0\nend 15 0\n")))
    ∷ []

-- two outcomes are the same, of refusals all three numbers (O4, O7)
abbrev pub same_outcome : Outcome (List ℕ) → Outcome (List ℕ) → Bool
same_outcome (given xs) (given ys) = same_numbers xs ys
same_outcome (given xs) (refused k i s) = false
same_outcome (refused k i s) (given ys) = false
same_outcome (refused k i s) (refused l j t) = eqb k l && eqb i j && eqb s t

-- the row comes out as the table says
abbrev pub comes_out : Worked → Bool
comes_out r = same_outcome r.found r.due
