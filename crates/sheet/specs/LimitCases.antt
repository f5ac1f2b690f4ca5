-- Both sides of each limit (L1 to L7). Small sheets are written out, with their verdict: what is just within is accepted, or refused by a
-- later number; what is just beyond is refused by the limit's own number (R1, R3, R5 or R9). For the limits of large sheets (L4, L5, L7) it
-- is said of every sheet of the size whether R1 and R4 refuse it; and a family of sheets, up to the longest, is accepted.
-- Assumes nothing.
use Rattle.std.specs.Prelude.{◌≡◌, true, false, List, [], ◌∷◌, ◌++◌, map, ℕ, zero, suc, ◌+◌, ◌*◌, ◌/◌, ◌%◌, ◌≤◌, length, drop, replicate}
use Rattle.sets.specs.Lists.{append_all, below}
use Rattle.sheet.specs.Layout.{records_at, transitions_at, steps_at, component_count}
use Rattle.sheet.specs.Refusals.{length_wrong, offsets_wrong}
use Rattle.sheet.specs.Verdict.{Verdict, accepted, refused, Accepted}
use Rattle.sheet.specs.Cases.{changed}

-- a sheet and its verdict (L1 to L7)
pub record LimitCase : Type 0 where
  pub given : List ℕ
  pub due : Verdict

-- the case with these two (L1 to L7)
abbrev pub limit_case : List ℕ → Verdict → LimitCase
limit_case b v = record { given = b; due = v }

-- S3: one state, initial, and the action 0
abbrev pub small_record : List ℕ
small_record = 1 ∷ 0 ∷ 0 ∷ 0 ∷ 0b1 ∷ 0 ∷ 0 ∷ 0 ∷ 0b1 ∷ 0 ∷ 0 ∷ 0 ∷ 0 ∷ 0 ∷ 0 ∷ 0 ∷ []

-- S3: 32 states (L3), the last of them initial, and all 64 actions (L2)
abbrev pub full_record : List ℕ
full_record = 32 ∷ 0 ∷ 0 ∷ 0 ∷ 0 ∷ 0 ∷ 0 ∷ 0b1000_0000 ∷ 255 ∷ 255 ∷ 255 ∷ 255 ∷ 255 ∷ 255 ∷ 255 ∷ 255 ∷ []

-- S6: C 0, then T, S, n and m, each of its bytes given, and the mark
abbrev pub trailer_of : ℕ → ℕ → ℕ → ℕ → ℕ → ℕ → List ℕ
trailer_of t t' s s' n m = 0 ∷ 0 ∷ t ∷ t' ∷ s ∷ s' ∷ n ∷ m ∷ 0x46 ∷ 0x53 ∷ []

-- the smallest sheet: 26 bytes (L7, X4)
abbrev pub smallest : List ℕ
smallest = small_record ++ trailer_of 16 0 16 0 1 1

-- one component with 32 states (L3) and 64 actions (L2), and these steps, as bytes
abbrev pub full : List ℕ → List ℕ
full xs = full_record ++ (xs ++ trailer_of 16 0 16 0 1 64)

-- 16 components (L1). The last has 32 states (L3), initial 0, 9, 18 and 31, and the actions 1 to 63 (L2); its transitions, from 31 by 63
-- to 31 and from 31 internally to 30
abbrev pub widest_front : List ℕ
widest_front =
    append_all (replicate 15 small_record)
    ++ (32 ∷ 0 ∷ 0 ∷ 0
    ∷ 0x01 ∷ 0x02 ∷ 0x04 ∷ 0x80
    ∷ 0xfe ∷ 0xff ∷ 0xff ∷ 0xff ∷ 0xff ∷ 0xff ∷ 0xff ∷ 0xff
    ∷ 15 ∷ 31 ∷ 63 ∷ 31
    ∷ 15 ∷ 31 ∷ 255 ∷ 30
    ∷ [])

-- the step of the action 63 (L2), then the trailer: T 256, S 264, n 16, m 64
abbrev pub widest : List ℕ
widest =
    widest_front
    ++ (0 ∷ 0 ∷ 0 ∷ 0 ∷ 0 ∷ 0 ∷ 0 ∷ 0x80
    ∷ 0 ∷ 0 ∷ 0 ∷ 1 ∷ 8 ∷ 1 ∷ 16 ∷ 64 ∷ 0x46 ∷ 0x53
    ∷ [])

-- L1 to L7: the cases, behind the rule that they show
abbrev pub limit_cases : List LimitCase
limit_cases =
    -- L7: 26 bytes, and 25
    limit_case smallest accepted
    ∷ limit_case (drop 1 smallest) (refused 1 0)
    -- L1 to L3: component 15, state 31 and action 63
    ∷ limit_case widest accepted
    -- L1: no component; 16, and 17
    ∷ limit_case (changed 22 0 smallest) (refused 3 0)
    ∷ limit_case (append_all (replicate 16 small_record) ++ trailer_of 0 1 0 1 16 1) accepted
    ∷ limit_case (append_all (replicate 17 small_record) ++ trailer_of 16 1 16 1 17 1) (refused 3 0)
    -- R7: an internal transition of component 0, and of component 1, where there is one component
    ∷ limit_case (small_record ++ (0 ∷ 0 ∷ 255 ∷ 0 ∷ trailer_of 16 0 20 0 1 1)) accepted
    ∷ limit_case (small_record ++ (1 ∷ 0 ∷ 255 ∷ 0 ∷ trailer_of 16 0 20 0 1 1)) (refused 7 0)
    -- L2: no action; 64, and 65; the action 63 where there are 63
    ∷ limit_case (changed 23 0 smallest) (refused 3 0)
    ∷ limit_case (full []) accepted
    ∷ limit_case (changed 23 65 (full [])) (refused 3 0)
    ∷ limit_case (changed 23 63 (full [])) (refused 5 0)
    -- L3: no state; 32, and 33; the state 31 where there are 31
    ∷ limit_case (changed 0 0 smallest) (refused 5 0)
    ∷ limit_case (changed 0 32 smallest) accepted
    ∷ limit_case (changed 0 33 smallest) (refused 5 0)
    ∷ limit_case (changed 0 31 (full [])) (refused 5 0)
    -- L6: 1,024 actions in 16 steps of all 64, and one more
    ∷ limit_case (full (replicate 128 255)) (refused 11 0)
    ∷ limit_case (full (1 ∷ 0 ∷ 0 ∷ 0 ∷ 0 ∷ 0 ∷ 0 ∷ 0 ∷ replicate 128 255)) (refused 9 0)
    ∷ []

-- ---- a family of sheets up to the longest (L4, L5, L7): only component 0 moves, and it never leaves its state 0

-- S3: the record of component j. The first has 32 states (L3), of which 0 is initial, and all 64 actions (L2); each other one has one state
-- and the action 1
abbrev pub large_record : ℕ → List ℕ
large_record zero = 32 ∷ 0 ∷ 0 ∷ 0 ∷ 0b1 ∷ 0 ∷ 0 ∷ 0 ∷ 255 ∷ 255 ∷ 255 ∷ 255 ∷ 255 ∷ 255 ∷ 255 ∷ 255 ∷ []
large_record (suc j) = 1 ∷ 0 ∷ 0 ∷ 0 ∷ 0b1 ∷ 0 ∷ 0 ∷ 0 ∷ 0b10 ∷ 0 ∷ 0 ∷ 0 ∷ 0 ∷ 0 ∷ 0 ∷ 0 ∷ []

-- S4: the transition with index i, of component 0: from state i / 64 by the action i % 64 to state 0. So they rise (R8), and 2,048 of them
-- are one from each state by each action
abbrev pub large_transition : ℕ → List ℕ
large_transition i = 0 ∷ i / 64 ∷ i % 64 ∷ 0 ∷ []

-- S5: the step of the action 0
abbrev pub large_step : List ℕ
large_step = 0b1 ∷ 0 ∷ 0 ∷ 0 ∷ 0 ∷ 0 ∷ 0 ∷ 0 ∷ []

-- S2: n components, t transitions, s steps and the trailer: T 16 * n, S 16 * n + 4 * t, n, m 64 (L1, L2, L4, L5)
unfoldable pub large_sheet : ℕ → ℕ → ℕ → List ℕ
large_sheet n t s =
    append_all (map large_record (below n))
    ++ (append_all (map large_transition (below t))
    ++ (append_all (replicate s large_step)
    ++ trailer_of (16 * n % 256) (16 * n / 256) ((16 * n + 4 * t) % 256) ((16 * n + 4 * t) / 256) n 64))

-- ---- large sheets (L4, L5, L7)

-- the sheet has this length, n, T and S, and its records come first (S6)
pub record HasSizes (long n t s : ℕ) (b : List ℕ) : Type 0 where
  pub length_is : length b ≡ long
  pub records_first : records_at b ≡ 0
  pub n_is : component_count b ≡ n
  pub t_is : transitions_at b ≡ t
  pub s_is : steps_at b ≡ s

-- what is said of every sheet of the largest sizes, of every one that is just larger, and of the family (L4, L5, L7)
pub record LargeSheets : Type 0 where
  -- L7: 16,650 bytes, of 16 components, 2,048 transitions and 1,024 steps; and one byte more
  pub longest_passes : (b : List ℕ) → HasSizes 16650 16 256 8448 b → (length_wrong b ≡ false) × (offsets_wrong b ≡ false)
  pub longer_refused : (b : List ℕ) → length b ≡ 16651 → length_wrong b ≡ true
  -- L4: one component with 2,048 transitions and no steps; and one transition more
  pub transitions_pass : (b : List ℕ) → HasSizes 8218 1 16 8208 b → offsets_wrong b ≡ false
  pub transitions_refused : (b : List ℕ) → HasSizes 8222 1 16 8212 b → offsets_wrong b ≡ true
  -- L5: one component with no transitions and 1,024 steps; and one step more
  pub steps_pass : (b : List ℕ) → HasSizes 8218 1 16 16 b → offsets_wrong b ≡ false
  pub steps_refused : (b : List ℕ) → HasSizes 8226 1 16 16 b → offsets_wrong b ≡ true
  -- L4, L5, L7: with up to 16 components, 2,048 transitions and 1,024 steps, the sheets of the family are accepted
  pub large_length : (n t s : ℕ) → length (large_sheet n t s) ≡ 16 * n + 4 * t + 8 * s + 10
  pub large_accepted : (n t s : ℕ) → 1 ≤ n → n ≤ 16 → 1 ≤ t → t ≤ 2048 → s ≤ 1024 → Accepted (large_sheet n t s)
  -- L7: the longest of them has 16,650 bytes
  pub longest_accepted : (length (large_sheet 16 2048 1024) ≡ 16650) × Accepted (large_sheet 16 2048 1024)
