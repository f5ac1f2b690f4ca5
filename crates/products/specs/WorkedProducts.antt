-- Worked products, written out byte by byte: what the call answers, where their parts stand, and the sheets that they become (B5 to B9,
-- R13, R15, R16, R17, O8). Each number of the definitions is met at its edge: 16 components, 64 rows, 32 states, 255 transitions.
-- Assumes nothing.
use Rattle.std.specs.Prelude.{List, [], ◌∷◌, ◌++◌, map, ℕ, take, replicate}
use Rattle.sets.specs.Lists.{append_all, upward, below}
use Rattle.sheet.specs.Cases.{changed}
use Rattle.answers.specs.Outcomes.{Outcome, given, refused, values, one_value}
use Rattle.answers.specs.Worked.{Worked}
use Rattle.products.specs.ProductBytes.{component_at, rows_at, entry, product_of}
use Rattle.products.specs.ProductSheet.{product_sheet}
use Rattle.products.specs.ProductVerdict.{rows_outcome, rows_output}

-- ---- the products (B5)

-- one state and one transition, a loop
abbrev pub loop : List ℕ
loop = 1 ∷ 0 ∷ 1 ∷ 0 ∷ 0 ∷ []

-- n components of one loop each, and m rows
abbrev pub loops_of : ℕ → ℕ → List ℕ → List ℕ
loops_of n m rows = n ∷ m ∷ append_all (replicate n loop) ++ rows

-- one component of one loop, and one row with it: eight bytes
abbrev pub smallest_product : List ℕ
smallest_product = loops_of 1 1 (0 ∷ [])

-- one component of one state and k loops, and m rows
abbrev pub many_loops : ℕ → ℕ → List ℕ → List ℕ
many_loops k m rows = 1 ∷ m ∷ 1 ∷ 0 ∷ k ∷ append_all (replicate k (0 ∷ 0 ∷ [])) ++ rows

-- two components. Rows 0, 1 and 2 leave the states 1, 0 and 0 of the first; row 0 also leaves the state 1 of the second
abbrev pub mixed_product : List ℕ
mixed_product =
    2 ∷ 3
    ∷ 2 ∷ 1 ∷ 3 ∷ 0 ∷ 1 ∷ 1 ∷ 0 ∷ 0 ∷ 0
    ∷ 3 ∷ 2 ∷ 1 ∷ 1 ∷ 2
    ∷ 1 ∷ 0
    ∷ 0 ∷ 255
    ∷ 2 ∷ 255
    ∷ []

-- 16 components and 64 rows. The first component has the rows 0 to 62, the others but the last have row 0. The last one has 32 states,
-- begins in state 31 and goes from there to 30 by row 63
abbrev pub widest_product : List ℕ
widest_product =
    16 ∷ 64
    ∷ (1 ∷ 0 ∷ 63 ∷ replicate 126 0)
    ++ (append_all (replicate 14 loop)
    ++ ((32 ∷ 31 ∷ 1 ∷ 31 ∷ 30 ∷ [])
    ++ ((replicate 15 0 ++ (255 ∷ []))
    ++ (append_all (map (λ g. g ∷ replicate 15 255) (upward 1 62))
    ++ (replicate 15 255 ++ (0 ∷ []))))))

-- B7 to B9: the sheet of the smallest product: one state, which is initial; the action 0; its loop; T 16 and S 20
abbrev pub smallest_sheet : List ℕ
smallest_sheet =
    1 ∷ 0 ∷ 0 ∷ 0 ∷ 1 ∷ 0 ∷ 0 ∷ 0 ∷ 1 ∷ 0 ∷ 0 ∷ 0 ∷ 0 ∷ 0 ∷ 0 ∷ 0
    ∷ 0 ∷ 0 ∷ 0 ∷ 0
    ∷ 0 ∷ 0 ∷ 16 ∷ 0 ∷ 20 ∷ 0 ∷ 1 ∷ 1 ∷ 0x46 ∷ 0x53
    ∷ []

-- ---- the table

abbrev row : Outcome (List ℕ) → Outcome (List ℕ) → Worked
row x y = record { found = x; due = y }

-- what the call answers, with this room in the output
abbrev told : List ℕ → ℕ → Outcome (List ℕ)
told b room = values one_value (rows_outcome b room)

-- so many bytes are written
abbrev writes : ℕ → List ℕ → Worked
writes k b = row (told b k) (given (k ∷ []))

-- refused whatever the room: with none, 13 holds too
abbrev refusal : ℕ → List ℕ → Worked
refusal k b = row (told b 0) (refused k 0 0)

-- numbers and bytes as they are to be
abbrev same : List ℕ → List ℕ → Worked
same x y = row (given x) (given y)

-- the rows, behind the rule that they show (B5 to B9, R13, R15, R16, R17, O8)
abbrev pub worked_products : List Worked
worked_products =
    -- R13: 30 bytes are written; an output of 29 is too short
    writes 30 smallest_product
    ∷ row (told smallest_product 31) (given (30 ∷ []))
    ∷ row (told smallest_product 29) (refused 13 0 0)
    ∷ row (told smallest_product 0) (refused 13 0 0)
    -- R15: components: 0; 1 above; 16, and 17
    ∷ refusal 15 (0 ∷ 1 ∷ [])
    ∷ writes 330 (loops_of 16 1 (replicate 16 0))
    ∷ refusal 15 (loops_of 17 1 (replicate 17 0))
    -- R15: rows: 0; 64, and 65
    ∷ refusal 15 (loops_of 1 0 [])
    ∷ writes 578 widest_product
    ∷ refusal 15 (loops_of 1 65 (replicate 65 255))
    -- R15: states: 0; 32, and 33
    ∷ refusal 15 (1 ∷ 1 ∷ 0 ∷ 0 ∷ 0 ∷ 255 ∷ [])
    ∷ writes 30 (changed 2 32 smallest_product)
    ∷ refusal 15 (changed 2 33 smallest_product)
    -- R15: the state 31 of 32 and of 31: initial, source, target
    ∷ writes 30 (1 ∷ 1 ∷ 32 ∷ 31 ∷ 1 ∷ 31 ∷ 31 ∷ 0 ∷ [])
    ∷ refusal 15 (1 ∷ 1 ∷ 31 ∷ 31 ∷ 1 ∷ 0 ∷ 0 ∷ 0 ∷ [])
    ∷ refusal 15 (1 ∷ 1 ∷ 31 ∷ 0 ∷ 1 ∷ 31 ∷ 0 ∷ 0 ∷ [])
    ∷ refusal 15 (1 ∷ 1 ∷ 31 ∷ 0 ∷ 1 ∷ 0 ∷ 31 ∷ 0 ∷ [])
    -- R15: the same of a transition that no row names
    ∷ writes 30 (1 ∷ 1 ∷ 1 ∷ 0 ∷ 2 ∷ 0 ∷ 0 ∷ 0 ∷ 0 ∷ 0 ∷ [])
    ∷ refusal 15 (1 ∷ 1 ∷ 1 ∷ 0 ∷ 2 ∷ 0 ∷ 0 ∷ 1 ∷ 0 ∷ 0 ∷ [])
    ∷ refusal 15 (1 ∷ 1 ∷ 1 ∷ 0 ∷ 2 ∷ 0 ∷ 0 ∷ 0 ∷ 1 ∷ 0 ∷ [])
    -- R15: a component without transitions is in range, and no number is its own
    ∷ refusal 17 (2 ∷ 1 ∷ 1 ∷ 0 ∷ 0 ∷ loop ++ (255 ∷ 0 ∷ []))
    ∷ refusal 15 (2 ∷ 1 ∷ 1 ∷ 0 ∷ 0 ∷ loop ++ (0 ∷ 0 ∷ []))
    -- R15: one transition does not have the number 1; 255 transitions have the number 254, and 255 is idle
    ∷ refusal 15 (loops_of 1 1 (1 ∷ []))
    ∷ writes 30 (many_loops 255 1 (254 ∷ []))
    ∷ refusal 16 (many_loops 255 1 (255 ∷ []))
    -- R15: no bytes; one count alone; cut behind the component; cut by one row; a byte behind the end
    ∷ refusal 15 []
    ∷ refusal 15 (1 ∷ [])
    ∷ refusal 15 (take 7 smallest_product)
    ∷ refusal 15 (loops_of 1 2 (0 ∷ []))
    ∷ refusal 15 (smallest_product ++ (0 ∷ []))
    -- R16: an idle row, the first or the second
    ∷ refusal 16 (loops_of 1 2 (255 ∷ 0 ∷ []))
    ∷ refusal 16 (loops_of 1 2 (0 ∷ 255 ∷ []))
    -- R16: a row as the one before it, and as the one before that; two rows that do the same by other numbers are no repeat
    ∷ refusal 16 (many_loops 2 2 (1 ∷ 1 ∷ []))
    ∷ refusal 16 (many_loops 2 3 (0 ∷ 1 ∷ 0 ∷ []))
    ∷ writes 34 (many_loops 2 2 (0 ∷ 1 ∷ []))
    -- R16: rows that differ in the first component alone, in the last alone; a repeat in two components
    ∷ writes 54 (loops_of 2 2 (0 ∷ 0 ∷ 255 ∷ 0 ∷ []))
    ∷ writes 54 (loops_of 2 2 (0 ∷ 255 ∷ 0 ∷ 0 ∷ []))
    ∷ refusal 16 (loops_of 2 3 (0 ∷ 255 ∷ 255 ∷ 0 ∷ 0 ∷ 255 ∷ []))
    -- R17: the first component, the last one, idle in every row
    ∷ refusal 17 (loops_of 2 1 (255 ∷ 0 ∷ []))
    ∷ refusal 17 (loops_of 2 1 (0 ∷ 255 ∷ []))
    -- O8: 15 before 16, by the length and by a number in a later row; 15 before 17; 16 before 17
    ∷ refusal 15 (loops_of 1 1 (255 ∷ 0 ∷ []))
    ∷ refusal 15 (loops_of 1 2 (255 ∷ 1 ∷ []))
    ∷ refusal 15 (loops_of 2 1 (1 ∷ 255 ∷ []))
    ∷ refusal 16 (loops_of 1 1 (255 ∷ []))
    ∷ refusal 16 (loops_of 2 2 (0 ∷ 255 ∷ 0 ∷ 255 ∷ []))
    -- B5: where the components and the rows begin; the rows, each number of them
    ∷ same (component_at mixed_product 0 ∷ component_at mixed_product 1 ∷ rows_at mixed_product ∷ []) (2 ∷ 11 ∷ 16 ∷ [])
    ∷ same (entry mixed_product 0 0 ∷ entry mixed_product 0 1 ∷ entry mixed_product 1 0 ∷ entry mixed_product 2 0 ∷ []) (1 ∷ 0 ∷ 0 ∷ 2 ∷ [])
    ∷ same (component_at widest_product 15 ∷ rows_at widest_product ∷ entry widest_product 62 0 ∷ entry widest_product 63 15 ∷ [])
    (201 ∷ 206 ∷ 62 ∷ 0 ∷ [])
    -- B7 to B9: the transitions rise by component, source and label, and are not in the order of the rows. T 32, S 48
    ∷ same (product_sheet (product_of mixed_product))
    (2 ∷ 0 ∷ 0 ∷ 0 ∷ 0b10 ∷ 0 ∷ 0 ∷ 0 ∷ 0b111 ∷ 0 ∷ 0 ∷ 0 ∷ 0 ∷ 0 ∷ 0 ∷ 0
    ∷ 3 ∷ 0 ∷ 0 ∷ 0 ∷ 0b100 ∷ 0 ∷ 0 ∷ 0 ∷ 0b1 ∷ 0 ∷ 0 ∷ 0 ∷ 0 ∷ 0 ∷ 0 ∷ 0
    ∷ 0 ∷ 0 ∷ 1 ∷ 1
    ∷ 0 ∷ 0 ∷ 2 ∷ 0
    ∷ 0 ∷ 1 ∷ 0 ∷ 0
    ∷ 1 ∷ 1 ∷ 0 ∷ 2
    ∷ 0 ∷ 0 ∷ 32 ∷ 0 ∷ 48 ∷ 0 ∷ 2 ∷ 3 ∷ 0x46 ∷ 0x53
    ∷ [])
    -- B7 to B9: component 15, the bits 31 and 63, the source 31 and the label 63. T 256, S 568
    ∷ same (product_sheet (product_of widest_product))
    ((1 ∷ 0 ∷ 0 ∷ 0 ∷ 1 ∷ 0 ∷ 0 ∷ 0 ∷ 0xff ∷ 0xff ∷ 0xff ∷ 0xff ∷ 0xff ∷ 0xff ∷ 0xff ∷ 0x7f ∷ [])
    ++ (append_all (replicate 14 (1 ∷ 0 ∷ 0 ∷ 0 ∷ 1 ∷ 0 ∷ 0 ∷ 0 ∷ 1 ∷ 0 ∷ 0 ∷ 0 ∷ 0 ∷ 0 ∷ 0 ∷ 0 ∷ []))
    ++ ((32 ∷ 0 ∷ 0 ∷ 0 ∷ 0 ∷ 0 ∷ 0 ∷ 0x80 ∷ 0 ∷ 0 ∷ 0 ∷ 0 ∷ 0 ∷ 0 ∷ 0 ∷ 0x80 ∷ [])
    ++ (append_all (map (λ g. 0 ∷ 0 ∷ g ∷ 0 ∷ []) (below 63))
    ++ (append_all (map (λ j. j ∷ 0 ∷ 0 ∷ 0 ∷ []) (upward 1 14))
    ++ (15 ∷ 31 ∷ 63 ∷ 30
    ∷ 0 ∷ 0 ∷ 0 ∷ 1 ∷ 0x38 ∷ 2 ∷ 16 ∷ 64 ∷ 0x46 ∷ 0x53
    ∷ []))))))
    -- B6: bytes behind the sheet stay; an output that is too short, and that of a refused product, stay as they came
    ∷ same (rows_output smallest_product (replicate 32 7)) (smallest_sheet ++ (7 ∷ 7 ∷ []))
    ∷ same (rows_output smallest_product (replicate 30 7)) smallest_sheet
    ∷ same (rows_output smallest_product (replicate 29 7)) (replicate 29 7)
    ∷ same (rows_output (loops_of 1 1 (255 ∷ [])) (replicate 32 7)) (replicate 32 7)
    ∷ []
