-- The refusals 15, 16 and 17 of a product as tests, what comes first, and the output afterwards (R15, R16, R17, O8, B6; document 02,
-- request 1). Each test is tied to its condition in ProductRefusals by a theorem (proofs/Refusals).
-- Assumes nothing.
use Rattle.std.specs.Prelude.{Bool, true, false, not, ◌||◌, List, ℕ, ◌+◌, ◌*◌, leb, eqb, length}
use Rattle.std.proofs.Math.Option.{Option, none, some}
use Rattle.sets.specs.Lists.{any_of, all_of, below}
use Rattle.sheet.specs.Bounds.{most_components, most_actions, most_states}
use Rattle.sheet.specs.Refusals.{outside}
use Rattle.answers.specs.Outcomes.{Outcome, refused}
use Rattle.answers.specs.LentOutput.{length_or13, output_by}
use Rattle.products.specs.Product.{Component, Product}
use Rattle.products.specs.ProductBytes.{components_in, rows_in, rows_at, product_of}
use Rattle.products.specs.ProductSheet.{takes_part, product_sheet}

-- R15: a transition whose source or target is no state
abbrev pub transition_out : Component → ℕ → Bool
transition_out C t = leb C.states (C.source t) || leb C.states (C.target t)

-- R15: a component with a count or state out of range
abbrev pub component_wrong : Component → Bool
component_wrong C = outside 1 most_states C.states || leb C.states C.initial || any_of (transition_out C) (below C.transitions)

-- R15: a number that its component has no transition for
abbrev pub number_out : Component → Option ℕ → Bool
number_out C none = false
number_out C (some t) = leb C.transitions t

-- R15: some row has such a number for component j
abbrev pub column_wrong : Product → ℕ → Bool
column_wrong P j = any_of (λ g. number_out (P.component j) (P.takes g j)) (below P.rows)

-- R15: counts, length, components and rows
unfoldable pub malformed : List ℕ → Bool
malformed b =
    outside 1 most_components (components_in b) || outside 1 most_actions (rows_in b)
    || not (eqb (length b) (rows_at b + components_in b * rows_in b))
    || any_of (λ j. component_wrong ((product_of b).component j)) (below (components_in b))
    || any_of (column_wrong (product_of b)) (below (components_in b))

-- R16: every component idles in the row
abbrev pub idle_row : Product → ℕ → Bool
idle_row P g = not (any_of (λ j. takes_part (P.takes g j)) (below P.components))

-- R16: the same number, or idle in both
abbrev pub same_taken : Option ℕ → Option ℕ → Bool
same_taken none none = true
same_taken none (some u) = false
same_taken (some t) none = false
same_taken (some t) (some u) = eqb t u

-- R16: the two rows have the same numbers
abbrev pub same_row : Product → ℕ → ℕ → Bool
same_row P g h = all_of (λ j. same_taken (P.takes h j) (P.takes g j)) (below P.components)

-- R16: the row is idle throughout, or repeats an earlier one
abbrev pub row_wrong : Product → ℕ → Bool
row_wrong P g = idle_row P g || any_of (same_row P g) (below g)

-- R16: some row is so
unfoldable pub bad_row : Product → Bool
bad_row P = any_of (row_wrong P) (below P.rows)

-- R17: some component idles in every row
unfoldable pub idle_component : Product → Bool
idle_component P = any_of (λ j. not (any_of (λ g. takes_part (P.takes g j)) (below P.rows))) (below P.components)

-- O8: the refusal k where its test holds, else what comes later
abbrev pub refused_by : Bool → ℕ → Outcome ℕ → Outcome ℕ
refused_by true k later = refused k 0 0
refused_by false k later = later

-- O8: 15, 16 and 17 in this order, then 13; else how many bytes are written into an output of `size` bytes
unfoldable pub rows_outcome : List ℕ → ℕ → Outcome ℕ
rows_outcome b size =
    refused_by (malformed b) 15
    (refused_by (bad_row (product_of b)) 16 (refused_by (idle_component (product_of b)) 17 (length_or13 (product_sheet (product_of b)) size)))

-- B6: the output afterwards
unfoldable pub rows_output : List ℕ → List ℕ → List ℕ
rows_output b out = output_by (rows_outcome b (length out)) (product_sheet (product_of b)) out
