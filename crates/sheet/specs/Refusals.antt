-- R1 to R9, each a condition of its own: true when the sheet is to be refused by it (document 01, the refusal list).
-- Which comes first is said in Verdict; a condition may take the lower ones as not holding (O2). R10 to R12 stand in
-- `Rattle.systems.specs.Checking`.
-- Assumes nothing.
use Rattle.std.specs.Prelude.{Bool, true, false, not, ◌&&◌, ◌||◌, List, [], ◌∷◌, ℕ, ◌-◌, ◌*◌, ◌%◌, ◌^◌, ltb, leb, eqb, length, get_or}
use Rattle.sets.specs.Lists.{any_of, below}
use Rattle.sets.specs.Bits.{member}
use Rattle.systems.specs.Tables.{Transition, Tables, internal}
use Rattle.systems.specs.Checking.{flat}
use Rattle.sheet.specs.Bounds.{record_size, transition_size, step_size, trailer_size, shortest, longest}
use Rattle.sheet.specs.Bounds.{most_components, most_actions, most_states, most_transitions, most_steps, most_in_steps}
use Rattle.sheet.specs.Layout.{records_at, transitions_at, steps_at, component_count, action_count, closing, mark, front}
use Rattle.sheet.specs.Layout.{states_of, filler_of, initial_of, alphabet_of, transition_bytes, tables, steps}

-- x is below the low bound or above the high one (R1, R3 to R5)
abbrev pub outside : ℕ → ℕ → ℕ → Bool
outside low high x = ltb x low || ltb high x

-- two byte strings are the same (G4)
abbrev pub same_numbers : List ℕ → List ℕ → Bool
same_numbers [] [] = true
same_numbers [] (y ∷ ys) = false
same_numbers (x ∷ xs) [] = false
same_numbers (x ∷ xs) (y ∷ ys) = eqb x y && same_numbers xs ys

-- R1: the sheet is too short or too long (L7)
unfoldable pub length_wrong : List ℕ → Bool
length_wrong b = outside shortest longest (length b)

-- R2: the sheet does not end in the closing mark
unfoldable pub mark_wrong : List ℕ → Bool
mark_wrong b = not (same_numbers (closing b) mark)

-- R3: too few or too many components (L1) or actions (L2)
unfoldable pub counts_wrong : List ℕ → Bool
counts_wrong b = outside 1 most_components (component_count b) || outside 1 most_actions (action_count b)

-- R4: the offsets do not fit: C must be 0, T 16 * n, and S between T and the trailer; from T to S there must be whole transitions,
-- and from S to the trailer whole steps, in at most 8,192 bytes each
unfoldable pub offsets_wrong : List ℕ → Bool
offsets_wrong b =
    not (eqb (records_at b) 0) || not (eqb (transitions_at b) (record_size * component_count b))
    || outside (transitions_at b) (length b - trailer_size) (steps_at b)
    || not (eqb ((steps_at b - transitions_at b) % transition_size) 0) || ltb (transition_size * most_transitions) (steps_at b - transitions_at b)
    || not (eqb ((length b - trailer_size - steps_at b) % step_size) 0) || ltb (step_size * most_steps) (length b - trailer_size - steps_at b)

-- R5, of the record with index j: too few or too many states (L3); filler that is not zero; no initial state, or one that the
-- component does not have; no action, or one that is not below m
unfoldable pub record_wrong : List ℕ → ℕ → ℕ → Bool
record_wrong b m j =
    outside 1 most_states (states_of b j) || not (eqb (filler_of b j) 0)
    || eqb (initial_of b j) 0 || leb (2 ^ states_of b j) (initial_of b j)
    || eqb (alphabet_of b j) 0 || leb (2 ^ m) (alphabet_of b j)

-- R5: some record is wrong
unfoldable pub records_wrong : List ℕ → Bool
records_wrong b = any_of (record_wrong (front b) (action_count b)) (below (component_count b))

-- R6: an action below m that no component has
unfoldable pub action_unused : List ℕ → Bool
action_unused b = any_of (λ a. not (any_of (λ j. member ((tables b).alphabet j) a) (below (component_count b)))) (below (action_count b))

-- R7, of one transition: a component that is not there; a source or target that is not a state of it; a label that is neither the
-- internal one nor an action of it
unfoldable pub transition_wrong : Tables → Transition → Bool
transition_wrong T t =
    leb T.components t.component || leb (T.states t.component) t.source || leb (T.states t.component) t.target
    || not (eqb t.label internal || member (T.alphabet t.component) t.label)

-- R7: some transition is wrong
unfoldable pub transitions_wrong : List ℕ → Bool
transitions_wrong b = any_of (transition_wrong (tables b)) (tables b).transitions

-- one byte string stands before another: by the first byte in which they differ (R8)
abbrev pub less_bytes : List ℕ → List ℕ → Bool
less_bytes [] [] = false
less_bytes [] (y ∷ ys) = true
less_bytes (x ∷ xs) [] = false
less_bytes (x ∷ xs) (y ∷ ys) = ltb x y || (eqb x y && less_bytes xs ys)

-- each byte string stands before the next one, and x before the first (R8)
abbrev pub rising_from : List ℕ → List (List ℕ) → Bool
rising_from x [] = true
rising_from x (y ∷ ys) = less_bytes x y && rising_from y ys

-- each byte string stands before the next one (R8)
abbrev pub rising_bytes : List (List ℕ) → Bool
rising_bytes [] = true
rising_bytes (x ∷ xs) = rising_from x xs

-- R8: the transitions are not sorted by their four bytes, or two are equal
unfoldable pub order_wrong : List ℕ → Bool
order_wrong b = not (rising_bytes (transition_bytes (front b) (component_count b)))

-- R9: too many actions over all steps (L6)
unfoldable pub too_many_actions : List ℕ → Bool
too_many_actions b = ltb most_in_steps (length (flat (steps b)))

-- refusal k, one of R1 to R9, holds for the sheet
unfoldable pub refusal : List ℕ → ℕ → Bool
refusal b k =
    get_or
    (false
    ∷ length_wrong b
    ∷ mark_wrong b
    ∷ counts_wrong b
    ∷ offsets_wrong b
    ∷ records_wrong b
    ∷ action_unused b
    ∷ transitions_wrong b
    ∷ order_wrong b
    ∷ too_many_actions b
    ∷ [])
    k
    false
