-- The numbers of the layout and of the limits, each said here once (S3 to S6, L1 to L7; document 01, the sheet and its limits).
-- The definitions of this crate cite them by name. LimitCases has both sides of each limit.
-- Assumes nothing.
use Rattle.std.specs.Prelude.{ℕ}

-- ---- how many bytes

-- S3: of a component's record
abbrev pub record_size : ℕ
record_size = 16

-- S4: of a transition
abbrev pub transition_size : ℕ
transition_size = 4

-- S5: of a step
abbrev pub step_size : ℕ
step_size = 8

-- S6: of the trailer at the end
abbrev pub trailer_size : ℕ
trailer_size = 10

-- L7: of a whole sheet, at the least
abbrev pub shortest : ℕ
shortest = 26

-- L7: and at the most
abbrev pub longest : ℕ
longest = 16650

-- ---- L1 to L6: how many things at the most; of the first three there is at least one

-- L1: components
abbrev pub most_components : ℕ
most_components = 16

-- L2: actions
abbrev pub most_actions : ℕ
most_actions = 64

-- L3: states of one component
abbrev pub most_states : ℕ
most_states = 32

-- L4: transitions
abbrev pub most_transitions : ℕ
most_transitions = 2048

-- L5: steps
abbrev pub most_steps : ℕ
most_steps = 1024

-- L6: actions of all steps together
abbrev pub most_in_steps : ℕ
most_in_steps = 1024
