-- Closed examples over one dependence test: the actions 0 to 3 in a row, each dependent on itself and its neighbours.
-- Words and their normal forms (N8) in one table, by computing; swaps (Q9) and the process condition (N6, N7), each with a case that it
-- refuses; words cut down to some actions (V1).
-- Assumes nothing.
use mathlib.Core.Path.{◌≡◌, refl}
use mathlib.Core.Bool.{Bool, true, false, ◌&&◌, true≢false, false≢true}
use mathlib.Core.List.{List, [], ◌∷◌, map}
use Prim.Native.Nat.{ℕ, suc}
use lib.Dec.{leb}
use Rattle.traces.specs.Words.{Swap, here}
use Rattle.traces.specs.Steps.{clash, Process}
use Rattle.traces.specs.Offences.{first_offence, offending}
use Rattle.traces.specs.Foata.{foata}
use Rattle.traces.specs.Projections.{projection}

abbrev neighbours : ℕ → ℕ → Bool
neighbours a b = leb a (suc b) && leb b (suc a)

record Example : Type 0 where
  word : List ℕ
  form : List (List ℕ)

abbrev example : List ℕ → List (List ℕ) → Example
example w ss = record { word = w; form = ss }

abbrev examples : List Example
examples =
    example [] []
    ∷ example (3 ∷ []) ((3 ∷ []) ∷ [])
    -- independent actions share a step, in rising number
    ∷ example (0 ∷ 2 ∷ []) ((0 ∷ 2 ∷ []) ∷ [])
    ∷ example (2 ∷ 0 ∷ []) ((0 ∷ 2 ∷ []) ∷ [])
    -- dependent ones keep their order
    ∷ example (0 ∷ 1 ∷ []) ((0 ∷ []) ∷ (1 ∷ []) ∷ [])
    ∷ example (1 ∷ 0 ∷ []) ((1 ∷ []) ∷ (0 ∷ []) ∷ [])
    ∷ example (1 ∷ 2 ∷ 0 ∷ []) ((1 ∷ []) ∷ (0 ∷ 2 ∷ []) ∷ [])
    -- the last dependent action bars, not the first
    ∷ example (1 ∷ 2 ∷ 1 ∷ []) ((1 ∷ []) ∷ (2 ∷ []) ∷ (1 ∷ []) ∷ [])
    -- an action leaves the last step for an earlier one, and passes as many as it can
    ∷ example (0 ∷ 1 ∷ 3 ∷ []) ((0 ∷ 3 ∷ []) ∷ (1 ∷ []) ∷ [])
    ∷ example (0 ∷ 1 ∷ 0 ∷ 3 ∷ []) ((0 ∷ 3 ∷ []) ∷ (1 ∷ []) ∷ (0 ∷ []) ∷ [])
    ∷ []

-- N8: each word has the form that stands beside it
pub forms : map (λ c. foata neighbours c.word) examples ≡ map (λ c. c.form) examples
forms = refl

-- ---- swaps (Q9)

pub apart_swap : Swap neighbours (0 ∷ 2 ∷ []) (2 ∷ 0 ∷ [])
apart_swap = here refl

pub neighbours_stay : ¬ Swap neighbours (0 ∷ 1 ∷ []) (1 ∷ 0 ∷ [])
neighbours_stay (here e) = true≢false e

-- ---- the process condition (N6)

-- each step is held to the one just before it
pub just_before : Process neighbours ((0 ∷ []) ∷ (1 ∷ []) ∷ (2 ∷ []) ∷ [])
just_before = (refl, (refl, tt))

pub not_the_first : ¬ Process neighbours ((1 ∷ []) ∷ (0 ∷ []) ∷ (2 ∷ []) ∷ [])
not_the_first p = false≢true p.1.0

-- and so is every action of it: 3 has no cause in the step of 0
pub not_only_some : ¬ Process neighbours ((0 ∷ []) ∷ (1 ∷ 3 ∷ []) ∷ [])
not_only_some p = false≢true p.0

-- ---- the first step that offends (N7)

abbrev offence_steps : List (List (List ℕ))
offence_steps =
    []
    ∷ ((3 ∷ []) ∷ [])
    ∷ ((0 ∷ []) ∷ (1 ∷ []) ∷ (2 ∷ []) ∷ [])
    ∷ ((0 ∷ []) ∷ (2 ∷ []) ∷ (1 ∷ []) ∷ [])
    ∷ ((0 ∷ []) ∷ (1 ∷ []) ∷ (3 ∷ []) ∷ [])
    ∷ ((0 ∷ []) ∷ (1 ∷ 3 ∷ []) ∷ (0 ∷ 3 ∷ []) ∷ (1 ∷ 2 ∷ []) ∷ [])
    ∷ ((1 ∷ []) ∷ (0 ∷ []) ∷ (2 ∷ []) ∷ [])
    ∷ []

-- one past the index of the first step that does not follow the one just before, or 0
pub offences : map (λ ss. offending (first_offence neighbours ss)) offence_steps ≡ 0 ∷ 0 ∷ 0 ∷ 2 ∷ 3 ∷ 2 ∷ 3 ∷ []
offences = refl

-- ---- a word cut down to the actions 0 and 1 (V1)

abbrev cut_words : List (List ℕ)
cut_words = [] ∷ (2 ∷ 3 ∷ []) ∷ (0 ∷ 2 ∷ 1 ∷ []) ∷ (1 ∷ 2 ∷ 0 ∷ 3 ∷ []) ∷ (1 ∷ 1 ∷ 2 ∷ 0 ∷ 2 ∷ 1 ∷ []) ∷ []

-- in their order, and each as often as it stands there
pub cuts : map (projection (λ a. leb a 1)) cut_words ≡ [] ∷ [] ∷ (0 ∷ 1 ∷ []) ∷ (1 ∷ 0 ∷ []) ∷ (1 ∷ 1 ∷ 0 ∷ 1 ∷ []) ∷ []
cuts = refl

-- ---- two dependent actions in one step (R11)

abbrev clash_steps : List (List ℕ)
clash_steps = [] ∷ (1 ∷ []) ∷ (0 ∷ 2 ∷ []) ∷ (1 ∷ 2 ∷ []) ∷ (0 ∷ 2 ∷ 3 ∷ []) ∷ (0 ∷ 3 ∷ 1 ∷ []) ∷ []

pub clashes : map (clash neighbours) clash_steps ≡ false ∷ false ∷ false ∷ true ∷ true ∷ true ∷ []
clashes = refl
