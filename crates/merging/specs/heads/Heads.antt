-- The heads of columns: what is left of each, the components that wait for an action, and the actions that are ready (V3).
-- Assumes nothing.
use Rattle.std.specs.Prelude.{◌≡◌, ◌↔◌, ◌≢◌, Bool, true, false, cond, ℕ, ◌<◌, ◌≤◌, eqb, length, drop, get_or, set, Option, MatchOption}
use mathlib.Core.List.{List, [], ◌∷◌, Memᴰ}
use Rattle.sets.specs.Lists.{append_all}
use Rattle.sets.specs.Bits.{member, with}
use Rattle.sheet.specs.Bounds.{most_components, most_actions}
use Rattle.columns.specs.Merging.{Rest, HeadedBy}
use Rattle.dependence.specs.participants.Participants.{participates, OfSixteen}
use Rattle.merging.specs.legible.Reading.{rest_in}

-- the first label, where there is one, is the number of an action (L2)
abbrev pub FirstBelow : List ℕ → Type 0
FirstBelow rest = (a : ℕ) (later : List ℕ) → rest ≡ a ∷ later → a < most_actions

-- component j waits for the first of its labels: it is entered for that action, which is then ready where all of its components wait
pub record ShowsFirst (rest : List ℕ) (j : ℕ) (o waiting : List ℕ) (ready : ℕ) (waiting' : List ℕ) (ready' : ℕ) : Type 0 where
  pub nothing : rest ≡ [] → (waiting' ≡ waiting) × (ready' ≡ ready)
  pub first : (a : ℕ) (later : List ℕ) → rest ≡ a ∷ later
      → (waiting' ≡ set waiting a (with j (get_or waiting a 0)))
      × (ready' ≡ cond (eqb (with j (get_or waiting a 0)) (get_or o a 0)) (with a ready) ready)

-- there are no more columns than components may be, and their labels are actions in which the component takes part (R18)
pub record Lined (o : List ℕ) (cs : List (List ℕ)) : Type 0 where
  pub sixteen : OfSixteen o
  pub few : length cs ≤ most_components
  pub own : (j a : ℕ) → Memᴰ a (rest_in cs j) → (a < most_actions) × (participates o j a ≡ true)

-- whether a column has a label left (R19)
pub record LeftOver (cs : List (List ℕ)) (r : Bool) : Type 0 where
  pub some : r ≡ true → (j : ℕ) × (j < length cs) × (rest_in cs j ≢ [])
  pub none : r ≡ false → (j : ℕ) → j < length cs → rest_in cs j ≡ []

-- how many labels all columns have left together
abbrev pub labels_left : List (List ℕ) → ℕ
labels_left cs = length (append_all cs)

-- all components
abbrev pub Everywhere : ℕ → Type 0
Everywhere j = Unit {0}

-- of the components that have shown their first label: entry a has those that wait for the action a; an action is ready where all of its
-- components wait for it
pub record Shown (o : List ℕ) (rest : Rest) (Has : ℕ → Type 0) (waiting : List ℕ) (ready : ℕ) : Type 0 where
  pub size : length waiting ≡ most_actions
  pub waits : (a : ℕ) → a < most_actions → (j : ℕ) → (member (get_or waiting a 0) j ≡ true) ↔ (Has j × HeadedBy rest j a)
  pub told : (a : ℕ) → (member ready a ≡ true) ↔ ((a < most_actions) × (get_or waiting a 0 ≡ get_or o a 0) × (get_or o a 0 ≢ 0))

-- the action a was taken from the columns of its components
pub record ActionTaken (o : List ℕ) (a : ℕ) (cs cs' : List (List ℕ)) : Type 0 where
  pub was_head : (j : ℕ) → participates o j a ≡ true → HeadedBy (rest_in cs) j a
  pub taken : (j : ℕ) → rest_in cs' j ≡ cond (participates o j a) (drop 1 (rest_in cs j)) (rest_in cs j)
  pub fewer : labels_left cs' < labels_left cs

-- and what is left is shown
pub record TakenShown (o : List ℕ) (a : ℕ) (cs cs' : List (List ℕ)) (waiting' : List ℕ) (ready' : ℕ) : Type 0 where
  pub lined : Lined o cs'
  pub shown : Shown o (rest_in cs') Everywhere waiting' ready'
  pub taken : ActionTaken o a cs cs'

-- no action heads the columns of all of its components
abbrev pub NoneReady : List ℕ → List (List ℕ) → Type 0
NoneReady o cs = (a : ℕ) → a < most_actions → get_or o a 0 ≢ 0 → ¬ ((j : ℕ) → participates o j a ≡ true → HeadedBy (rest_in cs) j a)

-- an action of some components, which headed the columns of all of them, was taken
pub record ReadyTaken (o : List ℕ) (a : ℕ) (cs cs' : List (List ℕ)) : Type 0 where
  pub below : a < most_actions
  pub some_part : get_or o a 0 ≢ 0
  pub taken : ActionTaken o a cs cs'

-- a ready action was taken; or none is ready, and the columns stay
abbrev pub NextTaken : List ℕ → List (List ℕ) → List (List ℕ) → Option ℕ → Type 0
NextTaken o cs cs' r = MatchOption r (NoneReady o cs × (cs' ≡ cs)) (λ a. ReadyTaken o a cs cs')
