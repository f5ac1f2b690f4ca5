-- The outcome of a call: what was asked for, or one numbered refusal (O1, O4; document 01, refusal list, conditions of acceptance).
-- Assumes nothing.
use Rattle.std.specs.Prelude.{◌≡◌, Bool, true, false, List, [], ◌∷◌, ℕ}
use Rattle.sheet.specs.Layout.{component_count, action_count, transitions_at, steps_at}
use Rattle.sheet.specs.Verdict.{Verdict}
use Rattle.answers.specs.declared.Refusal.{Refusal}
use Rattle.answers.specs.declared.Refusal.TheVariants.{Length, Mark, Counts, Offsets, Record, UnusedAction, Transition, Order, TooManyActions}
use Rattle.answers.specs.declared.Refusal.TheVariants.{NotActions, Clash, NotEnabled, NoRoom, OtherTables, NotProduct, BadRow, IdleComponent}
use Rattle.answers.specs.declared.Refusal.TheVariants.{NotColumns, NoExecution}
use Rattle.answers.specs.declared.Answer.{Answer}
use Rattle.answers.specs.declared.Answer.TheVariants.{Accepted, Given, Refused}

-- O4, O7: a refusal tells its number, its step index, and which of two sheets is refused, 0 where there is one sheet
pub data Outcome (A : Type 0) : Type 0 where
  given : A → Outcome A
  refused : ℕ → ℕ → ℕ → Outcome A

-- what was asked for, written as numbers (F10)
abbrev pub values : {A : Type 0} → (A → List ℕ) → Outcome A → Outcome (List ℕ)
values f (given x) = given (f x)
values f (refused k i s) = refused k i s

-- one number (F10)
abbrev pub one_value : ℕ → List ℕ
one_value x = x ∷ []

-- 1 for yes, 0 for no (F10, P3)
abbrev pub bit : Bool → ℕ
bit true = 1
bit false = 0

-- O4: the number of each refusal
abbrev pub number_of : Refusal → ℕ
number_of Length = 1
number_of Mark = 2
number_of Counts = 3
number_of Offsets = 4
number_of Record = 5
number_of UnusedAction = 6
number_of Transition = 7
number_of Order = 8
number_of TooManyActions = 9
number_of NotActions = 10
number_of Clash = 11
number_of NotEnabled = 12
number_of NoRoom = 13
number_of OtherTables = 14
number_of NotProduct = 15
number_of BadRow = 16
number_of IdleComponent = 17
number_of NotColumns = 18
number_of NoExecution = 19

-- F10: for each case of an answer, its number and values
abbrev pub outcome_of : Answer → Outcome (List ℕ)
outcome_of (Accepted z) = given (z.n ∷ z.m ∷ z.t ∷ z.s ∷ [])
outcome_of (Given x) = given (x ∷ [])
outcome_of (Refused r i s) = refused (number_of r) i s

-- O4, O7: the answer is the refusal k, with this step index and this sheet
abbrev pub TellsRefusal : Answer → ℕ → ℕ → ℕ → Type 0
TellsRefusal a k i s = outcome_of a ≡ refused k i s

-- O7: the verdict on the sheet s of a call, and what comes after it where that sheet is accepted
abbrev pub on_sheet : {A : Type 0} → ℕ → Verdict → Outcome A → Outcome A
on_sheet s (Verdict.refused k i) later = refused k i s
on_sheet s Verdict.accepted later = later

-- the outcome of a call on one sheet, after refusals 1 to 12 (O1)
abbrev pub after : {A : Type 0} → Verdict → Outcome A → Outcome A
after v later = on_sheet 0 v later

-- n, m, T and S of a sheet (S6, F1)
abbrev pub sizes_of : List ℕ → List ℕ
sizes_of b = component_count b ∷ action_count b ∷ transitions_at b ∷ steps_at b ∷ []

-- a verdict on the sheet as a reader tells it: the sizes, or the refusal (F1)
abbrev pub read_outcome : List ℕ → Verdict → Outcome (List ℕ)
read_outcome b v = after v (given (sizes_of b))
