-- The answer of a call on two sheets: the refusal of the first, else that of the second, else 14; a refusal tells its sheet, 0 for 14
-- (O6, O7; document 01, below the refusal list).
-- Assumes nothing.
use Rattle.std.specs.Prelude.{Bool, true, false, not, ◌||◌, List, ℕ, eqb}
use Rattle.sheet.specs.Layout.{steps_at, component_count, action_count, front}
use Rattle.sheet.specs.Refusals.{same_numbers}
use Rattle.sheet.specs.Verdict.{verdict}
use Rattle.answers.specs.Outcomes.{Outcome, given, refused, on_sheet}

-- R14: the two have other bytes before S, or another S, n or m
unfoldable pub tables_differ : List ℕ → List ℕ → Bool
tables_differ b c =
    not (same_numbers (front b) (front c)) || not (eqb (steps_at b) (steps_at c))
    || not (eqb (component_count b) (component_count c)) || not (eqb (action_count b) (action_count c))

-- refusal 14 where the tables differ, else x (R14)
abbrev pub unless_differ : {A : Type 0} → Bool → A → Outcome A
unless_differ true x = refused 14 0 0
unless_differ false x = given x

-- O6, O7: x as the answer for the two sheets, unless the pair is refused
unfoldable pub of_two : {A : Type 0} → List ℕ → List ℕ → A → Outcome A
of_two b c x = on_sheet 0 (verdict b) (on_sheet 1 (verdict c) (unless_differ (tables_differ b c) x))
