-- What each call on one sheet answers and leaves: the promises, one name for each.
-- Assumes nothing.
use Rattle.std.specs.Prelude.{◌≡◌, List, ℕ, length, replicate}
use Rattle.traces.specs.Offences.{offending}
use Rattle.sheet.specs.Bounds.{most_components}
use Rattle.sheet.specs.Verdict.{Verdict, accepted, refused, verdict}
use Rattle.answers.specs.declared.Answer.{Answer}
use Rattle.answers.specs.Outcomes.{values, one_value, bit, outcome_of, read_outcome}
use Rattle.answers.specs.Ends.{end_array}
use Rattle.answers.specs.ProcessCheck.{process_check}
use Rattle.answers.specs.Restating.{restating, output_after}
use Rattle.answers.specs.Figure.{figure_outcome}
use Rattle.answers.specs.Stuck.{stuck_outcome}
use Rattle.answers.specs.declared.EndSets.{EndSets}

-- O1, O4: the check: the sizes of an accepted sheet, or the refusal
abbrev pub CheckAnswer : List ℕ → Answer → Type 0
CheckAnswer b r = outcome_of r ≡ read_outcome b (verdict b)

-- E5: the array of end sets of an accepted sheet, 0 for the components that it does not have; zeros for a refused one
abbrev pub end_array_by : Verdict → List ℕ → List ℕ
end_array_by accepted b = end_array b
end_array_by (refused k i) b = replicate most_components 0

-- E5: the end sets: the verdict, and the array
pub record EndSetsAnswer (b : List ℕ) (r : EndSets) : Type 0 where
  pub answer_told : CheckAnswer b r.answer
  pub sets_told : r.sets ≡ end_array_by (verdict b) b

-- N7: the process check: 0 for yes, else one past the index of the first step that offends
abbrev pub ProcessAnswer : List ℕ → Answer → Type 0
ProcessAnswer b r = outcome_of r ≡ values (λ o. one_value (offending o)) (process_check b)

-- N9: restating: the bytes written, and the output afterwards
pub record RestateAnswer (b out : List ℕ) (r : Answer) (after : List ℕ) : Type 0 where
  pub answer_told : outcome_of r ≡ values one_value (restating b (length out))
  pub output_left : after ≡ output_after b out

-- A4: the concurrency figure
abbrev pub FigureAnswer : List ℕ → Answer → Type 0
FigureAnswer b r = outcome_of r ≡ values one_value (figure_outcome b)

-- A5: stuck: 1 for yes, 0 for no
abbrev pub StuckAnswer : List ℕ → Answer → Type 0
StuckAnswer b r = outcome_of r ≡ values (λ t. one_value (bit t)) (stuck_outcome b)
