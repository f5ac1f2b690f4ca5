-- The system and the steps of a sheet as the published definitions take them, and the executions that they are (Q1, Q6,
-- Q8; source 001).
-- Assumes nothing.
use Rattle.std.specs.Prelude.{List, map, ℕ}
use Rattle.systems.specs.Lts.{System}
use Rattle.systems.specs.StepExecution.{Actions, Determinized, StepExecution}
use Rattle.systems.specs.ProcessExecution.{ProcessExecution}
use Rattle.systems.specs.Tables.{system_of}
use Rattle.systems.specs.Checking.{actions_of}
use Rattle.sheet.specs.Layout.{tables, steps}
use Rattle.answers.specs.Ends.{end_sets}

-- Q1: the components, moving together
abbrev pub system_in : List ℕ → System
system_in b = system_of (tables b)

-- S5: the steps, each as a set of actions
abbrev pub action_sets : List ℕ → List Actions
action_sets b = map actions_of (steps b)

-- Q6: the steps are a step execution that ends in F (definition 6)
abbrev pub ExecutionTo : List ℕ → Determinized → Type 1
ExecutionTo b F = StepExecution (system_in b) (action_sets b) F

-- Q8: the steps are a process execution that ends in the end sets (definition 8)
abbrev pub ProcessIn : List ℕ → Type 1
ProcessIn b = ProcessExecution (system_in b) (action_sets b) (end_sets b)
