-- The steps that are still to be looked at; none before them has a flaw (R10, R11, O3).
use Rattle.std.proofs.Common.{◌≡◌, ◌<◌, ℕ, get_or}
use Rattle.systems.specs.Tables.{Tables}
use Rattle.sheet.specs.Sections.{steps_in, Alphabets}
use Rattle.machine.specs.flaws.Flaws.{flaw_of}
use Rattle.machine.proofs.flaws.first_flaw.Given as goal

abbrev pub invariant-loop-index : goal.invariant-loop-index
invariant-loop-index l =
    (T : Tables) → Alphabets T l.components → T.actions ≡ l.m → (i : ℕ) → i < l.index → flaw_of T (get_or (steps_in l.steps) i 0) ≡ 0
