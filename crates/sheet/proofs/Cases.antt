-- The worked sheets come out as their two tables say, by computing; large sheets as it is said of every sheet of their size; and the sheets
-- of a family, up to the longest, are accepted (LargeSheets).
-- Assumes nothing.
use mathlib.Core.Path.{◌≡◌, refl}
use mathlib.Core.List.{List, ◌∷◌, map, Memᴰ}
use native.Mathlib.Omega.{arith}
use Rattle.sets.specs.Lists.{upward, below}
use Rattle.sets.specs.Bits.{members, members_from}
use Rattle.systems.specs.Independence.{shares, dependent}
use Rattle.systems.specs.Running.{rounds, closure, start, enabled, fire}
use Rattle.systems.specs.Checking.{not_actions, not_apart, not_enabled, step_fault}
use Rattle.sheet.specs.Numbers.{field}
use Rattle.sheet.specs.Layout.{records_at, transitions_at, steps_at, component_count, action_count, closing, front, states_of}
use Rattle.sheet.specs.Layout.{filler_of, initial_of, alphabet_of, transition_bytes, tables_of, tables, step_count, steps}
use Rattle.sheet.specs.Refusals.{length_wrong, mark_wrong, counts_wrong, offsets_wrong, record_wrong, records_wrong}
use Rattle.sheet.specs.Refusals.{action_unused, transition_wrong, transitions_wrong, order_wrong, too_many_actions, refusal}
use Rattle.sheet.specs.Verdict.{steps_verdict, verdict}
use Rattle.sheet.specs.Cases.{Case, holding_of, one_to_nine, refusal_cases, ComesOut}
use Rattle.sheet.specs.LimitCases.{LimitCase, limit_cases, LargeSheets}
use Rattle.sheet.proofs.LargeSheets.{large_length, large_accepted}

-- two lists that two maps give are equal: so are the images of each element
images : {A B : Type 0} (f g : A → B) (l : List A) → map f l ≡ map g l → (x : A) → Memᴰ x l → f x ≡ g x
images {A = A} {B = B} f g mathlib.Core.List.[] e x x4 = elim x4 [ ]
images f g (y ∷ l) e x (Memᴰ.head h) = let first : f y ≡ g y = cc in rw h first
images f g (y ∷ l) e x (Memᴰ.tail m) = let rest : map f l ≡ map g l = cc in images f g l rest x m

all_come_out :
    (map (λ c. holding_of c.given one_to_nine) refusal_cases ≡ map (λ c. c.holding) refusal_cases)
    × (map (λ c. verdict c.given) refusal_cases ≡ map (λ c. c.due) refusal_cases)
    × (map (λ s. verdict s.given) limit_cases ≡ map (λ s. s.due) limit_cases)
unfolding upward below members members_from shares dependent rounds closure start enabled fire not_actions not_apart not_enabled step_fault field records_at
    transitions_at steps_at component_count action_count closing front states_of filler_of initial_of alphabet_of transition_bytes tables_of tables step_count
    steps length_wrong mark_wrong counts_wrong offsets_wrong record_wrong records_wrong action_unused transition_wrong transitions_wrong order_wrong
    too_many_actions refusal steps_verdict verdict
all_come_out = (refl, refl, refl)

-- O1, O2: of each worked sheet just the refusals from 1 to 9 hold that its row says, and its verdict is the one that is due
pub cases_hold : (c : Case) → Memᴰ c refusal_cases → ComesOut c
cases_hold c m = (
  images (λ d. holding_of d.given one_to_nine) (λ d. d.holding) refusal_cases all_come_out.0 c m,
  images (λ d. verdict d.given) (λ d. d.due) refusal_cases all_come_out.1 c m,
)

-- L1 to L7: on both sides of each limit the verdict is the one that is due
pub limits_hold : (s : LimitCase) → Memᴰ s limit_cases → verdict s.given ≡ s.due
limits_hold s m = images (λ t. verdict t.given) (λ t. t.due) limit_cases all_come_out.2 s m

-- L4, L5, L7: the large sheets are judged as they are to be
pub large_hold : LargeSheets
unfolding length_wrong offsets_wrong
large_hold =
    record {
      longest_passes = λ b h.
          (rw h.length_is refl, rw h.length_is (rw h.records_first (rw h.n_is (rw h.t_is (rw h.s_is refl)))));
      longer_refused = λ b h. rw h refl;
      transitions_pass = λ b h. rw h.length_is (rw h.records_first (rw h.n_is (rw h.t_is (rw h.s_is refl))));
      transitions_refused = λ b h. rw h.length_is (rw h.records_first (rw h.n_is (rw h.t_is (rw h.s_is refl))));
      steps_pass = λ b h. rw h.length_is (rw h.records_first (rw h.n_is (rw h.t_is (rw h.s_is refl))));
      steps_refused = λ b h. rw h.length_is (rw h.records_first (rw h.n_is (rw h.t_is (rw h.s_is refl))));
      large_length = large_length;
      large_accepted = large_accepted;
      longest_accepted = (
        large_length 16 2048 1024,
        large_accepted 16 2048 1024 (omega arith) (omega arith) (omega arith) (omega arith) (omega arith),
      );
    }
