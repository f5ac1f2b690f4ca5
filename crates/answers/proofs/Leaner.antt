-- A3, A2: which of two sheets wins, and the step section that is handed back.
-- Assumes nothing.
use mathlib.Core.Path.{◌≡◌, refl}
use mathlib.Core.Logic.Iff
use mathlib.Core.Logic.{◌↔◌}
use mathlib.Core.Bool.{Bool, true, false, cond, true≢false, false≢true}
use mathlib.Core.List.{List, [], ◌++◌}
use Prim.Native.Nat.{ℕ, ◌-◌, ◌≤◌, ◌<◌}
use native.Mathlib.Omega.{arith}
use lib.Dec.{ltb}
use lib.ListN.{length, drop}
use Rattle.sets.proofs.Bools.{ltb_true, ltb_false}
use Rattle.sheet.specs.Layout.{front}
use Rattle.sheet.specs.Verdict.{Accepted}
use Rattle.sheet.proofs.RoundTrip.{sections_joined}
use Rattle.answers.specs.Related.{SameTables}
use Rattle.answers.specs.Restated.{restated_steps}
use Rattle.answers.specs.Outcomes.{given, refused}
use Rattle.answers.specs.Leaner.{winner, step_section, leaner}
use Rattle.answers.proofs.Restated.{accepted_limits}
use Rattle.answers.proofs.TwoSheets.{two_given}

-- the second sheet wins exactly when the test holds
abbrev won : Bool → ℕ
won t = cond t 1 0

won_first : (t : Bool) → (won t ≡ 0) ↔ (t ≡ false)
won_first true = (λ e. absurd (omega arith), λ e. absurd (true≢false e))
won_first false = (λ e. refl, λ e. refl)

won_second : (t : Bool) → (won t ≡ 1) ↔ (t ≡ true)
won_second true = (λ e. refl, λ e. refl)
won_second false = (λ e. absurd (omega arith), λ e. absurd (false≢true e))

module _ (b c : List ℕ) where
  abbrev fewer : Bool
  fewer = ltb (length (restated_steps c)) (length (restated_steps b))

  winner_by : (y : ℕ) {P : Type 0} → (won fewer ≡ y) ↔ P → (winner b c ≡ given y) ↔ (Accepted b × Accepted c × SameTables b c × P)
  unfolding winner
  winner_by y h =
      let pair = two_given b c (won fewer) y in
      (λ e. let r = pair.0 e in (r.0, r.1, r.2, h.0 r.3), λ r. pair.1 (r.0, r.1, r.2, h.1 r.3))

  -- A2, A3: the first sheet wins exactly when it has no more restated steps than the second
  pub winner_first : (winner b c ≡ given 0) ↔ (Accepted b × Accepted c × SameTables b c × (length (restated_steps b) ≤ length (restated_steps c)))
  winner_first = winner_by 0 (Iff.trans (won_first fewer) (ltb_false (length (restated_steps c)) (length (restated_steps b))))

  -- A2, A3: the second wins exactly when it has fewer
  pub winner_second : (winner b c ≡ given 1) ↔ (Accepted b × Accepted c × SameTables b c × (length (restated_steps c) < length (restated_steps b)))
  winner_second = winner_by 1 (Iff.trans (won_second fewer) (ltb_true (length (restated_steps c)) (length (restated_steps b))))

  -- A2: the step section of the sheet that wins is handed back
  pub leaner_first : winner b c ≡ given 0 → leaner b c ≡ step_section b
  unfolding leaner
  leaner_first e = rw e

  -- A2: so too where the second wins
  pub leaner_second : winner b c ≡ given 1 → leaner b c ≡ step_section c
  unfolding leaner
  leaner_second e = rw e

  -- A2: for a refused pair the part is empty
  pub leaner_refused : (k i s : ℕ) → winner b c ≡ refused k i s → leaner b c ≡ []
  unfolding leaner
  leaner_refused k i s e = rw e

-- the step section stands between the bytes before S and the trailer (S2, A2)
pub section_whole : (b : List ℕ) → Accepted b → front b ++ (step_section b ++ drop (length b - 10) b) ≡ b
unfolding front step_section
section_whole b acc = sections_joined b (accepted_limits b acc)
