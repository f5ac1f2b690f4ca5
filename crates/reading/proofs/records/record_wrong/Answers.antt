-- `records::record_wrong`, which serves R5: the tests are the refusal's conditions taken together.
-- Assumes nothing.
use Rattle.std.proofs.Common.{◌≡◌, sym, ◌∙◌, List, ℕ, ◌+◌, ◌*◌, ◌^◌, get_or}
use Rattle.std.specs.Prelude.{Bool, true, false, not, ◌||◌, leb, eqb}
use mathlib.Core.Bool.{or_assoc}
use Rattle.sheet.specs.Numbers.{field}
use Rattle.sheet.specs.Layout.{filler_of, initial_of, alphabet_of}
use Rattle.sheet.specs.Refusals.{outside, record_wrong}
use Rattle.reading.proofs.records.Decoding.{states_field}
use Rattle.reading.proofs.records.record_wrong.Goals as goal

-- the set x is empty or has an element at or above k
abbrev missing : ℕ → ℕ → Bool
missing k x = eqb x 0 || leb (2 ^ k) x

-- the tests, with the state count s as it was read
module _ (b : List ℕ) (m j s : ℕ) (e : s ≡ get_or b (16 * j) 0) where
  states_wrong : outside 1 32 s ≡ true → true ≡ record_wrong b m j
  unfolding record_wrong
  states_wrong h = rw (← states_field b j s e, h)

  sets_tested : (f x y : ℕ) (initial alphabet : Bool) → outside 1 32 s ≡ false → f ≡ field (16 * j + 1) 3 b → x ≡ field (16 * j + 4) 4 b
      → y ≡ field (16 * j + 8) 8 b → initial ≡ missing s x → alphabet ≡ missing m y
      → ((not (eqb f 0) || initial) || alphabet) ≡ record_wrong b m j
  unfolding record_wrong filler_of initial_of alphabet_of
  sets_tested f x y i a h ef ex ey ei ea = rw (ei, ea, ef, ex, ey, ← states_field b j s e, h) (simp or_assoc)

pub returns-then-out_of_range : goal.returns-then-out_of_range
returns-then-out_of_range c =
    let a = c.args in
    states_wrong a.records.now a.m a.j c.from-states.result c.from-states.ensures (sym c.out_of_range.ensures ∙ c.if-out_of_range.true)

pub returns : goal.returns
returns c =
    let a = c.args in
    sets_tested a.records.now a.m a.j c.from-states.result c.from-states.ensures c.number.result c.number-2.result c.number-3.result
    c.misses.result c.misses-2.result (sym c.out_of_range.ensures ∙ c.if-out_of_range.false) c.number.ensures.0 c.number-2.ensures.0
    c.number-3.ensures.0 c.misses.ensures c.misses-2.ensures
