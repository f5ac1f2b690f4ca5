-- N7: the process check as a loop makes it: x stands just before what is left of the steps, of which the first has the index k, and none
-- before them offends; so what is left decides.
-- Assumes nothing.
use mathlib.Core.Path.{◌≡◌, sym, ap, ◌∙◌, subst}
use mathlib.Core.Bool.{Bool, true, false}
use mathlib.Core.List.Memᴰ
use mathlib.Core.List.{List, [], ◌∷◌, ◌++◌, map}
use mathlib.Core.Option.{none, some}
use Prim.Native.Nat.{ℕ, suc, ◌+◌}
use native.Mathlib.Numerals.{add-one}
use Rattle.sets.specs.Bits.{members}
use Rattle.traces.specs.Steps.{follows}
use Rattle.systems.specs.Checking.{flat}
use Rattle.systems.specs.Tables.{Tables, WordOver}
use Rattle.traces.specs.Offences.{offence_or, offence_from, first_offence}

module _ (dep : ℕ → ℕ → Bool) (all : List ℕ) where
  -- what is left decides
  abbrev pub LeftDecides : ℕ → ℕ → List ℕ → Type 0
  LeftDecides x k left = first_offence dep (map members all) ≡ offence_from dep (members x) k (map members left)

  pub none_first : all ≡ [] → first_offence dep (map members all) ≡ none
  none_first e = ap (λ (l : List ℕ). first_offence dep (map members l)) e

  pub first_decides : (x : ℕ) (left : List ℕ) → all ≡ x ∷ left → LeftDecides x 1 left
  first_decides x left e = ap (λ (l : List ℕ). first_offence dep (map members l)) e

  module _ (x k : ℕ) (left : List ℕ) (D : LeftDecides x k left) where
    pub none_left : left ≡ [] → first_offence dep (map members all) ≡ none
    none_left e = D ∙ ap (λ (l : List ℕ). offence_from dep (members x) k (map members l)) e

    -- the step y comes next, and was compared with x
    module _ (y : ℕ) (others : List ℕ) (next : left ≡ y ∷ others) (r : Bool) (compared : r ≡ follows dep (members x) (members y)) where
      told : first_offence dep (map members all) ≡ offence_or r k (offence_from dep (members y) (suc k) (map members others))
      told =
          D ∙ ap (λ (l : List ℕ). offence_from dep (members x) k (map members l)) next
          ∙ ap (λ (b : Bool). offence_or b k (offence_from dep (members y) (suc k) (map members others))) (sym compared)

      pub next_offends : r ≡ false → first_offence dep (map members all) ≡ some k
      next_offends e = told ∙ ap (λ (b : Bool). offence_or b k (offence_from dep (members y) (suc k) (map members others))) e

      pub next_follows : r ≡ true → LeftDecides y (k + 1) others
      next_follows e =
          told ∙ ap (λ (b : Bool). offence_or b k (offence_from dep (members y) (suc k) (map members others))) e
          ∙ ap (λ (i : ℕ). offence_from dep (members y) i (map members others)) (sym (add-one k))

-- the actions of the steps that are left are actions of the tables
module _ (T : Tables) (y : ℕ) (left others : List ℕ) (next : left ≡ y ∷ others) (known : WordOver T (flat left)) where
  parts : WordOver T (members y ++ flat others)
  parts = subst (λ (l : List ℕ). WordOver T (flat l)) next known

  pub step_known : WordOver T (members y)
  step_known a m = parts a (Memᴰ.append_left (flat others) m)

  pub others_known : WordOver T (flat others)
  others_known a m = parts a (Memᴰ.append_right (members y) m)
