-- S4: the first transition of a section, and those behind it.
-- Assumes nothing.
use Rattle.std.proofs.Common.{◌≡◌, sym, ap, ◌∙◌, arith, List, [], ◌∷◌, map, suc, ◌-◌, ◌/◌, ◌≤◌, ℕ, length, take, drop, get_or, length-drop}
use lib.Seq.{take_all}
use Rattle.systems.specs.Tables.{Transition}
use Rattle.sheet.specs.Bounds.{transition_size}
use Rattle.sheet.specs.Numbers.{parts}
use Rattle.sheet.specs.Layout.{transition_of}
use Rattle.sheet.specs.Sections.{transitions_in}

-- the transition in the first four bytes
abbrev first : List ℕ → Transition
first b = record { component = get_or b 0 0; source = get_or b 1 0; label = get_or b 2 0; target = get_or b 3 0 }

begins : (b : List ℕ) → 4 ≤ length b → transitions_in b ≡ first b ∷ transitions_in (drop 4 b)
begins [] h = absurd (omega arith)
begins (c ∷ []) h = absurd (omega arith)
begins (c ∷ s ∷ []) h = absurd (omega arith)
begins (c ∷ s ∷ l ∷ []) h = absurd (omega arith)
begins (c ∷ s ∷ l ∷ t ∷ b) h =
    let count : length (c ∷ s ∷ l ∷ t ∷ b) / transition_size ≡ suc (length b / transition_size) = omega arith in
    ap (λ (k : ℕ). map transition_of (parts transition_size k (c ∷ s ∷ l ∷ t ∷ b))) count

pub first_transition : (b : List ℕ) → 4 ≤ length b → transitions_in b ≡ first b ∷ transitions_in (take (length b - 4) (drop 4 b))
first_transition b h =
    begins b h
    ∙ ap (λ (l : List ℕ). first b ∷ transitions_in l) (sym (take_all (length b - 4) (drop 4 b) (let e = length-drop 4 b in omega arith)))
