-- R8: byte strings of one length rise as the numbers that they are, the first byte heaviest; so strings are compared with the one before, one
-- after another.
-- Assumes nothing.
use mathlib.Core.Path.{◌≡◌, refl, sym, ap, ap₂, ◌∙◌}
use mathlib.Core.Bool.{Bool, true, false, not, ◌&&◌, ◌||◌, or_assoc}
use mathlib.Core.Logic.{inl, inr}
use mathlib.Core.List.{List, [], ◌∷◌}
use Prim.Native.Nat.{ℕ, zero, suc, ◌+◌, ◌*◌, ◌<◌}
use native.Mathlib.Nat.{eq-or-lt_of_le}
use native.Mathlib.Omega.{arith}
use borrow.Author.Tests.{lt-ltb, le-ltb, lt-leb, le-leb, eq-eqb, ne_eqb, ltb-true, ltb-false}
use lib.Dec.{leb, ltb, eqb}
use lib.ListN.{length, drop, get_or}
use Rattle.sets.proofs.Bools.{true_or_false}
use Rattle.sheet.specs.Numbers.{AreBytes}
use Rattle.sheet.specs.Refusals.{less_bytes, rising_bytes}
use Rattle.reading.specs.transitions.Fitting.{heavy_from, heavy_first}

-- ---- rising

heavier : (u v : ℕ) (x y : List ℕ) → AreBytes x → length x ≡ length y → u < v → heavy_from u x < heavy_from v y
heavier u v [] [] h e l = l
heavier u v [] (f ∷ y) h e l = absurd (omega arith)
heavier u v (d ∷ x) [] h e l = absurd (omega arith)
heavier u v (d ∷ x) (f ∷ y) h e l =
    let byte : d < 256 = h 0 in
    heavier (256 * u + d) (256 * v + f) x y (λ i. h (suc i)) (omega arith) (omega arith)

less_from : (u : ℕ) (x y : List ℕ) → AreBytes x → AreBytes y → length x ≡ length y → less_bytes x y ≡ ltb (heavy_from u x) (heavy_from u y)
less_from u [] [] h g e = sym (le-ltb u u (omega arith))
less_from u [] (f ∷ y) h g e = absurd (omega arith)
less_from u (d ∷ x) [] h g e = absurd (omega arith)
less_from u (d ∷ x) (f ∷ y) h g e =
    let rest = less_from (256 * u + d) x y (λ i. h (suc i)) (λ i. g (suc i)) (omega arith) in
    elim (true_or_false (ltb d f)) [
      | inl t ↦ less (ltb-true d f t)
      | inr t ↦ elim (eq-or-lt_of_le (ltb-false d f t)) [ inl s ↦ same rest (sym s) | inr l ↦ more l ]
    ]
  where
    long : length x ≡ length y
    long = omega arith

    less : d < f → (ltb d f || (eqb d f && less_bytes x y)) ≡ ltb (heavy_from (256 * u + d) x) (heavy_from (256 * u + f) y)
    less l =
        ap (λ (t : Bool). t || (eqb d f && less_bytes x y)) (lt-ltb d f l)
        ∙ sym (lt-ltb _ _ (heavier (256 * u + d) (256 * u + f) x y (λ i. h (suc i)) long (omega arith)))

    same : less_bytes x y ≡ ltb (heavy_from (256 * u + d) x) (heavy_from (256 * u + d) y) → d ≡ f
        → (ltb d f || (eqb d f && less_bytes x y)) ≡ ltb (heavy_from (256 * u + d) x) (heavy_from (256 * u + f) y)
    same rest s =
        ap₂ (λ (t w : Bool). t || (w && less_bytes x y)) (le-ltb d f (omega arith)) (eq-eqb d f s)
        ∙ rest
        ∙ ap (λ (k : ℕ). ltb (heavy_from (256 * u + d) x) (heavy_from (256 * u + k) y)) s

    more : f < d → (ltb d f || (eqb d f && less_bytes x y)) ≡ ltb (heavy_from (256 * u + d) x) (heavy_from (256 * u + f) y)
    more l =
        let after = heavier (256 * u + f) (256 * u + d) y x (λ i. g (suc i)) (sym long) (omega arith) in
        ap₂ (λ (t w : Bool). t || (w && less_bytes x y)) (le-ltb d f (omega arith)) (ne_eqb d f (λ s. omega arith))
        ∙ sym (le-ltb (heavy_from (256 * u + d) x) (heavy_from (256 * u + f) y) (omega arith))

not_less : (x y : ℕ) → not (ltb x y) ≡ leb y x
not_less x y = elim (true_or_false (ltb x y)) [
  | inl t ↦ let l = ltb-true x y t in ap not t ∙ sym (lt-leb y x (omega arith))
  | inr t ↦ let l = ltb-false x y t in ap not t ∙ sym (le-leb y x (omega arith))
]

not_and : (p q : Bool) → not (p && q) ≡ (not p || not q)
not_and true q = refl
not_and false q = refl

-- ---- the strings from one on: they rise exactly when it stands before the next one, and those from the next one on rise

rising_at : (ps : List (List ℕ)) (i : ℕ) → suc i < length ps
    → rising_bytes (drop i ps) ≡ (less_bytes (get_or ps i []) (get_or ps (suc i) []) && rising_bytes (drop (suc i) ps))
rising_at [] i h = absurd (omega arith)
rising_at (x ∷ []) i h = absurd (omega arith)
rising_at (x ∷ y ∷ ps) zero h = refl
rising_at (x ∷ y ∷ ps) (suc i) h = rising_at (y ∷ ps) i (omega arith)

rising_next : (ps : List (List ℕ)) (i k : ℕ) → k ≡ suc i → k < length ps
    → rising_bytes (drop i ps) ≡ (less_bytes (get_or ps i []) (get_or ps k []) && rising_bytes (drop k ps))
rising_next ps i k e h = rw e (rising_at ps i (omega arith))

compared : (x y : List ℕ) (u v : ℕ) → AreBytes x → AreBytes y → length x ≡ 4 → length y ≡ 4 → u ≡ heavy_first y → v ≡ heavy_first x
    → not (less_bytes x y) ≡ leb u v
compared x y u v one two long_one long_two eu ev =
    ap not (less_from 0 x y one two (long_one ∙ sym long_two)) ∙ not_less (heavy_first x) (heavy_first y) ∙ ap₂ leb (sym eu) (sym ev)

-- the string with index k is compared with the one before; n is the index of the next one to be the one before
pub falls_next : (ps : List (List ℕ)) (i k n u v : ℕ) (seen whole : Bool) → k ≡ suc i → n ≡ k → k < length ps
    → AreBytes (get_or ps i []) → AreBytes (get_or ps k []) → length (get_or ps i []) ≡ 4 → length (get_or ps k []) ≡ 4
    → u ≡ heavy_first (get_or ps k []) → v ≡ heavy_first (get_or ps i [])
    → whole ≡ (seen || not (rising_bytes (drop i ps))) → whole ≡ ((seen || leb u v) || not (rising_bytes (drop n ps)))
falls_next ps i k n u v seen whole e f h one two long_one long_two eu ev so_far =
    let rest = not (rising_bytes (drop k ps)) in
    so_far
    ∙ ap (λ (t : Bool). seen || not t) (rising_next ps i k e h)
    ∙ ap (λ (t : Bool). seen || t) (not_and (less_bytes (get_or ps i []) (get_or ps k [])) (rising_bytes (drop k ps)))
    ∙ ap (λ (t : Bool). seen || (t || rest)) (compared (get_or ps i []) (get_or ps k []) u v one two long_one long_two eu ev)
    ∙ sym (or_assoc seen (leb u v) rest)
    ∙ ap (λ (j : ℕ). (seen || leb u v) || not (rising_bytes (drop j ps))) (sym f)
