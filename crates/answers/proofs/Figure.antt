-- A4: of so many actions in so many steps there is exactly one figure, and `quotient` computes it.
-- Assumes nothing.
use mathlib.Core.Path.{◌≡◌, refl, sym, subst, ap, ◌∙◌}
use mathlib.Core.Logic.{◌≢◌, ◌↔◌, ◌⊎◌, inl, inr}
use mathlib.Core.Bool.{Bool, true, false, cond}
use mathlib.Core.List.{List}
use Prim.Native.Nat.{ℕ, zero, suc, ◌+◌, ◌*◌, ◌/◌, ◌%◌, ◌≤◌, ◌<◌}
use native.Mathlib.Nat.{div-add-mod', mod-lt, mul-le-mul_right, le_trans}
use native.Mathlib.Omega.{arith}
use lib.Dec.{ltb}
use lib.ListN.{length}
use Rattle.sets.proofs.Bools.{ltb_true, ltb_false, true_or_false, equal_or_not}
use Rattle.systems.specs.Checking.{flat}
use Rattle.sheet.specs.Layout.{steps}
use Rattle.answers.specs.Restated.{restated_steps}
use Rattle.answers.specs.Figure.{distance, Nearest, FigureOf, IsFigure, rounded, quotient, figure}

-- ---- there is one: ten times the actions are q for each of the s steps, and r more

-- r is more than half of the steps, or just half and q is odd
rises : (a s q r : ℕ) → q * s + r ≡ 10 * a → r < s → s < 2 * r + q % 2 → Nearest a s (q + 1)
rises a s q r e l h =
    let low : q % 2 < 2 = mod-lt q (omega arith) in
    let m = div-add-mod' q 2 in
    record { near = omega arith; even = λ d. (q / 2 + 1, omega arith) }

-- r is less than half of the steps, or just half and q is even
stays : (a s q r : ℕ) → q * s + r ≡ 10 * a → 2 * r + q % 2 ≤ s → Nearest a s q
stays a s q r e h =
    let m = div-add-mod' q 2 in
    record { near = omega arith; even = λ d. (q / 2, omega arith) }

some_figure : (a s f : ℕ) → 0 < s → Nearest a s f → FigureOf a s f
some_figure a zero f l n = absurd (omega arith)
some_figure a (suc k) f l n = n

pub figure_up : (a s : ℕ) → 0 < s → s < 2 * (10 * a % s) + 10 * a / s % 2 → FigureOf a s (10 * a / s + 1)
figure_up a s l h = some_figure a s _ l (rises a s (10 * a / s) (10 * a % s) (div-add-mod' (10 * a) s) (mod-lt (10 * a) l) h)

pub figure_down : (a s : ℕ) → 0 < s → 2 * (10 * a % s) + 10 * a / s % 2 ≤ s → FigureOf a s (10 * a / s)
figure_down a s l h = some_figure a s _ l (stays a s (10 * a / s) (10 * a % s) (div-add-mod' (10 * a) s) h)

by_order : (x y : ℕ) (P : Bool → Type 0) → (x < y → P true) → (y ≤ x → P false) → P (ltb x y)
by_order x y P up down =
    elim (true_or_false (ltb x y)) [
      | inl e ↦ subst P (sym e) (up ((ltb_true x y).0 e))
      | inr e ↦ subst P (sym e) (down ((ltb_false x y).0 e))
    ]

rounded_is : (a s q r : ℕ) → q * s + r ≡ 10 * a → r < s → Nearest a s (rounded q r s)
rounded_is a s q r e l =
    by_order s (2 * r + q % 2) (λ up. Nearest a s (cond up (q + 1) q)) (rises a s q r e l) (stays a s q r e)

quotient_is : (a s : ℕ) → FigureOf a s (quotient a s)
quotient_is a zero = refl
quotient_is a (suc k) =
    rounded_is a (suc k) (10 * a / suc k) (10 * a % suc k) (div-add-mod' (10 * a) (suc k)) (mod-lt (10 * a) (omega arith))

-- the worked numbers
pub twelve_and_a_half : FigureOf 5 4 12
twelve_and_a_half = quotient_is 5 4

pub seventeen_and_a_half : FigureOf 7 4 18
seventeen_and_a_half = quotient_is 7 4

-- ---- there is no other

not_below : (a s f g : ℕ) → 0 < s → Nearest a s f → Nearest a s g → f < g → ⊥
not_below a s f g l n m h =
    let x = n.near in
    let y = m.near in
    let w = mul-le-mul_right s h in
    let e = (n.even (omega arith)).1 in
    let d = (m.even (omega arith)).1 in
    let two : f + 2 ≤ g = omega arith in
    let v = mul-le-mul_right s two in
    omega arith

above_or_below : (f g : ℕ) → g ≢ f → (f < g) ⊎ (g < f)
above_or_below f g d =
    elim (true_or_false (ltb f g)) [
      | inl h ↦ inl ((ltb_true f g).0 h)
      | inr h ↦ let b = (ltb_false f g).0 h in inr (omega arith)
    ]

nearest_one : (a s f g : ℕ) → 0 < s → Nearest a s f → Nearest a s g → f ≡ g
nearest_one a s f g l n m =
    elim (equal_or_not g f) [
      | inl e ↦ sym e
      | inr d ↦ elim (above_or_below f g d) [
        | inl h ↦ absurd (not_below a s f g l n m h)
        | inr h ↦ absurd (not_below a s g f l m n h)
      ]
    ]

figure_one : (a s f g : ℕ) → FigureOf a s f → FigureOf a s g → f ≡ g
figure_one a zero f g n m = n ∙ sym m
figure_one a (suc k) f g n m = nearest_one a (suc k) f g (omega arith) n m

pub figure_exact : (b : List ℕ) (f : ℕ) → (f ≡ figure b) ↔ IsFigure b f
unfolding figure
figure_exact b f =
    let a = length (flat (steps b)) in
    let s = length (restated_steps b) in
    (λ e. subst (FigureOf a s) (sym e) (quotient_is a s), λ h. figure_one a s f (quotient a s) h (quotient_is a s))

pub figure_none : (b : List ℕ) → length (restated_steps b) ≡ 0 → figure b ≡ 0
unfolding figure
figure_none b e = ap (quotient (length (flat (steps b)))) e

-- ---- it is the nearest

-- g and f are different, so what they come to has the distance s or more; and so have the two distances from any third number together
steps_between : (s f g : ℕ) → g ≢ f → s ≤ distance (f * s) (g * s)
steps_between s f g d =
    elim (above_or_below f g d) [
      | inl h ↦ let w = mul-le-mul_right s h in omega arith
      | inr h ↦ let w = mul-le-mul_right s h in omega arith
    ]

by_way_of : (x y z : ℕ) → distance x z ≤ distance y x + distance y z
by_way_of x y z = omega arith

-- of two numbers that make s or more together, one that is at most half of s is the less, or both are half of it
less_or_half : (s p q : ℕ) → 2 * p ≤ s → s ≤ p + q → (p < q) ⊎ ((p ≡ q) × (2 * p ≡ s))
less_or_half s p q h l =
    elim (equal_or_not p q) [
      | inl e ↦ inr (e, omega arith)
      | inr d ↦ inl (omega arith)
    ]

pub nearest_of_all : (a s f g : ℕ) → 0 < s → FigureOf a s f → g ≢ f
    → (distance (10 * a) (f * s) < distance (10 * a) (g * s))
    ⊎ ((distance (10 * a) (f * s) ≡ distance (10 * a) (g * s)) × ((half : ℕ) × (f ≡ 2 * half)))
nearest_of_all a zero f g l n d = absurd (omega arith)
nearest_of_all a (suc k) f g l n d =
    let s = suc k in
    elim (less_or_half s _ _ n.near (le_trans (steps_between s f g d) (by_way_of (f * s) (10 * a) (g * s)))) [
      | inl h ↦ inl h
      | inr e ↦ inr (e.0, n.even e.1)
    ]
