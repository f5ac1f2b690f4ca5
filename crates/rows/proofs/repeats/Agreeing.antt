-- R16: one component compared, row after row: a row keeps those of its earlier rows that stand in the table under its own number.
-- Assumes nothing.
use mathlib.Core.Path.{◌≡◌, sym, ap, ◌∙◌}
use mathlib.Core.Logic.{◌↔◌, ◌⊎◌, inl, inr}
use mathlib.Core.Bool.{true, false}
use mathlib.Core.List.{List}
use Prim.Native.Nat.{ℕ, ◌+◌, ◌≤◌, ◌<◌}
use native.Mathlib.Omega.{arith}
use lib.Bits.{bit_and}
use lib.Dec.{eqb}
use lib.ListN.{length, get_or, set, length-set, replicate, length-replicate, get_or-replicate}
use lib.Seq.{get_or-set_same, get_or-set_other}
use Rattle.sets.specs.Bits.{member, with}
use Rattle.sets.proofs.Bools.{true_or_false, not_both, and_true, or_true, eqb_true, eqb_false}
use Rattle.sets.proofs.Lists.{last_or_below}
use Rattle.sets.proofs.Members.{member_zero, member_with, member_and}
use Rattle.products.specs.ProductBytes.{entry}
use Rattle.rows.specs.repeats.Earlier.{AgreeOn, EarlierAgree}

-- the rows before g are compared in component j, and stand in the table by their numbers; the others are still to be compared
pub record Compared (b : List ℕ) (m j g : ℕ) (same seen : List ℕ) : Type 0 where
  pub size : length same ≡ m
  pub done : (i h : ℕ) → i < g → (member (get_or same i 0) h ≡ true) ↔ ((h < i) × AgreeOn b (j + 1) i h)
  pub left : (i h : ℕ) → g ≤ i → i < m → (member (get_or same i 0) h ≡ true) ↔ ((h < i) × AgreeOn b j i h)
  pub wide : length seen ≡ 256
  pub table : (x h : ℕ) → x < 256 → (member (get_or seen x 0) h ≡ true) ↔ ((h < g) × (entry b h j ≡ x))

pub compared_none : (b : List ℕ) (m j : ℕ) (same seen : List ℕ) → length same ≡ m → EarlierAgree b j same → seen ≡ replicate 256 0
    → Compared b m j 0 same seen
compared_none b m j same seen f E e =
    record {
      size = f;
      done = λ i h l. absurd (omega arith);
      left = λ i h k l. E.exact i h (omega arith);
      wide = ap length e ∙ length-replicate {A = ℕ} 256 0;
      table = λ x h l. (
        λ t. absurd (not_both t (ap (λ (y : ℕ). member y h) (blank x l) ∙ member_zero h)),
        λ r. let k = r.0 in absurd (omega arith),
      );
    }
  where
    blank : (x : ℕ) → x < 256 → get_or seen x 0 ≡ 0
    blank x l = ap (λ (s : List ℕ). get_or s x 0) e ∙ get_or-replicate {A = ℕ} 256 x 0 0 l

-- agreement in one component more
agree_more : (b : List ℕ) (j g h : ℕ) → AgreeOn b j g h → entry b h j ≡ entry b g j → AgreeOn b (j + 1) g h
agree_more b j g h all e i l = go (last_or_below j i l)
  where
    go : (i ≡ j) ⊎ (i < j) → entry b h i ≡ entry b g i
    go (inl q) = ap (entry b h) q ∙ e ∙ ap (entry b g) (sym q)
    go (inr k) = all i k

module _ (b : List ℕ) (m j g x : ℕ) (same seen : List ℕ) (C : Compared b m j g same seen) (l : g < m) (few : m ≤ 64)
    (e : x ≡ entry b g j) (small : x < 256) where
  -- the earlier rows of row g so far, and the rows passed that have its number
  abbrev earlier : ℕ
  earlier = get_or same g 0

  abbrev alike : ℕ
  alike = get_or seen x 0

  kept : ℕ
  kept = bit_and earlier alike

  abbrev put : List ℕ
  put = set seen x (with g alike)

  kept_exact : (h : ℕ) → (member kept h ≡ true) ↔ ((h < g) × AgreeOn b (j + 1) g h)
  unfolding kept
  kept_exact h = (
    λ t.
        let both = (and_true (member earlier h) (member alike h)).0 (sym (member_and earlier alike h) ∙ t) in
        let a = (C.left g h (omega arith) l).0 both.0 in
        let n = (C.table x h small).0 both.1 in
        (a.0, agree_more b j g h a.1 (n.1 ∙ e)),
    λ r.
        member_and earlier alike h
        ∙ (and_true (member earlier h) (member alike h)).1 (
          (C.left g h (omega arith) l).1 (r.0, λ i k. r.1 i (omega arith)),
          (C.table x h small).1 (r.0, r.1 j (omega arith) ∙ sym e),
        ),
  )

  put_exact : (y h : ℕ) → y < 256 → (member (get_or put y 0) h ≡ true) ↔ ((h < g + 1) × (entry b h j ≡ y))
  put_exact y h k = go (true_or_false (eqb y x))
    where
      other : eqb y x ≡ false → get_or put y 0 ≡ get_or seen y 0
      other f = get_or-set_other seen x y (with g alike) 0 ((eqb_false y x).0 f)

      here : eqb y x ≡ true → get_or put y 0 ≡ with g alike
      here f =
          ap (λ (z : ℕ). get_or put z 0) ((eqb_true y x).0 f)
          ∙ get_or-set_same seen x (with g alike) 0 (let w = C.wide in omega arith)

      go : (eqb y x ≡ true) ⊎ (eqb y x ≡ false) → (member (get_or put y 0) h ≡ true) ↔ ((h < g + 1) × (entry b h j ≡ y))
      go (inl f) = (
        λ t. to ((or_true (eqb g h) (member alike h)).0 (sym (member_with g alike h) ∙ ap (λ (z : ℕ). member z h) (sym (here f)) ∙ t)),
        λ r.
            ap (λ (z : ℕ). member z h) (here f) ∙ member_with g alike h
            ∙ (or_true (eqb g h) (member alike h)).1 (from r (last_or_below g h r.0)),
      )
        where
          same_place : y ≡ x
          same_place = (eqb_true y x).0 f

          to : (eqb g h ≡ true) ⊎ (member alike h ≡ true) → (h < g + 1) × (entry b h j ≡ y)
          to (inl q) = let z = (eqb_true g h).0 q in (omega arith, ap (λ (i : ℕ). entry b i j) (sym z) ∙ sym e ∙ sym same_place)
          to (inr t) = let r = (C.table x h small).0 t in (let z = r.0 in omega arith, r.1 ∙ sym same_place)

          from : (h < g + 1) × (entry b h j ≡ y) → (h ≡ g) ⊎ (h < g) → (eqb g h ≡ true) ⊎ (member alike h ≡ true)
          from r (inl q) = inl ((eqb_true g h).1 (sym q))
          from r (inr z) = inr ((C.table x h small).1 (z, r.1 ∙ same_place))
      go (inr f) = (
        λ t. let r = (C.table y h k).0 (ap (λ (z : ℕ). member z h) (sym (other f)) ∙ t) in (let z = r.0 in omega arith, r.1),
        λ r. ap (λ (z : ℕ). member z h) (other f) ∙ from r (last_or_below g h r.0),
      )
        where
          from : (h < g + 1) × (entry b h j ≡ y) → (h ≡ g) ⊎ (h < g) → member (get_or seen y 0) h ≡ true
          from r (inl q) = absurd ((eqb_false y x).0 f (sym r.1 ∙ ap (λ (i : ℕ). entry b i j) q ∙ sym e))
          from r (inr z) = (C.table y h k).1 (z, r.1)

  pub compared_more : Compared b m j (g + 1) (set same g (bit_and (get_or same g 0) (get_or seen x 0))) (set seen x (with g (get_or seen x 0)))
  unfolding kept
  compared_more =
      record {
        size = length-set same g kept ∙ C.size;
        done = λ i h k. done i h (last_or_below g i k);
        left = λ i h k n.
            rw (get_or-set_other same g i kept 0 (λ q. absurd (omega arith))) (C.left i h (omega arith) n);
        wide = length-set seen x (with g alike) ∙ C.wide;
        table = put_exact;
      }
    where
      done : (i h : ℕ) → (i ≡ g) ⊎ (i < g) → (member (get_or (set same g kept) i 0) h ≡ true) ↔ ((h < i) × AgreeOn b (j + 1) i h)
      done i h (inl q) = rw q (rw (get_or-set_same same g kept 0 (let z = C.size in omega arith)) (kept_exact h))
      done i h (inr k) = rw (get_or-set_other same g i kept 0 (λ q. absurd (omega arith))) (C.done i h k)

pub compared_all : (b : List ℕ) (m j g : ℕ) (same seen : List ℕ) → Compared b m j g same seen → m ≤ g → EarlierAgree b (j + 1) same
compared_all b m j g same seen C k = record { exact = λ i h l. C.done i h (let e = C.size in omega arith) }
