-- N6: the union of the alphabets that have an action of a set, alphabet by alphabet; and a step that follows another where such a union,
-- made of the step before, has every action of it.
-- Assumes nothing.
use mathlib.Core.Path.{◌≡◌, sym, ap, ◌∙◌}
use mathlib.Core.Logic.{◌⊎◌, inl, inr}
use mathlib.Core.Bool.{Bool, true, ◌||◌}
use mathlib.Core.List.{List, Memᴰ}
use Prim.Native.Nat.{ℕ, ◌+◌, ◌^◌, ◌<◌}
use native.Mathlib.Nat.{eq-or-lt_of_le}
use native.Mathlib.Omega.{arith}
use lib.Dec.{eqb}
use lib.Bits.{bit_or}
use Rattle.sets.specs.Lists.{any_of}
use Rattle.sets.specs.Bits.{member, members}
use Rattle.sets.proofs.Bools.{not_both, iff_bool, or_true, eqb_true}
use Rattle.sets.proofs.Lists.{all_of_intro, all_of_elim}
use Rattle.sets.proofs.Members.{member_zero, member_or, member_ext, member_lt, members_mem}
use Rattle.traces.specs.Steps.{follows}
use Rattle.sheet.specs.declared.Component.{Component}
use Rattle.sheet.specs.Sections.{alphabet_at}
use Rattle.dependence.proofs.Dependence.{where_met, UnionMet}

module _ (l : List Component) (y : ℕ) where
  pub union_none : UnionMet l 0 y 0
  union_none a = (λ m. absurd (not_both m (member_zero a)), λ m. let h = m.1 in absurd (omega arith))

  -- one alphabet more
  pub union_more : (k r m : ℕ) → UnionMet l k y r → m ≡ where_met (alphabet_at l k) y → UnionMet l (k + 1) y (bit_or r m)
  union_more k r m U e a = (
    λ h. there ((or_true (member r a) (member (where_met (alphabet_at l k) y) a)).0 (sym both ∙ h)),
    λ t. both ∙ (or_true (member r a) (member (where_met (alphabet_at l k) y) a)).1 (back t (eq-or-lt_of_le (let b = t.1 in omega arith))),
  )
    where
      both : member (bit_or r m) a ≡ (member r a || member (where_met (alphabet_at l k) y) a)
      both = member_or r m a ∙ ap (λ (z : ℕ). member r a || member z a) e

      there : (member r a ≡ true) ⊎ (member (where_met (alphabet_at l k) y) a ≡ true) → (j : ℕ) × (j < k + 1) × (member (where_met (alphabet_at l j) y) a ≡ true)
      there (inl h) = let s = (U a).0 h in (s.0, (let b = s.1 in omega arith), s.2)
      there (inr h) = (k, omega arith, h)

      back : (t : (j : ℕ) × (j < k + 1) × (member (where_met (alphabet_at l j) y) a ≡ true)) → (t.0 ≡ k) ⊎ (t.0 < k)
          → (member r a ≡ true) ⊎ (member (where_met (alphabet_at l k) y) a ≡ true)
      back t (inl q) = inr (ap (λ (j : ℕ). member (where_met (alphabet_at l j) y) a) (sym q) ∙ t.2)
      back t (inr q) = inl ((U a).1 (t.0, q, t.2))

-- r has those actions of the step y that depend on some action of the step x
module _ (dep : ℕ → ℕ → Bool) (x y r : ℕ) (fits : y < 2 ^ 64)
    (exact : (a : ℕ) → Memᴰ a (members y) → member r a ≡ any_of (dep a) (members x)) where
  within : bit_or y r ≡ r → (a : ℕ) → Memᴰ a (members y) → any_of (dep a) (members x) ≡ true
  within e a m =
      sym (exact a m) ∙ ap (λ (z : ℕ). member z a) (sym e) ∙ member_or y r a
      ∙ (or_true (member y a) (member r a)).1 (inl ((members_mem y a).0 m).1)

  pub follows_union : eqb (bit_or y r) r ≡ follows dep (members x) (members y)
  follows_union = iff_bool (eqb (bit_or y r) r) (follows dep (members x) (members y)) (
    λ e. all_of_intro (λ a. any_of (dep a) (members x)) (members y) (within ((eqb_true (bit_or y r) r).0 e)),
    λ f. (eqb_true (bit_or y r) r).1 (member_ext (bit_or y r) r (λ a. iff_bool (member (bit_or y r) a) (member r a) (
      λ m. go f a ((or_true (member y a) (member r a)).0 (sym (member_or y r a) ∙ m)),
      λ m. member_or y r a ∙ (or_true (member y a) (member r a)).1 (inr m),
    ))),
  )
    where
      go : follows dep (members x) (members y) ≡ true → (a : ℕ) → (member y a ≡ true) ⊎ (member r a ≡ true) → member r a ≡ true
      go f a (inl h) =
          let m = (members_mem y a).1 (member_lt 64 y a fits h, h) in
          exact a m ∙ all_of_elim (λ a. any_of (dep a) (members x)) (members y) f a m
      go f a (inr h) = h
