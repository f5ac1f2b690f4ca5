-- N3: entering components one after another: an action of an alphabet at a time, and then an alphabet at a time.
-- Assumes nothing.
use mathlib.Core.Path.{◌≡◌, sym, ap, ◌∙◌}
use mathlib.Core.Logic.{◌↔◌, ◌≢◌, ◌⊎◌, inl, inr}
use mathlib.Core.Bool.{true, ◌||◌}
use mathlib.Core.List.{List}
use Prim.Native.Nat.{ℕ, suc, ◌≤◌, ◌<◌}
use native.Mathlib.Nat.{lt_of_not-le, lt_of_lt_of_le}
use native.Mathlib.Omega.{arith}
use lib.Dec.{eqb}
use lib.ListN.{length, get_or, set, replicate, get_or-replicate, get_or-eq_default}
use lib.Seq.{get_or-set_same, get_or-set_other}
use Rattle.sets.specs.Bits.{member, with}
use Rattle.sets.specs.Walk.{Takes}
use Rattle.sets.proofs.Bools.{not_both, or_true, eqb_true, equal_or_not}
use Rattle.sets.proofs.Members.{member_zero, member_with, lt_members}
use Rattle.sets.proofs.Walks.{taken_or_left}
use Rattle.systems.specs.Tables.{Tables}
use Rattle.sheet.specs.declared.Component.{Component}
use Rattle.sheet.specs.Sections.{Alphabets, alphabet_at}
use Rattle.dependence.specs.participants.Participants.{participates, Participants, OfSixteen, ComponentEntered}

-- ---- one alphabet, action by action

-- nothing is left to enter
pub entered_none : (left j : ℕ) (found : List ℕ) → left ≡ 0 → length found ≡ 64 → ComponentEntered left j found found
entered_none left j found e size =
    record {
      size = size;
      each = λ a h i. (inl, λ s. elim s [ inl m ↦ m | inr r ↦ absurd (not_both r.1 (ap (λ (x : ℕ). member x a) e ∙ member_zero a)) ]);
    }

module _ (left low rest j : ℕ) (found after : List ℕ) (size : length found ≡ 64) (t : Takes left low rest)
    (v : ℕ) (val : v ≡ with j (get_or found low 0)) (E : ComponentEntered rest j (set found low v) after) where
  inside : low < length found
  inside = let b = t.below in omega arith

  -- the entry of an action, once the lowest was entered
  then : (a i : ℕ) → (member (get_or (set found low v) a 0) i ≡ true) ↔ ((member (get_or found a 0) i ≡ true) ⊎ ((i ≡ j) × (a ≡ low)))
  then a i = go (equal_or_not a low)
    where
      go : (a ≡ low) ⊎ (a ≢ low) → (member (get_or (set found low v) a 0) i ≡ true) ↔ ((member (get_or found a 0) i ≡ true) ⊎ ((i ≡ j) × (a ≡ low)))
      go (inl q) = (
        λ m. there ((or_true (eqb j i) (member (get_or found low 0) i)).0 (sym here ∙ m)),
        λ s. here
            ∙ (or_true (eqb j i) (member (get_or found low 0) i)).1 (back s),
      )
        where
          here : member (get_or (set found low v) a 0) i ≡ (eqb j i || member (get_or found low 0) i)
          here =
              ap (λ (x : ℕ). member x i) (ap (λ (k : ℕ). get_or (set found low v) k 0) q ∙ get_or-set_same found low v 0 inside ∙ val)
              ∙ member_with j (get_or found low 0) i

          there : (eqb j i ≡ true) ⊎ (member (get_or found low 0) i ≡ true) → (member (get_or found a 0) i ≡ true) ⊎ ((i ≡ j) × (a ≡ low))
          there (inl e) = inr (sym ((eqb_true j i).0 e), q)
          there (inr m) = inl (ap (λ (k : ℕ). member (get_or found k 0) i) q ∙ m)

          back : (member (get_or found a 0) i ≡ true) ⊎ ((i ≡ j) × (a ≡ low)) → (eqb j i ≡ true) ⊎ (member (get_or found low 0) i ≡ true)
          back (inl m) = inr (ap (λ (k : ℕ). member (get_or found k 0) i) (sym q) ∙ m)
          back (inr s) = inl ((eqb_true j i).1 (sym s.0))
      go (inr n) = (λ m. inl (sym same ∙ m), λ s. elim s [ inl m ↦ same ∙ m | inr s ↦ absurd (n s.1) ])
        where
          same : member (get_or (set found low v) a 0) i ≡ member (get_or found a 0) i
          same = ap (λ (x : ℕ). member x i) (get_or-set_other found low a v 0 n)

  -- the lowest action was entered, and then the rest
  pub entered_more : ComponentEntered left j found after
  entered_more = record { size = E.size; each = λ a h i. (λ m. there a h i ((E.each a h i).0 m), λ s. (E.each a h i).1 (back a h i s)) }
    where
      there : (a : ℕ) → a < 64 → (i : ℕ) → (member (get_or (set found low v) a 0) i ≡ true) ⊎ ((i ≡ j) × (member rest a ≡ true))
          → (member (get_or found a 0) i ≡ true) ⊎ ((i ≡ j) × (member left a ≡ true))
      there a h i (inr s) = inr (s.0, (taken_or_left t a).1 (inr s.1))
      there a h i (inl m) =
          elim ((then a i).0 m) [ inl p ↦ inl p | inr s ↦ inr (s.0, (taken_or_left t a).1 (inl s.1)) ]

      back : (a : ℕ) → a < 64 → (i : ℕ) → (member (get_or found a 0) i ≡ true) ⊎ ((i ≡ j) × (member left a ≡ true))
          → (member (get_or (set found low v) a 0) i ≡ true) ⊎ ((i ≡ j) × (member rest a ≡ true))
      back a h i (inl m) = inl ((then a i).1 (inl m))
      back a h i (inr s) =
          elim ((taken_or_left t a).0 s.1) [ inl q ↦ inl ((then a i).1 (inr (s.0, q))) | inr m ↦ inr (s.0, m) ]

-- ---- alphabet by alphabet

-- the components below k have been entered, each for the actions of its alphabet in the list l of components
pub record EnteredBelow (l : List Component) (k : ℕ) (found : List ℕ) : Type 0 where
  pub size : length found ≡ 64
  pub each : (a : ℕ) → a < 64 → (j : ℕ) → (participates found j a ≡ true) ↔ ((j < k) × (member (alphabet_at l j) a ≡ true))

-- no component has been entered
pub below_zero : (l : List Component) (found : List ℕ) → found ≡ replicate 64 0 → EnteredBelow l 0 found
below_zero l found e =
    record {
      size = ap length e;
      each = λ a h j. (
        λ m. absurd (not_both m (ap (λ (o : List ℕ). member (get_or o a 0) j) e ∙ ap (λ (x : ℕ). member x j) (get_or-replicate 64 a 0 0 h)
            ∙ member_zero j)),
        λ s. absurd (omega arith),
      );
    }

module _ (l : List Component) (j k : ℕ) (e : k ≡ suc j) (found after : List ℕ) (O : EnteredBelow l j found)
    (E : ComponentEntered (alphabet_at l j) j found after) where
  -- one alphabet more
  pub below_more : EnteredBelow l k after
  below_more = record { size = E.size; each = λ a h i. (λ m. there a h i ((E.each a h i).0 m), λ s. (E.each a h i).1 (back a h i s.0 s.1)) }
    where
      there : (a : ℕ) → a < 64 → (i : ℕ) → (member (get_or found a 0) i ≡ true) ⊎ ((i ≡ j) × (member (alphabet_at l j) a ≡ true))
          → (i < k) × (member (alphabet_at l i) a ≡ true)
      there a h i (inl m) = let r = (O.each a h i).0 m in (omega arith, r.1)
      there a h i (inr s) = let q = s.0 in (omega arith, ap (λ (x : ℕ). member (alphabet_at l x) a) q ∙ s.1)

      back : (a : ℕ) → a < 64 → (i : ℕ) → i < k → member (alphabet_at l i) a ≡ true
          → (member (get_or found a 0) i ≡ true) ⊎ ((i ≡ j) × (member (alphabet_at l j) a ≡ true))
      back a h i b m = go (equal_or_not i j)
        where
          go : (i ≡ j) ⊎ (i ≢ j) → (member (get_or found a 0) i ≡ true) ⊎ ((i ≡ j) × (member (alphabet_at l j) a ≡ true))
          go (inl q) = inr (q, ap (λ (x : ℕ). member (alphabet_at l x) a) (sym q) ∙ m)
          go (inr n) = inl ((O.each a h i).1 (omega arith, m))

-- all components have been entered, by the alphabets of the tables
pub participants_made : (T : Tables) (l : List Component) (found : List ℕ) → Alphabets T l → EnteredBelow l (length l) found → Participants T found
participants_made T l found A O =
    record {
      size = O.size;
      each = λ a h j. (
        λ m. let r = (O.each a h j).0 m in (let e = A.count in omega arith, sym (has a j r.0) ∙ r.1),
        λ s. let b : j < length l = let e = A.count in omega arith in (O.each a h j).1 (b, has a j b ∙ s.1),
      );
    }
  where
    has : (a j : ℕ) → j < length l → member (alphabet_at l j) a ≡ member (T.alphabet j) a
    has a j h = ap (λ (x : ℕ). member x a) (A.each j h)

-- ---- what participants are

module _ (T : Tables) (o : List ℕ) (O : Participants T o) where
  -- only an action has participants
  pub participants_action : (a j : ℕ) → participates o j a ≡ true → a < 64
  participants_action a j m =
      lt_of_not-le (λ (h : 64 ≤ a). not_both m (ap (λ (x : ℕ). member x j) (get_or-eq_default o 0 (let q = O.size in omega arith))
      ∙ member_zero j))

  -- of at most 16 components
  pub participants_sixteen : T.components ≤ 16 → OfSixteen o
  participants_sixteen few =
      record {
        size = O.size;
        small = λ a. lt_members 16 (get_or o a 0) (λ j m. lt_of_lt_of_le ((O.each a (participants_action a j m) j).0 m).0 few);
      }
