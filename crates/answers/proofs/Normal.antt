-- N8: the normal form of an execution's steps, as sets of actions: it is without fault, has the same flat list up to swaps, the same end
-- sets, the fewest steps, and it is the only one that meets the process condition.
-- Assumes nothing.
use mathlib.Core.Path.{◌≡◌, refl, sym, ap, ap₂, ◌∙◌, subst}
use mathlib.Core.Logic.{inl, inr}
use mathlib.Core.Bool.{false}
use mathlib.Core.List.Memᴰ
use mathlib.Core.List.{List, [], ◌∷◌, map, Memᴰ}
use mathlib.Core.Option.{none}
use Prim.Native.Nat.{ℕ, ◌^◌, ◌<◌, ◌≤◌}
use native.Mathlib.Omega.{arith}
use lib.ListN.{length, length-map}
use Rattle.sets.specs.Lists.{append_all}
use Rattle.sets.specs.Bits.{members, set_of}
use Rattle.sets.proofs.Members.{lt_members, members_rising, members_set_of, set_of_member, set_of_members}
use Rattle.traces.specs.Words.{Related}
use Rattle.traces.specs.Steps.{clash, Step, Steps, Process}
use Rattle.traces.specs.Foata.{foata}
use Rattle.traces.proofs.Swaps.{related_sym, related_mem, related_length}
use Rattle.traces.proofs.NormalForm.{foata_related, related_foata, foata_equal, foata_steps, foata_process, foata_unique, foata_fewest}
use Rattle.systems.specs.Tables.{Tables, InOrder}
use Rattle.systems.specs.Independence.{dependent}
use Rattle.systems.specs.Running.{start, fire_all}
use Rattle.systems.specs.Checking.{not_actions, not_apart, first_fault, flat}
use Rattle.systems.proofs.Dependence.{dependent_laws}
use Rattle.systems.proofs.Firing.{Agree, related_fire}
use Rattle.systems.proofs.Faults.{WellFormedSteps, fault_none, related_fault_none}
use Rattle.systems.proofs.Executions.{not_actions_exact, step_mem, flat_below}
pub use Rattle.answers.specs.Restated.{normal}

sets_members : (xs : List ℕ) → ((x : ℕ) → Memᴰ x xs → x < 2 ^ 64) → map set_of (map members xs) ≡ xs
sets_members [] l = refl
sets_members (x ∷ xs) l =
    ap₂ {C = List ℕ} (λ y ys. y ∷ ys) (set_of_members x (l x (Memᴰ.head refl))) (sets_members xs (λ y m. l y (Memᴰ.tail m)))

module _ (T : Tables) (ok : InOrder T) where
  members_sets : (ss : List (List ℕ)) → Steps (dependent T) ss → ((a : ℕ) → Memᴰ a (append_all ss) → a < T.actions)
      → map members (map set_of ss) ≡ ss
  members_sets [] s l = refl
  members_sets (t ∷ ss) s l =
      let f = ok.actions_fit in
      let below : (a : ℕ) → Memᴰ a t → a < 64 = λ a m. let k = l a (Memᴰ.append_left (append_all ss) m) in omega arith in
      ap₂ {C = List (List ℕ)} (λ y ys. y ∷ ys) (members_set_of t s.0.rising below)
      (members_sets ss s.1 (λ a m. l a (Memᴰ.append_right t m)))

  -- a step as a list, made a set, has no fault of its own
  set_formed : (s : List ℕ) → Step (dependent T) s → ((a : ℕ) → Memᴰ a s → a < T.actions)
      → (not_actions T (set_of s) ≡ false) × (not_apart T (set_of s) ≡ false)
  unfolding not_apart
  set_formed [] h l = absurd (h.nonempty refl)
  set_formed (a ∷ s) h l =
      let f = ok.actions_fit in
      let below : (b : ℕ) → Memᴰ b (a ∷ s) → b < 64 = λ b m. let k = l b m in omega arith in (
        (not_actions_exact T (set_of (a ∷ s))).1 ((a, (set_of_member (a ∷ s) a).1 (Memᴰ.head refl)), λ b m. l b ((set_of_member (a ∷ s) b).0 m)),
        ap (clash (dependent T)) (members_set_of (a ∷ s) h.rising below) ∙ h.apart,
      )

  sets_formed : (ss : List (List ℕ)) → Steps (dependent T) ss → ((a : ℕ) → Memᴰ a (append_all ss) → a < T.actions)
      → WellFormedSteps T (map set_of ss)
  sets_formed [] s l x m = absurd (Memᴰ.not-nil m)
  sets_formed (t ∷ ss) s l x m =
      elim (Memᴰ.cases_cons m) [
        | inl e ↦ subst (λ (y : ℕ). (not_actions T y ≡ false) × (not_apart T y ≡ false)) (sym e)
            (set_formed t s.0 (λ a k. l a (Memᴰ.append_left (append_all ss) k)))
        | inr k ↦ sets_formed ss s.1 (λ a n. l a (Memᴰ.append_right t n)) x k
      ]

  -- the steps as lists: not empty, rising, no two actions dependent
  pub formed_steps : (xs : List ℕ) → WellFormedSteps T xs → Steps (dependent T) (map members xs)
  unfolding not_apart
  formed_steps [] f = tt
  formed_steps (x ∷ xs) f =
      let h = f x (Memᴰ.head refl) in
      let a = ((not_actions_exact T x).0 h.0).0 in (
        record {
          nonempty = λ e. Memᴰ.not-nil (subst (λ (l : List ℕ). Memᴰ a.0 l) e ((step_mem T ok x h.0 a.0).1 a.1));
          rising = members_rising x;
          apart = h.1;
        },
        formed_steps xs (λ y m. f y (Memᴰ.tail m)),
      )

  formed_lt : (xs : List ℕ) → WellFormedSteps T xs → (x : ℕ) → Memᴰ x xs → x < 2 ^ 64
  formed_lt xs f x m =
      let k = ok.actions_fit in
      lt_members 64 x (λ a n. let l = ((not_actions_exact T x).0 (f x m).0).1 a n in omega arith)

  module _ (xs : List ℕ) (fine : first_fault T (start T) 0 xs ≡ none) where
    formed : WellFormedSteps T xs
    formed = ((fault_none T (start T) 0 xs).0 fine).0

    normal_below : (a : ℕ) → Memᴰ a (append_all (foata (dependent T) (flat xs))) → a < T.actions
    normal_below a m =
        flat_below T ok xs formed a
        (related_mem (dependent T) (dependent_laws T)
        (related_sym (dependent T) (dependent_laws T) (foata_related (dependent T) (dependent_laws T) (flat xs))) m)

    -- as lists of actions, they are the normal form
    pub normal_members : map members (normal T xs) ≡ foata (dependent T) (flat xs)
    normal_members = members_sets (foata (dependent T) (flat xs)) (foata_steps (dependent T) (dependent_laws T) (flat xs)) normal_below

    pub normal_related : Related (dependent T) (flat xs) (flat (normal T xs))
    normal_related =
        subst (λ (ss : List (List ℕ)). Related (dependent T) (flat xs) (append_all ss)) (sym normal_members)
        (foata_related (dependent T) (dependent_laws T) (flat xs))

    pub normal_formed : WellFormedSteps T (normal T xs)
    normal_formed = sets_formed (foata (dependent T) (flat xs)) (foata_steps (dependent T) (dependent_laws T) (flat xs)) normal_below

    pub normal_lt : (x : ℕ) → Memᴰ x (normal T xs) → x < 2 ^ 64
    normal_lt = formed_lt (normal T xs) normal_formed

    pub normal_fine : first_fault T (start T) 0 (normal T xs) ≡ none
    normal_fine = related_fault_none T (start T) xs (normal T xs) fine normal_formed normal_related

    pub normal_ends : Agree T (fire_all T (start T) (flat xs)) (fire_all T (start T) (flat (normal T xs)))
    normal_ends = related_fire T normal_related (start T)

    pub normal_process : Process (dependent T) (map members (normal T xs))
    normal_process = subst (Process (dependent T)) (sym normal_members) (foata_process (dependent T) (dependent_laws T) (flat xs))

    pub normal_actions : length (flat (normal T xs)) ≡ length (flat xs)
    normal_actions = sym (related_length (dependent T) (dependent_laws T) normal_related)

    pub normal_fewest : (ys : List ℕ) → WellFormedSteps T ys → Related (dependent T) (flat ys) (flat xs) → length (normal T xs) ≤ length ys
    normal_fewest ys f r =
        let least = foata_fewest (dependent T) (dependent_laws T) (map members ys) (flat xs) (formed_steps ys f) r in
        let left = length-map (foata (dependent T) (flat xs)) set_of in
        let right = length-map ys members in
        omega arith

    pub normal_no_longer : length (normal T xs) ≤ length xs
    normal_no_longer = normal_fewest xs formed Related.unchanged

    pub normal_only : Process (dependent T) (map members xs) → normal T xs ≡ xs
    normal_only p =
        ap (map set_of) (foata_unique (dependent T) (dependent_laws T) (map members xs) (formed_steps xs formed) p)
        ∙ sets_members xs (formed_lt xs formed)

  pub related_normal : (xs ys : List ℕ) → Related (dependent T) (flat xs) (flat ys) → normal T xs ≡ normal T ys
  related_normal xs ys r = ap (map set_of) (related_foata (dependent T) (dependent_laws T) r)

  pub normal_equal : (xs ys : List ℕ) → first_fault T (start T) 0 xs ≡ none → first_fault T (start T) 0 ys ≡ none
      → normal T xs ≡ normal T ys → Related (dependent T) (flat xs) (flat ys)
  normal_equal xs ys f g e =
      foata_equal (dependent T) (dependent_laws T) (flat xs) (flat ys) (sym (normal_members xs f) ∙ ap (map members) e ∙ normal_members ys g)
