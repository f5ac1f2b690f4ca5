-- N3: each test of the code is the one definition of dependence, `dependent` (systems, Independence): by alphabets (refusal 11), by the
-- union of the alphabets that a step meets (the process condition), by participants (the level of an action).
-- Whoever changes the definition has to prove anew what stands here and in systems/proofs/Dependence, and to say anew what speaks of a
-- shared alphabet; no other proof looks inside it but the worked examples, which compute everything (answers/proofs/Starred).
-- Assumes nothing.
use mathlib.Core.Path.{◌≡◌, refl, sym, ap, ap₂, ◌∙◌, fun_ext}
use mathlib.Core.Logic.{◌↔◌, inr}
use mathlib.Core.Bool.{Bool, true, false, cond}
use mathlib.Core.List.{List, [], ◌∷◌, Memᴰ}
use Prim.Native.Nat.{ℕ, ◌^◌, ◌≤◌, ◌<◌, max}
use native.Mathlib.Nat.{lt_of_lt_of_le}
use native.Mathlib.Omega.{arith}
use lib.Dec.{eqb}
use lib.Bits.{bit_and}
use lib.ListN.{length, get_or}
use Rattle.sets.specs.Lists.{any_of, Distinct}
use Rattle.sets.specs.Bits.{member, members}
use Rattle.sets.proofs.Bools.{not_both, iff_bool, and_true, eqb_true, eqb_false}
use Rattle.sets.proofs.Lists.{any_of_intro, any_of_elim, none_false}
use Rattle.sets.proofs.Members.{member_zero, member_and, member_some, member_lt, members_mem, members_distinct}
use Rattle.traces.specs.Foata.{further, reach}
use Rattle.traces.proofs.Reach.{reach_or}
use Rattle.systems.specs.Tables.{Tables, InOrder}
use Rattle.systems.specs.Independence.{dependent}
use Rattle.systems.specs.Checking.{not_apart}
use Rattle.systems.proofs.Dependence.{ShareAlphabet, OneEach, dependent_cases, dependent_shares, clash_exact}
use Rattle.sheet.specs.declared.Component.{Component}
use Rattle.sheet.specs.Sections.{Alphabets, alphabet_at}
use Rattle.dependence.specs.participants.Participants.{participates, Participants, OfSixteen}
use Rattle.dependence.specs.participants.Levels.{largest}
use Rattle.dependence.proofs.participants.Entering.{participants_action}

-- ---- by alphabets: two actions of a step in one of them (document 01, refusal 11)

short_same : (l : List ℕ) → length l ≤ 1 → {a b : ℕ} → Memᴰ a l → Memᴰ b l → a ≡ b
short_same (x ∷ []) h {a = a} {b = b} (mathlib.Core.List.Memᴰ.head p) (mathlib.Core.List.Memᴰ.tail x19) = elim x19 [ ]
short_same (x ∷ []) h {a = a} {b = b} (mathlib.Core.List.Memᴰ.tail x18) n = elim x18 [ ]
short_same [] h {a = a} {b = b} m n = elim m [ ]
short_same (x ∷ []) h (Memᴰ.head p) (Memᴰ.head q) = p ∙ sym q
short_same (x ∷ y ∷ l) h m n = absurd (omega arith)

alike_short : (l : List ℕ) → Distinct l → ((a b : ℕ) → Memᴰ a l → Memᴰ b l → a ≡ b) → length l ≤ 1
alike_short [] d h = omega arith
alike_short (x ∷ []) d h = omega arith
alike_short (x ∷ y ∷ l) d h = absurd (d.0 (Memᴰ.head (h x y (Memᴰ.head refl) (Memᴰ.tail (Memᴰ.head refl)))))

both_mem : (x y a : ℕ) → Memᴰ a (members (bit_and x y)) ↔ (Memᴰ a (members x) × (member y a ≡ true))
both_mem x y a = (
  λ m.
      let r = (members_mem (bit_and x y) a).0 m in
      let s = (and_true (member x a) (member y a)).0 (sym (member_and x y a) ∙ r.1) in
      ((members_mem x a).1 (r.0, s.0), s.1),
  λ h.
      let r = (members_mem x a).0 h.0 in
      (members_mem (bit_and x y) a).1 (r.0, member_and x y a ∙ (and_true (member x a) (member y a)).1 (r.1, h.1)),
)

module _ (T : Tables) (l : List Component) (A : Alphabets T l) where
  -- N3, R11: no two actions of a step are dependent exactly when no alphabet has two of them
  pub clash_alphabets : (x : ℕ) → (not_apart T x ≡ false) ↔ ((j : ℕ) → j < length l → length (members (bit_and x (alphabet_at l j))) ≤ 1)
  unfolding not_apart
  clash_alphabets x =
      let c = clash_exact T (members x) (members_distinct x) in
      (λ f j h. alike_short (here j) (members_distinct _) (one (c.0 f) j h), λ few. c.1 (each few))
    where
      here : ℕ → List ℕ
      here j = members (bit_and x (alphabet_at l j))

      at : (j : ℕ) → j < length l → (a : ℕ) → Memᴰ a (here j) ↔ (Memᴰ a (members x) × (member (T.alphabet j) a ≡ true))
      at j h a = rw (← A.each j h) (both_mem x (alphabet_at l j) a)

      one : OneEach T (λ a. Memᴰ a (members x)) → (j : ℕ) → j < length l → (a b : ℕ) → Memᴰ a (here j) → Memᴰ b (here j) → a ≡ b
      one o j h a b p q =
          let s = (at j h a).0 p in
          let t = (at j h b).0 q in
          o j (let e = A.count in omega arith) a b s.0 t.0 s.1 t.1

      each : ((j : ℕ) → j < length l → length (here j) ≤ 1) → OneEach T (λ a. Memᴰ a (members x))
      each few j h a b p q s t =
          let k : j < length l = let e = A.count in omega arith in
          short_same (here j) (few j k) ((at j k a).1 (p, s)) ((at j k b).1 (q, t))

-- ---- by the union of the alphabets that a step meets (001, definition 8)

-- the alphabet x where it has an action of the set y, else the empty set
abbrev pub where_met : ℕ → ℕ → ℕ
where_met x y = cond (eqb (bit_and x y) 0) 0 x

-- r is the union of the first k alphabets of the list, each where it has an action of the set y
abbrev pub UnionMet : List Component → ℕ → ℕ → ℕ → Type 0
UnionMet l k y r = (a : ℕ) → (member r a ≡ true) ↔ ((j : ℕ) × (j < k) × (member (where_met (alphabet_at l j) y) a ≡ true))

-- an action that two sets share
abbrev Common : ℕ → ℕ → Type 0
Common x y = (b : ℕ) × (member x b ≡ true) × (member y b ≡ true)

met_exact : (x y a : ℕ) → (member (where_met x y) a ≡ true) ↔ ((member x a ≡ true) × Common x y)
met_exact x y a = go (eqb (bit_and x y) 0) refl
  where
    common : eqb (bit_and x y) 0 ≡ false → Common x y
    common e =
        let r = member_some (bit_and x y) ((eqb_false (bit_and x y) 0).0 e) in
        let m = (and_true (member x r.0) (member y r.0)).0 (sym (member_and x y r.0) ∙ r.1) in
        (r.0, m.0, m.1)

    none_common : eqb (bit_and x y) 0 ≡ true → Common x y → ⊥
    none_common e m =
        not_both (member_and x y m.0 ∙ (and_true _ _).1 (m.1, m.2))
        (ap (λ (z : ℕ). member z m.0) ((eqb_true (bit_and x y) 0).0 e) ∙ member_zero m.0)

    go : (e : Bool) → eqb (bit_and x y) 0 ≡ e → (member (cond e 0 x) a ≡ true) ↔ ((member x a ≡ true) × Common x y)
    go true e = (λ m. absurd (not_both m (member_zero a)), λ m. absurd (none_common e m.1))
    go false e = (λ m. (m, common e), λ m. m.0)

module _ (T : Tables) (order : InOrder T) (l : List Component) (A : Alphabets T l) where
  -- N3: the union has just the actions that depend on some action of the set
  pub union_depends : (y r : ℕ) → y < 2 ^ 64 → UnionMet l (length l) y r → (a : ℕ) → a < T.actions → member r a ≡ any_of (dependent T a) (members y)
  union_depends y r fits U a below = iff_bool (member r a) (any_of (dependent T a) (members y)) (there, back)
    where
      has : (j b : ℕ) → j < length l → member (alphabet_at l j) b ≡ member (T.alphabet j) b
      has j b h = ap (λ (x : ℕ). member x b) (A.each j h)

      there : member r a ≡ true → any_of (dependent T a) (members y) ≡ true
      there m =
          let u = (U a).0 m in
          let j = u.0 in
          let s = (met_exact (alphabet_at l j) y a).0 u.2 in
          let b = s.1.0 in
          let h : j < T.components = let k = u.1 in let e = A.count in omega arith in
          any_of_intro (dependent T a) (members y) {x = b} ((members_mem y b).1 (member_lt 64 y b fits s.1.2, s.1.2))
          ((dependent_cases T a b).1 (inr (j, h, sym (has j a u.1) ∙ s.0, sym (has j b u.1) ∙ s.1.1)))

      back : any_of (dependent T a) (members y) ≡ true → member r a ≡ true
      back e =
          let s = any_of_elim (dependent T a) (members y) e in
          let b = s.0 in
          let t = (dependent_shares T a b (order.action_used a below)).0 s.2 in
          let h : t.0 < length l = let k = t.1 in let e = A.count in omega arith in
          (U a).1 (
            t.0,
            h,
            (met_exact (alphabet_at l t.0) y a).1
                (has t.0 a h ∙ t.2, (b, has t.0 b h ∙ t.3, ((members_mem y b).0 s.1).1)),
          )

-- ---- by participants (002), for the level of an action in the normal form (traces, Foata)

reach_never : (ss : List (List ℕ)) → reach (λ b. false) ss ≡ 0
reach_never [] = refl
reach_never (s ∷ ss) = ap₂ further (none_false (λ b. false) s (λ x m. refl)) (reach_never ss)

-- the steps reached by one of some components, by the last step of each
reach_largest : (o last : List ℕ) (ss : List (List ℕ)) (js : List ℕ) → ((j : ℕ) → Memᴰ j js → get_or last j 0 ≡ reach (participates o j) ss)
    → reach (λ b. any_of (λ j. participates o j b) js) ss ≡ largest last js
reach_largest o last ss [] h = reach_never ss
reach_largest o last ss (j ∷ js) h =
    reach_or (participates o j) (λ b. any_of (λ j. participates o j b) js) ss
    ∙ ap₂ max (sym (h j (Memᴰ.head refl))) (reach_largest o last ss js (λ i m. h i (Memᴰ.tail m)))

module _ (T : Tables) (order : InOrder T) (o : List ℕ) (fit : OfSixteen o) (O : Participants T o) (a : ℕ) (below : a < T.actions) where
  -- N3: an action depends on just those with which it has a participant in common
  pub depends_participants : (b : ℕ) → dependent T a b ≡ any_of (λ j. participates o j b) (members (get_or o a 0))
  depends_participants b =
      iff_bool (dependent T a b) (any_of (λ j. participates o j b) (members (get_or o a 0))) (
        λ h. there ((dependent_shares T a b (order.action_used a below)).0 h),
        λ h. back (any_of_elim (λ j. participates o j b) (members (get_or o a 0)) h),
      )
    where
      action : (c j : ℕ) → j < T.components → member (T.alphabet j) c ≡ true → c < 64
      action c j h m = lt_of_lt_of_le (order.action_below j h c m) order.actions_fit

      there : ShareAlphabet T a b → any_of (λ j. participates o j b) (members (get_or o a 0)) ≡ true
      there s =
          let j = s.0 in
          let m = (O.each a (action a j s.1 s.2) j).1 (s.1, s.2) in
          let low = member_lt 16 (get_or o a 0) j (fit.small a) m in
          any_of_intro (λ j. participates o j b) (members (get_or o a 0)) ((members_mem (get_or o a 0) j).1 (omega arith, m))
          ((O.each b (action b j s.1 s.3) j).1 (s.1, s.3))

      back : (j : ℕ) × Memᴰ j (members (get_or o a 0)) × (participates o j b ≡ true) → dependent T a b ≡ true
      back s =
          let j = s.0 in
          let m = ((members_mem (get_or o a 0) j).0 s.1).1 in
          let p = (O.each a (participants_action T o O a j m) j).0 m in
          let q = (O.each b (participants_action T o O b j s.2) j).0 s.2 in
          (dependent_cases T a b).1 (inr (j, p.0, p.1, q.1))

  -- N3: the level of an action, one past the last step with an action that it depends on, is the largest last step of its participants
  pub level_reach : (last : List ℕ) (ss : List (List ℕ)) → ((j : ℕ) → j < 16 → get_or last j 0 ≡ reach (participates o j) ss)
      → largest last (members (get_or o a 0)) ≡ reach (dependent T a) ss
  level_reach last ss shown =
      sym (ap (λ (p : ℕ → Bool). reach p ss) (fun_ext depends_participants)
      ∙ reach_largest o last ss (members (get_or o a 0)) (λ j m. shown j (mine j m)))
    where
      mine : (j : ℕ) → Memᴰ j (members (get_or o a 0)) → j < 16
      mine j m = member_lt 16 (get_or o a 0) j (fit.small a) ((members_mem (get_or o a 0) j).0 m).1
