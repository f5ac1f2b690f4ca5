-- V3: what is left of the columns: a column goes on to its next label.
-- Assumes nothing.
use mathlib.Core.Path.{◌≡◌, sym, ap, ◌∙◌, subst}
use mathlib.Core.Logic.{◌≢◌, ◌⊎◌, inl, inr}
use mathlib.Core.List.{List, [], ◌∷◌, cons-ne-nil, Memᴰ}
use Prim.Native.Nat.{ℕ, zero, suc, ◌+◌, ◌≤◌, ◌<◌}
use native.Mathlib.Nat.{lt_of_not-le}
use native.Mathlib.Omega.{arith}
use lib.ListN.{length, drop, get_or, set, replicate, length-set, length-append, length-drop, get_or-eq_default}
use lib.Seq.{get_or-set_same, get_or-set_other}
use Rattle.sets.specs.Lists.{append_all}
use Rattle.sets.specs.Bits.{member}
use Rattle.sets.proofs.Bools.{not_both, iff_bool, equal_or_not}
use Rattle.sets.proofs.Members.{member_zero, member_ext}
use Rattle.sets.proofs.Lists.{last_or_below}
use Rattle.sheet.specs.Bounds.{most_actions}
use Rattle.columns.specs.Merging.{HeadedBy}
use Rattle.merging.specs.legible.Reading.{rest_in}
use Rattle.merging.specs.heads.Heads.{FirstBelow, ShowsFirst, Lined, labels_left, Shown, Everywhere, NoneReady}
use Rattle.merging.proofs.heads.Showing.{shown_none, shown_as, shown_more, head_mem}

-- a column goes on by one label
left_next : (cs : List (List ℕ)) (j : ℕ) → j < length cs → 0 < length (rest_in cs j) → labels_left (set cs j (drop 1 (rest_in cs j))) < labels_left cs
left_next [] j h some = absurd (omega arith)
left_next (c ∷ cs) zero h some =
    omega (arith, length-append (drop 1 c) (append_all cs), length-append c (append_all cs), length-drop 1 c)
left_next (c ∷ cs) (suc j) h some =
    omega (arith, left_next cs j (omega arith) some, length-append c (append_all (set cs j (drop 1 (rest_in cs j)))), length-append c (append_all cs))

-- ---- the columns

module _ (o : List ℕ) (cs : List (List ℕ)) (lined : Lined o cs) where
  -- a column that an action heads is there
  pub headed_inside : (j a : ℕ) → HeadedBy (rest_in cs) j a → j < length cs
  headed_inside j a h = lt_of_not-le (λ (n : length cs ≤ j). cons-ne-nil _ _ (sym h.1 ∙ get_or-eq_default cs [] n))

  -- its first label is the number of an action
  pub first_below : (j : ℕ) → FirstBelow (rest_in cs j)
  first_below j a later e = (lined.own j a (head_mem (rest_in cs) j a (later, e))).0

  module _ (j a : ℕ) (head : HeadedBy (rest_in cs) j a) where
    abbrev next : List (List ℕ)
    next = set cs j (drop 1 (rest_in cs j))

    -- the column goes on
    pub next_part : rest_in next j ≡ drop 1 (rest_in cs j)
    next_part = get_or-set_same cs j (drop 1 (rest_in cs j)) [] (headed_inside j a head)

    pub next_here : rest_in cs j ≡ a ∷ rest_in next j
    next_here = head.1 ∙ ap (λ (l : List ℕ). a ∷ l) (sym (next_part ∙ ap (drop 1) head.1))

    -- and the others stay
    pub next_other : (i : ℕ) → i ≢ j → rest_in next i ≡ rest_in cs i
    next_other i n = get_or-set_other cs j i (drop 1 (rest_in cs j)) [] n

    pub lined_next : Lined o next
    lined_next =
        record {
          sixteen = lined.sixteen;
          few = let l = length-set cs j (drop 1 (rest_in cs j)) in let f = lined.few in omega arith;
          own = λ i b m. lined.own i b (still i b m (equal_or_not i j));
        }
      where
        still : (i b : ℕ) → Memᴰ b (rest_in next i) → (i ≡ j) ⊎ (i ≢ j) → Memᴰ b (rest_in cs i)
        still i b m (inl e) =
            subst (λ (k : ℕ). Memᴰ b (rest_in cs k)) (sym e)
            (subst (λ (l : List ℕ). Memᴰ b l) (sym next_here)
            (Memᴰ.tail (subst (λ (k : ℕ). Memᴰ b (rest_in next k)) e m)))
        still i b m (inr n) = subst (λ (l : List ℕ). Memᴰ b l) (next_other i n) m

    pub fewer_next : labels_left next < labels_left cs
    fewer_next = left_next cs j (headed_inside j a head) (let l = ap length head.1 in omega arith)

-- ---- the components show their first labels one after another

-- the first j have shown it, and now j does
pub shown_next : (o : List ℕ) (cs : List (List ℕ)) → Lined o cs → (j : ℕ) (waiting : List ℕ) (ready : ℕ) (waiting' : List ℕ) (ready' : ℕ)
    → Shown o (rest_in cs) (λ i. i < j) waiting ready → ShowsFirst (rest_in cs j) j o waiting ready waiting' ready'
    → Shown o (rest_in cs) (λ i. i < j + 1) waiting' ready'
shown_next o cs lined j waiting ready waiting' ready' s f =
    shown_as {Has = λ i. (i ≡ j) ⊎ (i < j)} (λ i a. (λ k. (into i k.0, k.1), λ k. (last_or_below j i k.0, k.1)))
    (shown_more o (rest_in cs) (λ i. i < j) j waiting ready waiting' ready' (λ h. absurd (omega (arith, h))) (lined.own j) s f)
  where
    into : (i : ℕ) → (i ≡ j) ⊎ (i < j) → i < j + 1
    into i (inl e) = omega (arith, e)
    into i (inr h) = omega (arith, h)

-- at first none has
pub shown_start : (o : List ℕ) (cs : List (List ℕ)) (waiting : List ℕ) → waiting ≡ replicate most_actions 0
    → Shown o (rest_in cs) (λ i. i < 0) waiting 0
shown_start o cs waiting e =
    rw e (shown_as {Has = λ i. ⊥} (λ i a. (λ k. absurd k.0, λ k. absurd (omega (arith, k.0)))) (shown_none o (rest_in cs)))

-- the others have no label to show
pub shown_everywhere : (o : List ℕ) (cs : List (List ℕ)) (n : ℕ) (waiting : List ℕ) (ready : ℕ) → Lined o cs → n ≡ length cs
    → Shown o (rest_in cs) (λ i. i < n) waiting ready → Shown o (rest_in cs) Everywhere waiting ready
shown_everywhere o cs n waiting ready lined all s =
    shown_as {Has = λ i. i < n} (λ i a. (λ k. (tt, k.1), λ k. (low i a k.1, k.1))) s
  where
    low : (i a : ℕ) → HeadedBy (rest_in cs) i a → i < n
    low i a h = let l = headed_inside o cs lined i a h in omega (arith, all)

-- ---- nothing is ready

-- no action heads the columns of all of its components
pub none_ready : (o : List ℕ) (cs : List (List ℕ)) (waiting : List ℕ) (ready : ℕ) → Lined o cs → Shown o (rest_in cs) Everywhere waiting ready → ready ≡ 0
    → NoneReady o cs
none_ready o cs waiting ready lined shown e a below some all =
    not_both ((shown.told a).1 (below, waiting_all, some)) (ap (λ (x : ℕ). member x a) e ∙ member_zero a)
  where
    waiting_all : get_or waiting a 0 ≡ get_or o a 0
    waiting_all =
        member_ext (get_or waiting a 0) (get_or o a 0) (λ j. iff_bool (member (get_or waiting a 0) j) (member (get_or o a 0) j) (
          λ q. (lined.own j a (head_mem (rest_in cs) j a ((shown.waits a below j).0 q).1)).1,
          λ q. (shown.waits a below j).1 (tt, all j q),
        ))
