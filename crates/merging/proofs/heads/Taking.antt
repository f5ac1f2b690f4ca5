-- V3: a ready action is taken from the columns of its components, one component after another: what the loop of `take_action` keeps.
-- Assumes nothing.
use mathlib.Core.Path.{◌≡◌, refl, sym, ap, ◌∙◌, subst}
use mathlib.Core.Logic.{◌≢◌, ◌⊎◌, inl, inr}
use mathlib.Core.Bool.{Bool, true, false, cond}
use mathlib.Core.List.{List}
use Prim.Native.Nat.{ℕ, ◌≤◌, ◌<◌}
use native.Mathlib.Nat.{lt_of_lt_of_le}
use native.Mathlib.Omega.{arith}
use lib.ListN.{length, drop, get_or, set}
use Rattle.sets.specs.Bits.{member, with}
use Rattle.sets.specs.Walk.{Takes}
use Rattle.sets.proofs.Bools.{not_both, false_iff, equal_or_not}
use Rattle.sets.proofs.Members.{member_zero}
use Rattle.sheet.specs.Bounds.{most_actions}
use Rattle.dependence.specs.participants.Participants.{participates}
use Rattle.merging.specs.legible.Reading.{rest_in}
use Rattle.columns.specs.Merging.{HeadedBy}
use Rattle.merging.specs.heads.Heads.{FirstBelow, ShowsFirst, Lined, labels_left, Shown, Everywhere, TakenShown}
use Rattle.merging.proofs.heads.Showing.{shown_as, shown_more, ready_some, ready_heads, shown_left}
use Rattle.merging.proofs.heads.Lining.{headed_inside, first_below, next_part, next_other, lined_next, fewer_next}

-- the action a is taken from the columns of its components but of those that are left
pub record TakenBut (o : List ℕ) (a : ℕ) (cs₀ cs : List (List ℕ)) (waiting : List ℕ) (ready left : ℕ) : Type 0 where
  pub lined : Lined o cs
  pub shown : Shown o (rest_in cs) (λ i. member left i ≡ false) waiting ready
  pub some : get_or o a 0 ≢ 0
  pub was_head : (i : ℕ) → participates o i a ≡ true → HeadedBy (rest_in cs₀) i a
  pub own : (i : ℕ) → member left i ≡ true → participates o i a ≡ true
  pub still : (i : ℕ) → member left i ≡ true → rest_in cs i ≡ rest_in cs₀ i
  pub moved : (i : ℕ) → member left i ≡ false
      → rest_in cs i ≡ cond (participates o i a) (drop 1 (rest_in cs₀ i)) (rest_in cs₀ i)
  pub no_more : labels_left cs ≤ labels_left cs₀
  pub fewer : left ≢ get_or o a 0 → labels_left cs < labels_left cs₀

less_le : {x y z : ℕ} → x < y → y ≤ z → x ≤ z
less_le h l = omega arith

-- before the first component
pub taken_none : (o : List ℕ) (a : ℕ) (cs : List (List ℕ)) (waiting : List ℕ) (others : ℕ) → Lined o cs → a < most_actions
    → member others a ≡ false → Shown o (rest_in cs) Everywhere waiting (with a others)
    → TakenBut o a cs cs (set waiting a 0) others (get_or o a 0)
taken_none o a cs waiting others lined below gone s =
    record {
      lined = lined;
      shown = shown_left o (rest_in cs) waiting a others below lined.own s gone;
      some = ready_some o (rest_in cs) waiting a others below lined.own s;
      was_head = ready_heads o (rest_in cs) waiting a others below lined.own s;
      own = λ i m. m;
      still = λ i m. refl;
      moved = λ i f. sym (ap (λ (t : Bool). cond t (drop 1 (rest_in cs i)) (rest_in cs i)) f);
      no_more = omega arith;
      fewer = λ n. absurd (n refl);
    }

module _ (o : List ℕ) (a : ℕ) (cs₀ cs : List (List ℕ)) (waiting : List ℕ) (ready left j after : ℕ)
    (t : TakenBut o a cs₀ cs waiting ready left) (took : Takes left j after) where
  -- its column still begins with the action
  pub at_head : HeadedBy (rest_in cs) j a
  at_head = let h = t.was_head j (t.own j took.own) in (h.0, t.still j took.own ∙ h.1)

  -- the component is there, with a label left
  pub taken_inside : j < length cs
  taken_inside = headed_inside o cs t.lined j a at_head

  pub taken_some : 0 < length (rest_in cs j)
  taken_some = let l = ap length at_head.1 in omega arith

  abbrev next : List (List ℕ)
  next = set cs j (drop 1 (rest_in cs j))

  pub taken_lined : Lined o next
  taken_lined = lined_next o cs t.lined j a at_head

  -- its next label, where there is one, is the number of an action
  pub taken_first : FirstBelow (drop 1 (rest_in cs j))
  taken_first = subst FirstBelow (next_part o cs t.lined j a at_head) (first_below o next taken_lined j)

  left_not : (i : ℕ) → i ≢ j → member after i ≡ false → member left i ≡ false
  left_not i n f = (false_iff (member left i)).1 (λ m. not_both ((took.rest i).1 (m, n)) f)

  after_not : (i : ℕ) → member left i ≡ false → member after i ≡ false
  after_not i f = (false_iff (member after i)).1 (λ m. not_both ((took.rest i).0 m).0 f)

  other_than : (i : ℕ) → member left i ≡ false → i ≢ j
  other_than i f e = not_both took.own (ap (member left) (sym e) ∙ f)

  -- one component more
  pub taken_more : (waiting' : List ℕ) (ready' : ℕ) → ShowsFirst (drop 1 (rest_in cs j)) j o waiting ready waiting' ready'
      → TakenBut o a cs₀ next waiting' ready' after
  taken_more waiting' ready' f =
      record {
        lined = taken_lined;
        shown = shown_after;
        some = t.some;
        was_head = t.was_head;
        own = λ i m. t.own i ((took.rest i).0 m).0;
        still = λ i m. let r = (took.rest i).0 m in next_other o cs t.lined j a at_head i r.1 ∙ t.still i r.0;
        moved = λ i m. moved_after i m (equal_or_not i j);
        no_more = less_le (fewer_next o cs t.lined j a at_head) t.no_more;
        fewer = λ _. lt_of_lt_of_le (fewer_next o cs t.lined j a at_head) t.no_more;
      }
    where
      shown_before : Shown o (rest_in next) (λ i. member left i ≡ false) waiting ready
      shown_before =
          shown_as {Has = λ i. member left i ≡ false} (λ i b. (
            λ k. (k.0, (k.1.0, next_other o cs t.lined j a at_head i (other_than i k.0) ∙ k.1.1)),
            λ k. (k.0, (k.1.0, sym (next_other o cs t.lined j a at_head i (other_than i k.0)) ∙ k.1.1)),
          )) t.shown

      into : (i : ℕ) → (i ≡ j) ⊎ (member left i ≡ false) → member after i ≡ false
      into i (inl e) = (false_iff (member after i)).1 (λ m. ((took.rest i).0 m).1 e)
      into i (inr n) = after_not i n

      from : (i : ℕ) → member after i ≡ false → (i ≡ j) ⊎ (i ≢ j) → (i ≡ j) ⊎ (member left i ≡ false)
      from i n (inl e) = inl e
      from i n (inr d) = inr (left_not i d n)

      shown_after : Shown o (rest_in next) (λ i. member after i ≡ false) waiting' ready'
      shown_after =
          shown_as {Has = λ i. (i ≡ j) ⊎ (member left i ≡ false)} (λ i b. (
            λ k. (into i k.0, k.1),
            λ k. (from i k.0 (equal_or_not i j), k.1),
          ))
          (shown_more o (rest_in next) (λ i. member left i ≡ false) j waiting ready waiting' ready' (λ n. not_both took.own n)
          (taken_lined.own j) shown_before
          (subst (λ (l : List ℕ). ShowsFirst l j o waiting ready waiting' ready')
          (sym (next_part o cs t.lined j a at_head)) f))

      moved_after : (i : ℕ) → member after i ≡ false → (i ≡ j) ⊎ (i ≢ j)
          → rest_in next i ≡ cond (participates o i a) (drop 1 (rest_in cs₀ i)) (rest_in cs₀ i)
      moved_after i n (inl e) =
          subst (λ (k : ℕ). rest_in next k ≡ cond (participates o k a) (drop 1 (rest_in cs₀ k)) (rest_in cs₀ k)) (sym e)
          (next_part o cs t.lined j a at_head ∙ ap (drop 1) (t.still j took.own)
          ∙ sym (ap (λ (u : Bool). cond u (drop 1 (rest_in cs₀ j)) (rest_in cs₀ j)) (t.own j took.own)))
      moved_after i n (inr d≢) =
          next_other o cs t.lined j a at_head i d≢ ∙ t.moved i (left_not i d≢ n)

-- after the last component
pub taken_all : (o : List ℕ) (a : ℕ) (cs₀ cs : List (List ℕ)) (waiting : List ℕ) (ready left : ℕ) → left ≡ 0
    → TakenBut o a cs₀ cs waiting ready left → TakenShown o a cs₀ cs waiting ready
taken_all o a cs₀ cs waiting ready left e t =
    record {
      lined = t.lined;
      shown = shown_as {Has = λ i. member left i ≡ false} (λ i b. (λ k. (tt, k.1), λ k. (none i, k.1))) t.shown;
      taken = record { was_head = t.was_head; taken = λ i. t.moved i (none i); fewer = t.fewer (λ q. t.some (sym q ∙ e)) };
    }
  where
    none : (i : ℕ) → member left i ≡ false
    none i = ap (λ (x : ℕ). member x i) e ∙ member_zero i
