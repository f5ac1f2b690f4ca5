-- V3: the word that is taken from columns, action after action, and written as steps of one action each: what the loop of `merge` keeps.
-- Assumes nothing.
use mathlib.Core.Path.{◌≡◌, refl, sym, ap, ◌∙◌}
use mathlib.Core.Logic.{◌≢◌}
use mathlib.Core.Bool.{Bool, true, false, ◌||◌, cond}
use mathlib.Core.List.{List, [], ◌∷◌, ◌++◌, map, map-append, append-nil}
use Prim.Native.Nat.{ℕ, ◌+◌, ◌*◌, ◌≤◌, ◌<◌}
use native.Mathlib.Omega.{arith}
use lib.Dec.{eqb}
use lib.ListN.{length, take, drop, get_or, length-append, length-map}
use lib.Seq.{take_at}
use Rattle.sets.specs.Lists.{append_all, over}
use Rattle.sets.specs.Bits.{member, with}
use Rattle.sets.proofs.Bools.{iff_bool}
use Rattle.sets.proofs.Lists.{append_all_append, entry_short}
use Rattle.sets.proofs.Members.{member_zero, member_one, member_with, member_ext, member_some}
use Rattle.systems.specs.Tables.{Tables, InOrder}
use Rattle.sheet.specs.Bounds.{step_size, most_actions, most_steps}
use Rattle.sheet.specs.Numbers.{bytes}
use Rattle.sheet.specs.Writing.{step_bytes}
use Rattle.sheet.proofs.Numbers.{length_numbers}
use Rattle.columns.specs.Merging.{single, Merged}
use Rattle.columns.proofs.Merging.{merged_none, merged_more}
use Rattle.dependence.specs.participants.Participants.{participates, Participants}
use Rattle.merging.specs.legible.Reading.{rest_in}
use Rattle.merging.specs.heads.Heads.{labels_left, NoneReady, ReadyTaken}
use Rattle.merging.specs.merge.Merging.{MergedInto}

-- the word so far, and what is left of the columns
pub record MergedSoFar (o : List ℕ) (cs₀ cs : List (List ℕ)) (section₀ section : List ℕ) (k : ℕ) : Type 0 where
  pub word : List ℕ
  pub counted : length word ≡ k
  pub written : section ≡ over (step_bytes (map single word)) section₀
  pub size : length section ≡ length section₀
  pub columns : length cs ≡ length cs₀
  pub merged : (T : Tables) → InOrder T → Participants T o → Merged T (rest_in cs₀) word (rest_in cs)
  pub few : k + labels_left cs ≤ labels_left cs₀

at_first : (x : ℕ) → 0 + x ≤ x
at_first x = omega arith

-- no action is taken yet
pub so_far_none : (o : List ℕ) (cs : List (List ℕ)) (section : List ℕ) → MergedSoFar o cs cs section section 0
so_far_none o cs section =
    record {
      word = [];
      counted = refl;
      written = refl;
      size = refl;
      columns = refl;
      merged = λ T ok p. merged_none T (rest_in cs);
      few = at_first (labels_left cs);
    }

-- ---- a step of one action

or_none : (t : Bool) → (t || false) ≡ t
or_none true = refl
or_none false = refl

pub single_step : (a : ℕ) → with a 0 ≡ single a
single_step a =
    member_ext (with a 0) (single a)
    (λ i. member_with a 0 i ∙ ap (λ (t : Bool). eqb a i || t) (member_zero i) ∙ or_none (eqb a i) ∙ sym (member_one a i))

steps_more : (w : List ℕ) (a : ℕ) → step_bytes (map single (w ++ a ∷ [])) ≡ step_bytes (map single w) ++ bytes step_size (single a)
steps_more w a =
    ap step_bytes (map-append single w (a ∷ []))
    ∙ ap append_all (map-append (bytes step_size) (map single w) (single a ∷ []))
    ∙ append_all_append (map (bytes step_size) (map single w)) (bytes step_size (single a) ∷ [])
    ∙ ap (λ (l : List ℕ). step_bytes (map single w) ++ l) (append-nil (bytes step_size (single a)))

pub section_length : (w : List ℕ) → length (step_bytes (map single w)) ≡ step_size * length w
section_length w = length_numbers step_size (map single w) ∙ ap (λ (k : ℕ). step_size * k) (length-map w single)

-- ---- one action more

-- by the participants: which components have the action (N3)
module _ (T : Tables) (o : List ℕ) (p : Participants T o) (a : ℕ) (below : a < most_actions) where
  has_same : (j : ℕ) → j < T.components → participates o j a ≡ member (T.alphabet j) a
  has_same j h =
      iff_bool (participates o j a) (member (T.alphabet j) a) (λ m. ((p.each a below j).0 m).1, λ m. (p.each a below j).1 (h, m))

  -- an action in which some component takes part is one of the tables
  known : InOrder T → get_or o a 0 ≢ 0 → a < T.actions
  known ok some =
      let m = member_some (get_or o a 0) some in
      let h = (p.each a below m.0).0 m.1 in
      ok.action_below m.0 h.0 a h.1

module _ (o : List ℕ) (cs₀ cs : List (List ℕ)) (section₀ section : List ℕ) (k a : ℕ) (m : MergedSoFar o cs₀ cs section₀ section k)
    (cs' : List (List ℕ)) (t : ReadyTaken o a cs cs') where
  -- there is room for its step (L6)
  pub taken_room : labels_left cs₀ ≤ most_steps → k < most_steps
  taken_room = room m.few t.taken.fewer
    where
      room : {x y z : ℕ} → k + x ≤ y → z < x → y ≤ most_steps → k < most_steps
      room h l f = omega arith

  pub so_far_more : length cs' ≡ length cs → (section' : List ℕ) → section' ≡ over (step_bytes (map single m.word) ++ bytes step_size (single a)) section₀
      → length section' ≡ length section₀ → MergedSoFar o cs₀ cs' section₀ section' (k + 1)
  so_far_more same section' e size =
      record {
        word = m.word ++ a ∷ [];
        counted = length-append m.word (a ∷ []) ∙ ap (λ (x : ℕ). x + 1) m.counted;
        written = e ∙ ap (λ (l : List ℕ). over l section₀) (sym (steps_more m.word a));
        size = size;
        columns = same ∙ m.columns;
        merged = merged_next;
        few = less m.few t.taken.fewer;
      }
    where
      less : {x y z : ℕ} → k + x ≤ y → z < x → (k + 1) + z ≤ y
      less h l = omega arith

      merged_next : (T : Tables) → InOrder T → Participants T o → Merged T (rest_in cs₀) (m.word ++ a ∷ []) (rest_in cs')
      merged_next T ok p =
          merged_more T (rest_in cs₀) m.word (rest_in cs) (rest_in cs') a (m.merged T ok p)
          (known T o p a t.below ok t.some_part)
          (λ j h q. t.taken.was_head j (has_same T o p a t.below j h ∙ q))
          (λ j h. t.taken.taken j
          ∙ ap (λ (u : Bool). cond u (drop 1 (rest_in cs j)) (rest_in cs j)) (has_same T o p a t.below j h))

-- ---- nothing is ready

-- V3: no action heads the columns of all of its components, and the steps written are those of the section up to their end
pub so_far_all : (o : List ℕ) (cs₀ cs : List (List ℕ)) (section₀ section : List ℕ) (k : ℕ) → labels_left cs₀ ≤ most_steps
    → MergedSoFar o cs₀ cs section₀ section k → NoneReady o cs → MergedInto o cs₀ cs (take (step_size * k) section)
so_far_all o cs₀ cs section₀ section k room m none =
    record {
      word = m.word;
      few = within (labels_left cs) m.few room;
      written =
          ap (take (step_size * k)) m.written
          ∙ take_at (step_bytes (map single m.word)) (drop (length (step_bytes (map single m.word))) section₀) (step_size * k)
          (section_length m.word ∙ ap (λ (x : ℕ). step_size * x) m.counted);
      size = m.columns;
      merged = m.merged;
      none_ready = none;
    }
  where
    within : (x : ℕ) {y : ℕ} → k + x ≤ y → y ≤ most_steps → length m.word ≤ most_steps
    within x h f = let e = m.counted in omega arith

-- where no label is left, no action heads a column
pub none_left : (o : List ℕ) (cs : List (List ℕ)) → labels_left cs ≡ 0 → NoneReady o cs
none_left o cs e a below some all =
    let part = member_some (get_or o a 0) some in
    let head = all part.0 part.1 in
    let short = entry_short cs part.0 in
    let long = ap length head.1 in
    omega arith
