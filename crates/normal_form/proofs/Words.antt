-- N8: an action placed by its level, and a word placed part by part, whatever it is that holds the steps or their number.
-- Assumes nothing.
use mathlib.Core.Path.{◌≡◌, refl, sym, ap, ◌∙◌, subst}
use mathlib.Core.List.Memᴰ
use mathlib.Core.List.{List, [], ◌∷◌, ◌++◌, append_assoc, append-nil}
use Prim.Native.Nat.{ℕ, ◌+◌, ◌≤◌, ◌<◌}
use native.Mathlib.Omega.{arith}
use lib.ListN.{length, get_or, replicate, length-append, get_or-replicate}
use Rattle.sets.specs.Bits.{members}
use Rattle.sets.specs.Walk.{Takes}
use Rattle.sets.proofs.Members.{members_zero}
use Rattle.sets.proofs.Walks.{taken_first}
use Rattle.traces.specs.Foata.{put_at, reach, place_all, foata}
use Rattle.traces.proofs.Reach.{reach_le}
use Rattle.traces.proofs.Placing.{place_all_append}
use Rattle.systems.specs.Tables.{Tables, InOrder, WordOver}
use Rattle.systems.specs.Independence.{dependent}
use Rattle.systems.proofs.Dependence.{dependent_laws}
use Rattle.sheet.specs.Bounds.{most_components}
use Rattle.dependence.specs.participants.Participants.{Participants, OfSixteen}
use Rattle.dependence.proofs.Dependence.{level_reach}
use Rattle.normal_form.specs.levels.Levels.{LevelTaken, Room}
use Rattle.normal_form.specs.Words.{LastSteps, PlacesWord}
use Rattle.normal_form.proofs.levels.Raising.{level_below, room_left, lasts}

-- ---- one action

-- an action that was given its level is placed, if what holds the steps has the action put into the step of that level
place_one : (o : List ℕ) → OfSixteen o → (a : ℕ) (last last' : List ℕ) (level : ℕ) → LevelTaken (get_or o a 0) last last' level
    → {Held Held' : List (List ℕ) → Type 0} → ((ss : List (List ℕ)) → level ≤ length ss → Held ss → Held' (put_at a level ss))
    → PlacesWord o (a ∷ []) last last' Held Held'
place_one o fit a last last' level taken {Held} {Held'} put = record { room = room_left o fit a last last' level taken; shown = placed }
  where
    placed : (T : Tables) → InOrder T → Participants T o → WordOver T (a ∷ []) → (ss : List (List ℕ)) → LastSteps o last ss → Held ss
        → LastSteps o last' (place_all (dependent T) ss (a ∷ [])) × Held' (place_all (dependent T) ss (a ∷ []))
    placed T order O over ss told held =
        let here : level ≡ reach (dependent T a) ss =
        taken.found ∙ level_reach T order o fit O a (over a (Memᴰ.head refl)) last ss told in
        subst (λ (k : ℕ). LastSteps o last' (put_at a k ss) × Held' (put_at a k ss)) here
        (lasts o fit a last last' level taken ss told, put ss (let le = reach_le (dependent T a) ss in omega arith) held)

-- ---- a word, part by part

module _ (o : List ℕ) where
  -- nothing placed changes nothing
  places_none : (last : List ℕ) (Held : List (List ℕ) → Type 0) → PlacesWord o [] last last Held Held
  places_none last Held =
      record { room = λ most k room j h. let r = room j h in omega arith; shown = λ T order O over ss told held. (told, held) }

  -- one word placed, and then another
  places_both : (u v : List ℕ) {last last' last'' : List ℕ} {Held Held' Held'' : List (List ℕ) → Type 0} → PlacesWord o u last last' Held Held'
      → PlacesWord o v last' last'' Held' Held'' → PlacesWord o (u ++ v) last last'' Held Held''
  places_both u v {last} {last'} {last''} {Held} {Held'} {Held''} P Q =
      record {
        room = λ most k room. Q.room most k (P.room most (length v + k) (λ j h. let r = room j h in let s = length-append u v in omega arith));
        shown = λ T order O over ss told held.
            let first = P.shown T order O (λ a m. over a (Memᴰ.append_left v m)) ss told held in
            subst (λ (ts : List (List ℕ)). LastSteps o last'' ts × Held'' ts) (sym (place_all_append (dependent T) (dependent_laws T) ss u v))
            (Q.shown T order O (λ a m. over a (Memᴰ.append_right u m)) (place_all (dependent T) ss u) first.0 first.1);
      }

-- the first actions of w have been placed, and those that are left find room; the entries and what holds the steps, as they were and as they are
pub record StillToPlace (most : ℕ) (o w left last₀ last : List ℕ) (Held₀ Held : List (List ℕ) → Type 0) : Type 0 where
  pub done : List ℕ
  pub split : w ≡ done ++ left
  pub placed : PlacesWord o done last₀ last Held₀ Held
  pub room : Room most last (length left)

-- before the first action
to_place_all : (most : ℕ) (o w last : List ℕ) (Held : List (List ℕ) → Type 0) → Room most last (length w) → StillToPlace most o w w last last Held Held
to_place_all most o w last Held room = record { done = []; split = refl; placed = places_none o last Held; room = room }

module _ (most : ℕ) (o w left last₀ last : List ℕ) (Held₀ Held : List (List ℕ) → Type 0)
    (R : StillToPlace most o w left last₀ last Held₀ Held) where
  -- nothing is left
  to_place_none : left ≡ [] → PlacesWord o w last₀ last Held₀ Held
  to_place_none e =
      subst (λ (v : List ℕ). PlacesWord o v last₀ last Held₀ Held) (sym (R.split ∙ ap (λ (v : List ℕ). R.done ++ v) e ∙ append-nil R.done))
      R.placed

  module _ (u v : List ℕ) (e : left ≡ u ++ v) where
    size : length left ≡ length u + length v
    size = ap length e ∙ length-append u v

    -- the next part has room
    part_room : Room most last (length u)
    part_room j h = let r = R.room j h in let s = size in omega arith

    -- and what is left once it has been placed
    to_place_rest : (last' : List ℕ) (Held' : List (List ℕ) → Type 0) → PlacesWord o u last last' Held Held'
        → StillToPlace most o w v last₀ last' Held₀ Held'
    to_place_rest last' Held' P =
        record {
          done = R.done ++ u;
          split = R.split ∙ ap (λ (x : List ℕ). R.done ++ x) e ∙ sym (append_assoc R.done u v);
          placed = places_both o R.done u R.placed P;
          room = P.room most (length v) (λ j h. let r = R.room j h in let s = size in omega arith);
        }

-- ---- a step, action by action

module _ {most : ℕ} {o w last₀ last : List ℕ} {Held₀ Held : List (List ℕ) → Type 0} {left : ℕ} (later : List ℕ)
    (R : StillToPlace most o w (members left ++ later) last₀ last Held₀ Held) where
  -- the next action, which is given its level
  module _ {a rest : ℕ} (took : Takes left a rest) (fit : OfSixteen o) {last' : List ℕ} {level : ℕ} (taken : LevelTaken (get_or o a 0) last last' level) where
    split : members left ++ later ≡ (a ∷ []) ++ (members rest ++ later)
    split = ap (λ (v : List ℕ). v ++ later) (taken_first took)

    -- there may be a step of this level
    pub next_below : level < most
    next_below =
        level_below o fit a last last' level taken most (part_room most o w (members left ++ later) last₀ last Held₀ Held R (a ∷ []) _ split)

    -- and it is placed there
    pub next_placed : {Held' : List (List ℕ) → Type 0} → ((ss : List (List ℕ)) → level ≤ length ss → Held ss → Held' (put_at a level ss))
        → StillToPlace most o w (members rest ++ later) last₀ last' Held₀ Held'
    next_placed {Held'} put =
        to_place_rest most o w (members left ++ later) last₀ last Held₀ Held R (a ∷ []) (members rest ++ later) split last' Held'
        (place_one o fit a last last' level taken put)

  -- none of its actions is left
  pub step_placed : left ≡ 0 → StillToPlace most o w later last₀ last Held₀ Held
  step_placed z =
      subst (λ (v : List ℕ). StillToPlace most o w v last₀ last Held₀ Held)
      (ap (λ (v : List ℕ). v ++ later) (ap members z ∙ members_zero)) R

-- ---- a whole word, from nothing

-- zeros tell of no steps
zeros_told : (o : List ℕ) → LastSteps o (replicate most_components 0) []
zeros_told o j h = get_or-replicate most_components j 0 0 h

-- and leave room for as many actions as there may be steps
pub from_zeros : (most : ℕ) (o w : List ℕ) (Held : List (List ℕ) → Type 0) → length w ≤ most
    → StillToPlace most o w w (replicate most_components 0) (replicate most_components 0) Held Held
from_zeros most o w Held few =
    to_place_all most o w (replicate most_components 0) Held
    (λ j h. let z = get_or-replicate {A = ℕ} most_components j 0 0 h in omega arith)

-- once the word is placed, its normal form is held
pub foata_held : {most : ℕ} {o w left last : List ℕ} {Held₀ Held : List (List ℕ) → Type 0}
    → StillToPlace most o w left (replicate most_components 0) last Held₀ Held → left ≡ [] → Held₀ []
    → (T : Tables) → InOrder T → Participants T o → WordOver T w → Held (foata (dependent T) w)
foata_held {most} {o} {w} {left} {last} {Held₀} {Held} R e none T order O over =
    ((to_place_none most o w left (replicate most_components 0) last Held₀ Held R e).shown T order O over [] (zeros_told o) none).1
