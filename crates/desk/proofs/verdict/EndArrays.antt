-- E5: the array of end sets: of an accepted sheet the sets that were held, else zeros.
-- Assumes nothing.
use mathlib.Core.Path.{◌≡◌, refl, sym, ap, ◌∙◌}
use mathlib.Core.Bool.{Bool, true, false, cond}
use mathlib.Core.List.{List}
use Prim.Native.Nat.{ℕ, ◌+◌, ◌-◌, ◌<◌, ◌≤◌}
use native.Mathlib.Omega.{arith}
use lib.Dec.{ltb}
use lib.ListN.{length, drop, get_or, replicate, length-append, length-drop, length-replicate, get_or-append}
use lib.Seq.{ext_get_or, get_or-append_right}
use Rattle.std.proofs.lemmas.List.{get_or-drop, get_or-replicate}
use Rattle.sets.specs.Lists.{over}
use Rattle.sets.proofs.Bools.{ltb_true, ltb_false}
use Rattle.sets.proofs.Filling.{map_below_length, map_below_at}
use Rattle.sheet.specs.Bounds.{most_components}
use Rattle.sheet.specs.Layout.{component_count}
use Rattle.sheet.specs.Verdict.{Verdict, verdict}
use Rattle.answers.specs.declared.Sizes.{Sizes}
use Rattle.answers.specs.Ends.{end_set, end_array}
use Rattle.answers.specs.declared.EndSets.{EndSets}
use Rattle.answers.proofs.Passing.{IsRefusal}
use Rattle.desk.specs.AcceptedSheet.{AcceptedSheet, EndsOf}
use Rattle.desk.specs.Calls.{CheckAnswer, end_array_by, EndSetsAnswer}

pub zeros_refused : (b : List ℕ) (r : EndSets) → CheckAnswer b r.answer → IsRefusal r.answer (verdict b) → r.sets ≡ replicate most_components 0
    → EndSetsAnswer b r
zeros_refused b r c s zeros =
    record { answer_told = c; sets_told = zeros ∙ ap (λ (v : Verdict). end_array_by v b) (sym s.verdict_told) }

module _ (b : List ℕ) (ends : List ℕ) (e : EndsOf b ends) (few : component_count b ≤ most_components) where
  abbrev told : ℕ → ℕ
  told j = cond (ltb j (component_count b)) (end_set b j) 0

  abbrev pub filled : List ℕ
  filled = over ends (replicate most_components 0)

  long : length filled ≡ most_components
  long =
      let n = e.count in
      let zeros : List ℕ = replicate most_components 0 in
      omega (arith, length-append ends (drop (length ends) zeros), length-drop (length ends) zeros, length-replicate {A = ℕ} most_components 0)

  each : (j : ℕ) → j < length filled → get_or filled j 0 ≡ told j
  each j h = go (ltb j (component_count b)) refl
    where
      go : (c : Bool) → ltb j (component_count b) ≡ c → get_or filled j 0 ≡ cond c (end_set b j) 0
      go true q =
          let l = (ltb_true j (component_count b)).0 q in
          let n = e.count in
          get_or-append ends (drop (length ends) (replicate most_components 0)) 0 j (omega arith) ∙ e.each j l
      go false q =
          let l = (ltb_false j (component_count b)).0 q in
          let n = e.count in
          let s = long in
          get_or-append_right ends (drop (length ends) (replicate most_components 0)) j 0 (omega arith)
          ∙ get_or-drop (length ends) (replicate most_components 0) (j - length ends) 0
          ∙ get_or-replicate most_components (length ends + (j - length ends)) 0 0 (omega arith)

  -- the end sets in front, and zeros
  pub array_filled : filled ≡ end_array b
  array_filled =
      let s = long in
      ext_get_or 0 filled (end_array b) (s ∙ sym (map_below_length told most_components))
      (λ j h. each j h ∙ sym (map_below_at told most_components j (omega arith)))

  pub ends_filled : (z : Sizes) → AcceptedSheet b z → (r : EndSets) → CheckAnswer b r.answer → r.sets ≡ filled → EndSetsAnswer b r
  ends_filled z k r c s =
      record {
        answer_told = c;
        sets_told = s ∙ array_filled ∙ ap (λ (v : Verdict). end_array_by v b) (sym k.sheet_accepted);
      }
