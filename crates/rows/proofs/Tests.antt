-- G4: a test of some element of a list, by the elements and by their indices.
-- Assumes nothing.
use mathlib.Core.Path.{◌≡◌, ap, ◌∙◌}
use mathlib.Core.Bool.{Bool}
use mathlib.Core.List.{List}
use lib.ListN.{length, get_or}
use Rattle.std.specs.List.{list_any}
use Rattle.std.proofs.lemmas.List.{get_or_default}
use Rattle.std.proofs.lemmas.List.Folds.{Any-from_list_any, list_any_at}
use Rattle.sets.specs.Lists.{any_of, below}
use Rattle.sets.proofs.Bools.{iff_bool}
use Rattle.sets.proofs.Lists.{some_below}

pub any_by_index : {A : Type 0} (p : A → Bool) (d : A) (l : List A) → list_any p l ≡ any_of (λ i. p (get_or l i d)) (below (length l))
any_by_index p d l =
    iff_bool _ _ (
      λ h.
          let a = Any-from_list_any p l h in
          (some_below (λ i. p (get_or l i d)) (length l)).1
          (a.0, a.2, ap p (get_or_default l a.0 d a.1 a.2 ∙ a.3) ∙ a.4),
      λ h. let r = (some_below (λ i. p (get_or l i d)) (length l)).0 h in list_any_at p l r.0 d r.1 r.2,
    )
