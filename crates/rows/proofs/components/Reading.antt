-- R15: the components read so far: where the next one begins, and that those before it stand.
-- Assumes nothing.
use mathlib.Core.Path.{◌≡◌, refl, sym, ap, ◌∙◌}
use mathlib.Core.List.{List}
use Prim.Native.Nat.{ℕ, suc, ◌+◌, ◌*◌, ◌≤◌, ◌<◌}
use native.Mathlib.Nat.{add_assoc}
use native.Mathlib.Omega.{arith}
use lib.ListN.{length, get_or, set, length-set}
use borrow.Author.Count.{below_more}
use Rattle.rows.specs.declared.product.Part.{Part}
use Rattle.products.specs.ProductBytes.{component_at}
use Rattle.rows.specs.Reading.{begin_at}
use Rattle.rows.specs.components.Reading.{Stands, AllRead}
use Rattle.rows.proofs.Parts.{part_next}

pub record ReadUpTo (b : List ℕ) (l : List Part) (at j : ℕ) : Type 0 where
  pub at_told : at ≡ component_at b j
  pub inside : at ≤ length b
  pub stand : (i : ℕ) → i < j → Stands b (component_at b i)
  pub told : (i : ℕ) → i < j → begin_at l i ≡ component_at b i

pub read_none : (b : List ℕ) (l : List Part) → 2 ≤ length b → ReadUpTo b l 2 0
unfolding component_at
read_none b l h = record { at_told = refl; inside = h; stand = λ i k. absurd (omega arith); told = λ i k. absurd (omega arith) }

-- where the next component begins
next_at : (b : List ℕ) (at j : ℕ) → at ≡ component_at b j → at + (3 + 2 * get_or b (at + 2) 0) ≡ component_at b (j + 1)
unfolding component_at
next_at b at j e =
    let q : suc j ≡ j + 1 = omega arith in
    sym (add_assoc at 3 (2 * get_or b (at + 2) 0)) ∙ ap (λ (k : ℕ). k + 3 + 2 * get_or b (k + 2) 0) e ∙ ap (component_at b) q

pub read_more : (b : List ℕ) (l : List Part) (at j next : ℕ) (p : Part) → ReadUpTo b l at j → j < length l
    → Stands b at × (next ≡ at + (3 + 2 * get_or b (at + 2) 0)) → p.begin ≡ at → ReadUpTo b (set l j p) next (j + 1)
unfolding component_at
read_more b l at j next p r h s q =
    record {
      at_told = s.1 ∙ next_at b at j r.at_told;
      inside = let i = s.0.inside in let e = s.1 in omega arith;
      stand = below_more (λ i. Stands b (component_at b i)) j r.stand (rw (sym r.at_told) s.0);
      told = part_next (λ x. x.begin) (component_at b) j l p h r.told (q ∙ r.at_told);
    }

pub read_all : (b : List ℕ) (l : List Part) (at : ℕ) → ReadUpTo b l at (length l) → AllRead b l at
read_all b l at r = record { end_told = r.at_told; all_stand = r.stand; begins_told = r.told }

-- the next one does not stand
pub read_out : (b : List ℕ) (l : List Part) (at j : ℕ) (p : Part) → ReadUpTo b l at j → j < length l → ¬ Stands b at
    → (i : ℕ) × (i < length (set l j p)) × (¬ Stands b (component_at b i))
read_out b l at j p r h out = (j, (let e = length-set l j p in omega arith), λ s. out (rw r.at_told s))
