-- What the reader of a product tells at each of its stages (R15, R16, R17, O8).
-- Assumes nothing.
use Rattle.std.specs.Prelude.{◌≡◌, Bool, not, List, map, ℕ, ◌+◌, ◌*◌, ◌≤◌, eqb, length}
use Rattle.std.specs.List.{list_any}
use Rattle.sets.specs.Lists.{any_of, append_all, below}
use Rattle.sets.specs.Bits.{member, members}
use Rattle.sheet.specs.Bounds.{record_size, transition_size, most_components, most_actions}
use Rattle.answers.specs.declared.Sizes.{Sizes}
use Rattle.answers.specs.declared.Answer.{Answer}
use Rattle.answers.specs.declared.Answer.TheVariants.{Accepted, Given, Refused}
use Rattle.answers.specs.Outcomes.{refused, number_of}
use Rattle.products.specs.ProductBytes.{components_in, rows_in}
use Rattle.products.specs.ProductVerdict.{rows_outcome}
use Rattle.rows.specs.declared.product.Part.{Part}
use Rattle.rows.specs.Reading.{alphabet_at, ReadProduct, SheetSizes}

-- R15, of the counts: both are there and in range
pub record CountsFit (b : List ℕ) : Type 0 where
  pub both : 2 ≤ length b
  pub components_low : 1 ≤ components_in b
  pub components_high : components_in b ≤ most_components
  pub rows_low : 1 ≤ rows_in b
  pub rows_high : rows_in b ≤ most_actions

-- R16: the set has just what the alphabets have
pub record UnionOf (l : List Part) (all : ℕ) : Type 0 where
  pub exact : (g : ℕ) → member all g ≡ any_of (λ j. member (alphabet_at l j) g) (below (length l))

-- R16: one of the first m rows is in none of the alphabets
abbrev pub row_unused : List Part → ℕ → Bool
row_unused l m = any_of (λ g. not (any_of (λ j. member (alphabet_at l j) g) (below (length l)))) (below m)

-- R17: one of the alphabets is empty
abbrev pub some_empty : List Part → Bool
some_empty l = list_any (λ p. eqb p.alphabet 0) l

-- B9: the elements of the alphabets, one alphabet behind another
abbrev pub elements_of : List Part → List ℕ
elements_of l = append_all (map (λ j. members (alphabet_at l j)) (below (length l)))

-- B8, B9: the sizes of the sheet with these components and m actions, one transition for each element of their alphabets
abbrev pub sizes_by : List Part → ℕ → Sizes
sizes_by l m =
    record {
      n = length l;
      m = m;
      t = record_size * length l;
      s = record_size * length l + transition_size * length (elements_of l);
    }

-- O8: what the reader answers: the refusal of the call, whatever the room; or the sizes, with what it found
abbrev pub Judged : List ℕ → List Part → Answer → Type 0
Judged b l (Accepted z) = SheetSizes b z × ReadProduct b l
Judged b l (Given x) = ⊥
Judged b l (Refused r i s) = (size : ℕ) → rows_outcome b size ≡ refused (number_of r) i s
