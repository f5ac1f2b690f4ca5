-- R18, V2: the columns read so far: they are the bytes passed, and of whatever columns fill all bytes, those behind the ones read fill the
-- rest. Where there is no next column none fill them; and when all are read, the last test tells whether they do.
-- Assumes nothing.
use mathlib.Core.Path.{◌≡◌, refl, sym, ap, ◌∙◌, subst}
use mathlib.Core.Logic.{◌≢◌, ◌⊎◌, inl, inr}
use mathlib.Core.Bool.{true}
use mathlib.Core.List.{List, [], ◌∷◌, ◌++◌, append_assoc, append-nil}
use Prim.Native.Nat.{ℕ, ◌+◌, ◌*◌, ◌≤◌, ◌<◌}
use native.Mathlib.Numerals.{add-one}
use native.Mathlib.Omega.{arith}
use lib.ListN.{length, take, drop, set, length-set, drop_of_length-le}
use lib.Seq.{take_all, drop-cons, take-suc-set, get_or-set_same, get_or-set_other}
use Rattle.sets.specs.Bits.{member}
use Rattle.sets.proofs.Bools.{equal_or_not}
use Rattle.sets.proofs.Lists.{entry_short, each_element}
use Rattle.sheet.specs.Bounds.{most_in_steps}
use Rattle.sheet.specs.declared.Component.{Component}
use Rattle.sheet.specs.Sections.{alphabet_at}
use Rattle.columns.specs.ColumnBytes.{column_bytes, columns_bytes}
use Rattle.columns.specs.ColumnRefusals.{FilledBy}
use Rattle.merging.specs.legible.Reading.{rest_in, LabelsOwn, BeginsWith}
use Rattle.merging.proofs.legible.Counts.{bytes_length, columns_more, begins_behind}

-- R18: the first j columns are read
pub record ReadUpTo (d : List ℕ) (l : List Component) (cs : List (List ℕ)) (behind : List ℕ) (j : ℕ) : Type 0 where
  pub size : length cs ≡ length l
  pub passed : d ≡ columns_bytes (take j cs) ++ behind
  pub own : (i : ℕ) → i < j → LabelsOwn (alphabet_at l i) (rest_in cs i)
  pub left : (es : List (List ℕ)) → FilledBy d (length l) (alphabet_at l) es → behind ≡ columns_bytes (drop j es)

-- R18: no column is read yet
pub read_none : (d : List ℕ) (l : List Component) (cs : List (List ℕ)) → length cs ≡ length l → ReadUpTo d l cs d 0
read_none d l cs e = record { size = e; passed = refl; own = λ i h. absurd (omega arith); left = λ es F. F.filled }

module _ (d : List ℕ) (l : List Component) (cs : List (List ℕ)) (behind : List ℕ) (j : ℕ) (r : ReadUpTo d l cs behind j) (h : j < length l) where
  -- ---- of columns that fill the bytes, the one with index j
  module _ (es : List (List ℕ)) (F : FilledBy d (length l) (alphabet_at l) es) where
    next : behind ≡ column_bytes (rest_in es j) ++ columns_bytes (drop (j + 1) es)
    next =
        let k : j < length es = let o = F.one_each in omega arith in
        r.left es F ∙ ap columns_bytes (drop-cons es j [] k ∙ ap (λ (i : ℕ). rest_in es j ∷ drop i es) (sym (add-one j)))

    -- the bytes that are left begin with it
    begins : BeginsWith behind (alphabet_at l j) (rest_in es j) (columns_bytes (drop (j + 1) es))
    begins =
        record {
          split = next;
          few = let f = F.few in let s = entry_short es j in omega arith;
          own = (each_element (λ a. member (alphabet_at l j) a ≡ true) (rest_in es j) 0).1 (F.own j h);
        }

  -- R18: one column more
  pub read_more : (labels others : List ℕ) → BeginsWith behind (alphabet_at l j) labels others → ReadUpTo d l (set cs j labels) others (j + 1)
  read_more labels others B =
      record {
        size = length-set cs j labels ∙ r.size;
        passed =
            r.passed
            ∙ ap (λ (b : List ℕ). columns_bytes (take j cs) ++ b) B.split
            ∙ sym (append_assoc (columns_bytes (take j cs)) (column_bytes labels) others)
            ∙ ap (λ (b : List ℕ). b ++ others) (sym (columns_more (take j cs) labels) ∙ ap columns_bytes (sym stored));
        own = λ i k. own_after i k (equal_or_not i j);
        left = λ es F. begins_behind B ∙ sym (begins_behind (begins es F));
      }
    where
      inside : j < length cs
      inside = let s = r.size in omega arith

      stored : take (j + 1) (set cs j labels) ≡ take j cs ++ (labels ∷ [])
      stored = ap (λ (i : ℕ). take i (set cs j labels)) (add-one j) ∙ take-suc-set cs j labels inside

      own_after : (i : ℕ) → i < j + 1 → (i ≡ j) ⊎ (¬ (i ≡ j)) → LabelsOwn (alphabet_at l i) (rest_in (set cs j labels) i)
      own_after i k (inl e) =
          subst (λ (x : ℕ). LabelsOwn (alphabet_at l x) (rest_in (set cs j labels) x)) (sym e)
          (subst (LabelsOwn (alphabet_at l j)) (sym (get_or-set_same cs j labels [] inside)) B.own)
      own_after i k (inr n) =
          subst (LabelsOwn (alphabet_at l i)) (sym (get_or-set_other cs j i labels [] n)) (r.own i (omega (arith, n)))

  -- R18: without a next column no columns fill the bytes
  pub read_out : ((labels others : List ℕ) → ¬ BeginsWith behind (alphabet_at l j) labels others) → (es : List (List ℕ))
      → ¬ FilledBy d (length l) (alphabet_at l) es
  read_out none es F = none _ _ (begins es F)

-- ---- all columns are read: they fill the bytes where none are behind the last one, and the number of bytes tells how many labels they have
module _ (d : List ℕ) (l : List Component) (cs : List (List ℕ)) (behind : List ℕ) (j : ℕ) (r : ReadUpTo d l cs behind j) (all : j ≡ length l) where
  -- R18: then the columns that were read do
  pub read_all : length behind ≡ 0 → length d ≤ 2 * length l + most_in_steps → FilledBy d (length l) (alphabet_at l) cs
  read_all e few =
      record {
        filled = whole;
        one_each = r.size;
        few = let o = r.size in omega (arith, ap length whole ∙ bytes_length cs);
        own = λ i h. (each_element (λ a. member (alphabet_at l i) a ≡ true) (rest_in cs i) 0).0 (r.own i (omega (arith, all)));
      }
    where
      whole : d ≡ columns_bytes cs
      whole =
          r.passed
          ∙ ap (λ (b : List ℕ). columns_bytes (take j cs) ++ b) (nothing behind e)
          ∙ append-nil (columns_bytes (take j cs))
          ∙ ap columns_bytes (take_all j cs (let s = r.size in omega (arith, all)))
        where
          nothing : (b : List ℕ) → length b ≡ 0 → b ≡ []
          nothing [] q = refl
          nothing (x ∷ b) q = absurd (omega arith)

  -- R18: bytes behind the last column, or too many: no columns fill them
  pub read_past : (length behind ≢ 0) ⊎ (2 * length l + most_in_steps < length d) → (es : List (List ℕ)) → ¬ FilledBy d (length l) (alphabet_at l) es
  read_past past es F =
      let none : drop j es ≡ [] = drop_of_length-le es {i = j} (let o = F.one_each in omega (arith, all)) in
      let e : length behind ≡ 0 = ap length (r.left es F ∙ ap columns_bytes none) in
      let long = ap length F.filled ∙ bytes_length es in
      let o = F.one_each in
      let few = F.few in
      elim past [ inl some ↦ some e | inr many ↦ absurd (omega arith) ]
