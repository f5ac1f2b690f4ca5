-- V1, V3, R19: columns merged into a word, one action after another (specs/Merging): what holds before the first action, after one more,
-- when no label is left, and when labels are left but no action heads all its columns; and no word is longer than its columns together.
-- Assumes nothing.
use mathlib.Core.Path.{◌≡◌, refl, sym, ap, ◌∙◌}
use mathlib.Core.Logic.{◌⊎◌, inl, inr, ◌≢◌}
use mathlib.Core.Bool.{Bool, true, false, cond}
use mathlib.Core.List.Memᴰ
use mathlib.Core.List.{List, [], ◌∷◌, ◌++◌, map, append_assoc, append-nil, Memᴰ}
use Prim.Native.Nat.{ℕ, ◌≤◌, ◌<◌}
use native.Mathlib.Omega.{arith}
use lib.ListN.{length, drop, length-append}
use Rattle.sets.specs.Lists.{append_all, keep, below}
use Rattle.sets.specs.Bits.{member}
use Rattle.sets.proofs.Bools.{true_or_false}
use Rattle.sets.proofs.Lists.{mem_below}
use Rattle.traces.specs.Projections.{projection}
use Rattle.traces.proofs.Projections.{without, projection_without_own, projection_without_other, mem_without, projection_append}
use Rattle.systems.specs.Tables.{Tables, InOrder, WordOver}
use Rattle.columns.specs.Columns.{column}
use Rattle.columns.specs.Merging.{Rest, IsWordOf, Heads, taken_from, Merged}

-- ---- the word, one action after another (V3)

-- V3: before the first action nothing is taken
pub merged_none : (T : Tables) (whole : Rest) → Merged T whole [] whole
merged_none T whole = record { over = λ a m. absurd (Memᴰ.not-nil m); split = λ j l. refl; kept = λ u U. (u, U) }

-- an action put in front of a list, where it heads it, and taken off
put_back : (b : Bool) (a : ℕ) (l : List ℕ) → (b ≡ true → (later : List ℕ) × (l ≡ a ∷ later)) → keep b a [] ++ cond b (drop 1 l) l ≡ l
put_back true a l h = let r = h refl in ap (λ (k : List ℕ). a ∷ drop 1 k) r.1 ∙ sym r.1
put_back false a l h = refl

-- the column of a word without an action that heads it, where it has the action
taken_column : (p : ℕ → Bool) (a : ℕ) (w l : List ℕ) → projection p w ≡ l → (p a ≡ true → (later : List ℕ) × (l ≡ a ∷ later))
    → projection p (without a w) ≡ cond (p a) (drop 1 l) l
taken_column p a w l e h = go (true_or_false (p a))
  where
    go : (p a ≡ true) ⊎ (p a ≡ false) → projection p (without a w) ≡ cond (p a) (drop 1 l) l
    go (inl q) = let r = h q in projection_without_own p a w r.0 q (e ∙ r.1) ∙ rw (q, r.1)
    go (inr q) = projection_without_other p a w q ∙ e ∙ rw q

-- V3: an action that heads the column of each of its components is taken
pub merged_more : (T : Tables) (whole : Rest) (w : List ℕ) (rest next : Rest) (a : ℕ) → Merged T whole w rest → a < T.actions
    → Heads T rest a → ((j : ℕ) → j < T.components → next j ≡ taken_from T rest a j) → Merged T whole (w ++ a ∷ []) next
merged_more T whole w rest next a M known heads e = record { over = over; split = split; kept = kept }
  where
    over : WordOver T (w ++ a ∷ [])
    over b m = elim (Memᴰ.append_cases w m) [ inl n ↦ M.over b n | inr n ↦ rw (Memᴰ.eq_of_singleton n) known ]

    split : (j : ℕ) → j < T.components → whole j ≡ column T (w ++ a ∷ []) j ++ next j
    split j l =
        let p : ℕ → Bool = member (T.alphabet j) in
        M.split j l
        ∙ ap (λ (k : List ℕ). column T w j ++ k) (sym (put_back (p a) a (rest j) (heads j l)))
        ∙ ap (λ (k : List ℕ). column T w j ++ (keep (p a) a [] ++ k)) (sym (e j l))
        ∙ sym (append_assoc (column T w j) (keep (p a) a []) (next j))
        ∙ ap (λ (k : List ℕ). k ++ next j) (sym (projection_append p w (a ∷ [])))

    kept : (u : List ℕ) → IsWordOf T whole u → (v : List ℕ) × IsWordOf T next v
    kept u U =
        let (v, is) = M.kept u U in (
          without a v,
          record {
            over = λ b m. is.over b (mem_without a v m);
            each = λ j l. taken_column (member (T.alphabet j)) a v (rest j) (is.each j l) (heads j l) ∙ sym (e j l);
          },
        )

-- V1: when no label is left, the word has the columns
pub merged_all : (T : Tables) (whole : Rest) (w : List ℕ) (rest : Rest) → Merged T whole w rest
    → ((j : ℕ) → j < T.components → rest j ≡ []) → IsWordOf T whole w
merged_all T whole w rest M none =
    record {
      over = M.over;
      each = λ j l. sym (M.split j l ∙ ap (λ (k : List ℕ). column T w j ++ k) (none j l) ∙ append-nil (column T w j));
    }

-- the first action of a word heads the column of each of its components
first_heads : (T : Tables) (rest : Rest) (a : ℕ) (v : List ℕ) → IsWordOf T rest (a ∷ v) → Heads T rest a
first_heads T rest a v is j l has =
    let p : ℕ → Bool = member (T.alphabet j) in
    (projection p v, sym (is.each j l) ∙ ap (λ (b : Bool). keep b a (projection p v)) has)

-- R19: when labels are left but no action heads the columns of all its components, no word has the columns
pub merged_stuck : (T : Tables) → InOrder T → (whole : Rest) (w : List ℕ) (rest : Rest) → Merged T whole w rest
    → ((a : ℕ) → a < T.actions → ¬ Heads T rest a) → (j : ℕ) → j < T.components → rest j ≢ [] → (u : List ℕ) → ¬ IsWordOf T whole u
merged_stuck T ok whole w rest M stuck j l left u U = let r = M.kept u U in go r.0 r.1
  where
    go : (v : List ℕ) → ¬ IsWordOf T rest v
    go [] is = left (sym (is.each j l))
    go (a ∷ v) is = stuck a (is.over a (Memᴰ.head refl)) (first_heads T rest a v is)

-- ---- no word is longer than its columns together (V1, L6)

-- lists made by two functions, joined: where those of one are no longer, and where one of them is shorter
joined_short : (f g : ℕ → List ℕ) (js : List ℕ) → ((j : ℕ) → Memᴰ j js → length (f j) ≤ length (g j))
    → length (append_all (map f js)) ≤ length (append_all (map g js))
joined_short f g [] h = omega arith
joined_short f g (i ∷ js) h =
    let here = h i (Memᴰ.head refl) in
    let later = joined_short f g js (λ j m. h j (Memᴰ.tail m)) in
    simp length-append (omega arith)

joined_shorter : (f g : ℕ → List ℕ) (js : List ℕ) → ((j : ℕ) → Memᴰ j js → length (f j) ≤ length (g j))
    → {k : ℕ} → Memᴰ k js → length (f k) < length (g k) → length (append_all (map f js)) < length (append_all (map g js))
joined_shorter f g [] h {k = k} x3 less = elim x3 [ ]
joined_shorter f g (i ∷ js) h (Memᴰ.head e) less =
    let here : length (f i) < length (g i) = rw e at less in
    let later = joined_short f g js (λ j m. h j (Memᴰ.tail m)) in
    simp length-append (omega arith)
joined_shorter f g (i ∷ js) h (Memᴰ.tail m) less =
    let here = h i (Memᴰ.head refl) in
    let later = joined_shorter f g js (λ j n. h j (Memᴰ.tail n)) m less in
    simp length-append (omega arith)

keep_length : (b : Bool) (a : ℕ) (l : List ℕ) → length l ≤ length (keep b a l)
keep_length true a l = omega arith
keep_length false a l = omega arith

-- V1, L6: each action stands in a column, so a word is no longer than its columns together
pub word_short : (T : Tables) → InOrder T → (w : List ℕ) → WordOver T w
    → length w ≤ length (append_all (map (column T w) (below T.components)))
word_short T ok [] over = omega arith
word_short T ok (a ∷ w) over =
    let (j, l, has) = ok.action_used a (over a (Memᴰ.head refl)) in
    let rest = word_short T ok w (λ b m. over b (Memᴰ.tail m)) in
    let one : length (column T w j) < length (column T (a ∷ w) j) = rw has (omega arith) in
    let more =
    joined_shorter (column T w) (column T (a ∷ w)) (below T.components)
    (λ i m. keep_length (member (T.alphabet i) a) a (column T w i)) ((mem_below T.components j).1 l) one in
    omega arith

-- a word whose columns are no longer than given ones is no longer than these together
word_within : (T : Tables) → InOrder T → (whole : Rest) (w : List ℕ) → WordOver T w
    → ((j : ℕ) → j < T.components → length (column T w j) ≤ length (whole j))
    → length w ≤ length (append_all (map whole (below T.components)))
word_within T ok whole w over h =
    let short = word_short T ok w over in
    let within = joined_short (column T w) whole (below T.components) (λ j m. h j ((mem_below T.components j).0 m)) in
    omega arith

-- V1, L6: so of columns that are given
pub word_length : (T : Tables) → InOrder T → (whole : Rest) (w : List ℕ) → IsWordOf T whole w
    → length w ≤ length (append_all (map whole (below T.components)))
word_length T ok whole w W = word_within T ok whole w W.over (λ j l. let e = ap length (W.each j l) in omega arith)
