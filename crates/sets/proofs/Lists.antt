-- G4: what the tests over a list say of its elements, what the lists of this crate have for elements,
-- and that a rising list is given by its elements. And what the parts of a list are, and a list written over another.
-- Assumes nothing.
use mathlib.Core.Path.{◌≡◌, refl, sym, ap, ap₂, ◌∙◌, subst}
use mathlib.Core.Bool.{Bool, true, false, ◌||◌, false≢true, or_assoc}
use mathlib.Core.Logic.{◌↔◌, ◌⊎◌, inl, inr, ⊎_elim}
use mathlib.Core.List.Memᴰ
use mathlib.Core.List.{List, [], ◌∷◌, ◌++◌, map, map-id, append_assoc, Memᴰ}
use Prim.Native.Nat.{ℕ, zero, suc, ◌+◌, ◌-◌, ◌*◌, ◌≤◌, ◌<◌, zero-le}
use native.Mathlib.Nat.{lt_irrefl, le_antisymm, eq-or-lt_of_le, zero-add, add-zero, suc-add, add-suc, add_comm, mul-suc, add-sub_of_le}
use native.Mathlib.Numerals.{add-one}
use native.Mathlib.Decide.{dec_lt}
use native.Mathlib.Omega.{arith}
use lib.ListN.{length, take, drop, get_or, replicate, length-append, drop_of_length-le}
use lib.Seq.{take-nil, take-append_seam, drop-append_seam, drop-cons, get_or-take, length-take-le}
use Rattle.sets.specs.Lists.{any_of, all_of, append_all, keep, over, Distinct, upward, below, RisingAbove, Rising}
use Rattle.sets.proofs.Bools.{not_both, iff_bool, false_iff, and_true, or_true, or_left_comm}

module _ {ℓ} {A : Type ℓ} where
  -- ---- some

  pub any_of_intro : (p : A → Bool) (l : List A) {x : A} → Memᴰ x l → p x ≡ true → any_of p l ≡ true
  any_of_intro p [] x4 h = elim x4 [ ]
  any_of_intro p (y ∷ l) (Memᴰ.head e) h = (or_true (p y) (any_of p l)).1 (inl (ap p (sym e) ∙ h))
  any_of_intro p (y ∷ l) (Memᴰ.tail m) h = (or_true (p y) (any_of p l)).1 (inr (any_of_intro p l m h))

  pub any_of_elim : (p : A → Bool) (l : List A) → any_of p l ≡ true → (x : A) × Memᴰ x l × (p x ≡ true)
  any_of_elim p [] h = absurd (false≢true h)
  any_of_elim p (y ∷ l) h = go (any_of_elim p l) ((or_true (p y) (any_of p l)).0 h)
    where
      go : (any_of p l ≡ true → (x : A) × Memᴰ x l × (p x ≡ true)) → (p y ≡ true) ⊎ (any_of p l ≡ true)
          → (x : A) × Memᴰ x (y ∷ l) × (p x ≡ true)
      go rest (inl e) = (y, Memᴰ.head refl, e)
      go rest (inr e) = let r = rest e in (r.0, Memᴰ.tail r.1, r.2)

  pub any_of_false : (p : A → Bool) (l : List A) → any_of p l ≡ false → {x : A} → Memᴰ x l → p x ≡ false
  any_of_false p l h {x} m = (false_iff (p x)).1 (λ t. not_both (any_of_intro p l m t) h)

  pub none_false : (p : A → Bool) (l : List A) → ((x : A) → Memᴰ x l → p x ≡ false) → any_of p l ≡ false
  none_false p l h = (false_iff (any_of p l)).1 (λ t. let r = any_of_elim p l t in not_both r.2 (h r.0 r.1))

  pub any_of_append : (p : A → Bool) (k l : List A) → any_of p (k ++ l) ≡ (any_of p k || any_of p l)
  any_of_append p [] l = refl
  any_of_append p (x ∷ k) l = ap (λ (b : Bool). p x || b) (any_of_append p k l) ∙ sym (or_assoc (p x) (any_of p k) (any_of p l))

  pub any_of_or : (p q : A → Bool) (l : List A) → any_of (λ x. p x || q x) l ≡ (any_of p l || any_of q l)
  any_of_or p q [] = refl
  any_of_or p q (x ∷ l) = ap (λ (b : Bool). (p x || q x) || b) (any_of_or p q l) ∙ cross (p x) (q x) (any_of p l) (any_of q l)
    where
      cross : (a b c d : Bool) → (a || b || (c || d)) ≡ ((a || c) || (b || d))
      cross true b c d = refl
      cross false b c d = or_left_comm b c d

  -- two tests that agree on the elements
  pub any_of_same : (p q : A → Bool) (l : List A) → ((x : A) → Memᴰ x l → p x ≡ q x) → any_of p l ≡ any_of q l
  any_of_same p q [] h = refl
  any_of_same p q (x ∷ l) h = ap₂ ◌||◌ (h x (Memᴰ.head refl)) (any_of_same p q l (λ y m. h y (Memᴰ.tail m)))

  -- ---- every

  pub all_of_intro : (p : A → Bool) (l : List A) → ((x : A) → Memᴰ x l → p x ≡ true) → all_of p l ≡ true
  all_of_intro p [] h = refl
  all_of_intro p (y ∷ l) h = (and_true (p y) (all_of p l)).1 (h y (Memᴰ.head refl), all_of_intro p l (λ x m. h x (Memᴰ.tail m)))

  pub all_of_elim : (p : A → Bool) (l : List A) → all_of p l ≡ true → (x : A) → Memᴰ x l → p x ≡ true
  all_of_elim p [] h x x4 = elim x4 [ ]
  all_of_elim p (y ∷ l) h x (Memᴰ.head e) = ap p e ∙ ((and_true (p y) (all_of p l)).0 h).0
  all_of_elim p (y ∷ l) h x (Memᴰ.tail m) = all_of_elim p l ((and_true (p y) (all_of p l)).0 h).1 x m

  -- ---- concat

  pub append_all_append : (a b : List (List A)) → append_all (a ++ b) ≡ append_all a ++ append_all b
  append_all_append [] b = refl
  append_all_append (l ∷ a) b = ap (λ (r : List A). l ++ r) (append_all_append a b) ∙ sym (append_assoc l (append_all a) (append_all b))

  from_append_all : (ls : List (List A)) {x : A} → Memᴰ x (append_all ls) → (l : List A) × Memᴰ l ls × Memᴰ x l
  from_append_all [] m = absurd (Memᴰ.not-nil m)
  from_append_all (k ∷ ls) {x} m = go (from_append_all ls) (Memᴰ.append_cases k m)
    where
      go : (Memᴰ x (append_all ls) → (l : List A) × Memᴰ l ls × Memᴰ x l) → Memᴰ x k ⊎ Memᴰ x (append_all ls)
          → (l : List A) × Memᴰ l (k ∷ ls) × Memᴰ x l
      go rest (inl h) = (k, Memᴰ.head refl, h)
      go rest (inr h) = let r = rest h in (r.0, Memᴰ.tail r.1, r.2)

  into_append_all : (ls : List (List A)) {l : List A} {x : A} → Memᴰ l ls → Memᴰ x l → Memᴰ x (append_all ls)
  into_append_all [] {l = l} {x = x} x4 m = elim x4 [ ]
  into_append_all (k ∷ ls) {x = x} (Memᴰ.head e) m = Memᴰ.append_left (append_all ls) (subst (λ (r : List A). Memᴰ x r) e m)
  into_append_all (k ∷ ls) (Memᴰ.tail h) m = Memᴰ.append_right k (into_append_all ls h m)

  pub mem_append_all : (ls : List (List A)) {x : A} → Memᴰ x (append_all ls) ↔ ((l : List A) × Memᴰ l ls × Memᴰ x l)
  mem_append_all ls = (from_append_all ls, λ h. into_append_all ls h.1 h.2)

  -- one list of some is no longer than all of them joined
  pub entry_short : (ls : List (List A)) (j : ℕ) → length (get_or ls j []) ≤ length (append_all ls)
  entry_short [] j = omega arith
  entry_short (l ∷ ls) zero = omega (arith, length-append l (append_all ls))
  entry_short (l ∷ ls) (suc j) = let h = entry_short ls j in omega (arith, length-append l (append_all ls))

  -- ---- an element before a list where the test passes

  pub keep_true : (b : Bool) (x : A) (l : List A) → b ≡ true → keep b x l ≡ x ∷ l
  keep_true true x l h = refl
  keep_true false x l h = absurd (false≢true h)

  pub keep_false : (b : Bool) (x : A) (l : List A) → b ≡ false → keep b x l ≡ l
  keep_false true x l h = absurd (false≢true (sym h))
  keep_false false x l h = refl

  pub keep_append : (b : Bool) (x : A) (k l : List A) → keep b x (k ++ l) ≡ keep b x k ++ l
  keep_append true x k l = refl
  keep_append false x k l = refl

  -- its elements: the one before the list where the test passes, and those of the list
  pub from_keep : (b : Bool) (x : A) (l : List A) {y : A} → Memᴰ y (keep b x l) → ((b ≡ true) × (y ≡ x)) ⊎ Memᴰ y l
  from_keep true x l (Memᴰ.head e) = inl (refl, e)
  from_keep true x l (Memᴰ.tail m) = inr m
  from_keep false x l m = inr m

  pub keep_head : (b : Bool) (x : A) (l : List A) {y : A} → b ≡ true → y ≡ x → Memᴰ y (keep b x l)
  keep_head true x l h e = Memᴰ.head e
  keep_head false x l h e = absurd (false≢true h)

  pub keep_tail : (b : Bool) (x : A) (l : List A) {y : A} → Memᴰ y l → Memᴰ y (keep b x l)
  keep_tail true x l m = Memᴰ.tail m
  keep_tail false x l m = m

  -- ---- elements by index, and functions that agree on the elements

  pub get_d_mem : (l : List A) (i : ℕ) (d : A) → i < length l → Memᴰ (get_or l i d) l
  get_d_mem [] i d h = absurd (omega arith)
  get_d_mem (x ∷ l) zero d h = Memᴰ.head refl
  get_d_mem (x ∷ l) (suc i) d h = Memᴰ.tail (get_d_mem l i d (omega arith))

  -- what holds of each entry holds of each element, and the other way
  from_entries : (P : A → Type ℓ) (l : List A) (d : A) → ((i : ℕ) → i < length l → P (get_or l i d)) → (x : A) → Memᴰ x l → P x
  from_entries P [] d h x x4 = elim x4 [ ]
  from_entries P (y ∷ l) d h x (Memᴰ.head e) = subst P (sym e) (h 0 (omega arith))
  from_entries P (y ∷ l) d h x (Memᴰ.tail m) = from_entries P l d (λ i b. h (suc i) (omega arith)) x m

  pub each_element : (P : A → Type ℓ) (l : List A) (d : A)
      → ((i : ℕ) → i < length l → P (get_or l i d)) ↔ ((x : A) → Memᴰ x l → P x)
  each_element P l d = (from_entries P l d, λ h i b. h (get_or l i d) (get_d_mem l i d b))

  -- a value repeated, read with the same value for what is behind the end: it stands at every index
  pub replicate_at : (n : ℕ) (x : A) (i : ℕ) → get_or (replicate n x) i x ≡ x
  replicate_at zero x i = refl
  replicate_at (suc n) x zero = refl
  replicate_at (suc n) x (suc i) = replicate_at n x i

  pub map_agree : {B : Type ℓ} (f g : A → B) (l : List A) → ((x : A) → Memᴰ x l → f x ≡ g x) → map f l ≡ map g l
  map_agree f g [] h = refl
  map_agree {B} f g (x ∷ l) h =
      ap₂ (λ (y : B) (r : List B). y ∷ r) (h x (Memᴰ.head refl)) (map_agree f g l (λ y m. h y (Memᴰ.tail m)))

  -- a function that changes no element
  pub map_same : (f : A → A) (l : List A) → ((x : A) → Memᴰ x l → f x ≡ x) → map f l ≡ l
  map_same f l h = map_agree f (λ x. x) l h ∙ map-id l

  -- ---- a part of a list, and a list written over the front of another

  drop_take_add : (n m : ℕ) (l : List A) → drop n (take (n + m) l) ≡ take m (drop n l)
  drop_take_add zero m l = ap (λ (j : ℕ). take j l) (zero-add m)
  drop_take_add (suc n) m [] = ap (drop (suc n)) (take-nil (suc n + m)) ∙ sym (take-nil m)
  drop_take_add (suc n) m (x ∷ l) = ap (λ (j : ℕ). drop (suc n) (take j (x ∷ l))) (suc-add n m) ∙ drop_take_add n m l

  pub drop_take : (n k : ℕ) (l : List A) → n ≤ k → drop n (take k l) ≡ take (k - n) (drop n l)
  drop_take n k l h = ap (λ (j : ℕ). drop n (take j l)) (sym (add-sub_of_le h)) ∙ drop_take_add n (k - n) l

  pub over_front : (xs ys : List A) (k : ℕ) → length xs ≡ k → take k (over xs ys) ≡ xs
  over_front xs ys k e = ap (λ (j : ℕ). take j (over xs ys)) (sym e) ∙ take-append_seam xs (drop (length xs) ys)

  pub over_behind : (xs ys : List A) (k : ℕ) → length xs ≡ k → drop k (over xs ys) ≡ drop k ys
  over_behind xs ys k e =
      ap (λ (j : ℕ). drop j (over xs ys)) (sym e) ∙ drop-append_seam xs (drop (length xs) ys) ∙ ap (λ (j : ℕ). drop j ys) e

-- what is left of a list from an index on
pub drop_next : (xs : List ℕ) (i : ℕ) → i < length xs → drop i xs ≡ get_or xs i 0 ∷ drop (i + 1) xs
drop_next xs i h = drop-cons xs i 0 h ∙ ap (λ (k : ℕ). get_or xs i 0 ∷ drop k xs) (sym (add-one i))

pub taken_next : (xs : List ℕ) (count i : ℕ) → i < count → count ≤ length xs
    → drop i (take count xs) ≡ get_or xs i 0 ∷ drop (i + 1) (take count xs)
taken_next xs count i h few =
    let n = length-take-le count xs few in
    drop_next (take count xs) i (omega arith) ∙ ap (λ (v : ℕ). v ∷ drop (i + 1) (take count xs)) (get_or-take count xs i 0 h)

pub taken_end : (xs : List ℕ) (count i : ℕ) → count ≤ i → count ≤ length xs → drop i (take count xs) ≡ []
taken_end xs count i h few = let n = length-take-le count xs few in drop_of_length-le (take count xs) {i = i} (omega arith)

-- ---- the numbers from i on, and those below n

from_upward : (i k j : ℕ) → Memᴰ j (upward i k) → (i ≤ j) × (j < i + k)
unfolding upward
from_upward i zero j m = absurd (Memᴰ.not-nil m)
from_upward i (suc k) j m = go (from_upward (suc i) k j) (Memᴰ.cases_cons m)
  where
    go : (Memᴰ j (upward (suc i) k) → (suc i ≤ j) × (j < suc i + k)) → (j ≡ i) ⊎ Memᴰ j (upward (suc i) k) → (i ≤ j) × (j < i + suc k)
    go rest (inl e) = omega arith
    go rest (inr h) = let r = rest h in omega arith

into_upward : (i k j : ℕ) → i ≤ j → j < i + k → Memᴰ j (upward i k)
unfolding upward
into_upward i zero j a b = absurd (omega arith)
into_upward i (suc k) j a b = go (into_upward (suc i) k j) (eq-or-lt_of_le a)
  where
    go : (suc i ≤ j → j < suc i + k → Memᴰ j (upward (suc i) k)) → (i ≡ j) ⊎ (i < j) → Memᴰ j (i ∷ upward (suc i) k)
    go rest (inl e) = Memᴰ.head (sym e)
    go rest (inr h) = Memᴰ.tail (rest h (omega arith))

pub mem_upward : (i k j : ℕ) → Memᴰ j (upward i k) ↔ ((i ≤ j) × (j < i + k))
mem_upward i k j = (from_upward i k j, λ h. into_upward i k j h.0 h.1)

pub mem_below : (n i : ℕ) → Memᴰ i (below n) ↔ (i < n)
unfolding below
mem_below n i = (λ m. let h = (mem_upward 0 n i).0 m in omega arith, λ h. (mem_upward 0 n i).1 (zero-le, omega arith))

-- one number more
upward_last : (i k : ℕ) → upward i (suc k) ≡ upward i k ++ ((i + k) ∷ [])
unfolding upward
upward_last i zero = ap (λ (x : ℕ). x ∷ []) (sym (add-zero i))
upward_last i (suc k) =
    ap (λ (l : List ℕ). i ∷ l) (upward_last (suc i) k ∙ ap (λ (x : ℕ). upward (suc i) k ++ (x ∷ [])) (suc-add i k ∙ sym (add-suc i k)))

pub below_last : (n : ℕ) → below (n + 1) ≡ below n ++ (n ∷ [])
unfolding below
below_last n = ap (upward 0) (add-one n) ∙ upward_last 0 n ∙ ap (λ (x : ℕ). upward 0 n ++ (x ∷ [])) (zero-add n)

-- what is left of the numbers below n from j on
pub below_all : (n : ℕ) → below n ≡ upward 0 (n - 0)
unfolding below
below_all n = let e : n ≡ n - 0 = omega arith in ap (upward 0) e

pub upward_next : (n j : ℕ) → j < n → upward j (n - j) ≡ j ∷ upward (j + 1) (n - (j + 1))
unfolding upward
upward_next n j h =
    let e : n - j ≡ suc (n - (j + 1)) = omega arith in
    ap (upward j) e ∙ ap (λ (i : ℕ). j ∷ upward i (n - (j + 1))) (sym (add-one j))

pub upward_end : (n j : ℕ) → n ≤ j → upward j (n - j) ≡ []
unfolding upward
upward_end n j h = let e : n - j ≡ 0 = omega arith in ap (upward j) e

-- ---- a search over the numbers below n: what it has found, what it has passed, and what one number more adds

pub found_below : (p : ℕ → Bool) (n i : ℕ) → i < n → p i ≡ true → true ≡ any_of p (below n)
found_below p n i l h = sym (any_of_intro p (below n) ((mem_below n i).1 l) h)

pub none_found : (p : ℕ → Bool) (n i : ℕ) → n ≤ i → ((k : ℕ) → k < i → p k ≡ false) → false ≡ any_of p (below n)
none_found p n i l h = sym (none_false p (below n) (λ k m. let b = (mem_below n k).0 m in h k (omega arith)))

pub any_of_below_zero : (p : ℕ → Bool) → any_of p (below 0) ≡ false
unfolding below upward
any_of_below_zero p = refl

pub any_of_below_more : (p : ℕ → Bool) (n : ℕ) → any_of p (below (n + 1)) ≡ (any_of p (below n) || p n)
any_of_below_more p n = iff_bool (any_of p (below (n + 1))) (any_of p (below n) || p n) (to, from)
  where
    split : (i : ℕ) → p i ≡ true → (i ≡ n) ⊎ (i < n) → (any_of p (below n) ≡ true) ⊎ (p n ≡ true)
    split i h (inl e) = inr (ap p (sym e) ∙ h)
    split i h (inr l) = inl (any_of_intro p (below n) ((mem_below n i).1 l) h)

    to : any_of p (below (n + 1)) ≡ true → (any_of p (below n) || p n) ≡ true
    to h =
        let r = any_of_elim p (below (n + 1)) h in
        let l = (mem_below (n + 1) r.0).0 r.1 in
        (or_true (any_of p (below n)) (p n)).1 (split r.0 r.2 (eq-or-lt_of_le (omega arith)))

    from : (any_of p (below n) || p n) ≡ true → any_of p (below (n + 1)) ≡ true
    from h =
        ⊎_elim
        (λ e. let r = any_of_elim p (below n) e in
        let l = (mem_below n r.0).0 r.1 in
        any_of_intro p (below (n + 1)) ((mem_below (n + 1) r.0).1 (omega arith)) r.2)
        (λ e. any_of_intro p (below (n + 1)) ((mem_below (n + 1) n).1 (omega arith)) e)
        ((or_true (any_of p (below n)) (p n)).0 h)

-- ---- what holds of some value for each number below n holds of the values of a function

pub chosen : {A : Type 0} (x : A) (B : ℕ → A → Type 0) (n : ℕ) → ((j : ℕ) → j < n → (y : A) × B j y)
    → (f : ℕ → A) × ((j : ℕ) → j < n → B j (f j))
chosen {A} x B n h = (λ j. (value j).0, λ j. (value j).1)
  where
    pick : (j : ℕ) → Dec (j < n) → (y : A) × (j < n → B j y)
    pick j (yes l) = let r = h j l in (r.0, λ k. r.1)
    pick j (no l) = (x, λ k. absurd (l k))

    value : (j : ℕ) → (y : A) × (j < n → B j y)
    value j = pick j (dec_lt j n)

-- ---- rising lists

-- every element of a list that rises above i is above i
pub above_mem : (i : ℕ) (l : List ℕ) → RisingAbove i l → {j : ℕ} → Memᴰ j l → i < j
above_mem i [] r {j = j} x'' = elim x'' [ ]
above_mem i (x ∷ l) r (Memᴰ.head e) = let h = r.0 in omega arith
above_mem i (x ∷ l) r (Memᴰ.tail m) = let h = r.0 in let t = above_mem x l r.1 m in omega arith

pub above_rising : (i : ℕ) (l : List ℕ) → RisingAbove i l → Rising l
above_rising i [] r = tt
above_rising i (x ∷ l) r = r.1

pub rising_distinct : (l : List ℕ) → Rising l → Distinct l
rising_distinct [] r = tt
rising_distinct (x ∷ l) r = (λ m. lt_irrefl x (above_mem x l r m), rising_distinct l (above_rising x l r))

-- the head of a rising list is the least of its elements
head_least : (x : ℕ) (l : List ℕ) → Rising (x ∷ l) → {i : ℕ} → Memᴰ i (x ∷ l) → x ≤ i
head_least x l r (Memᴰ.head e) = omega arith
head_least x l r (Memᴰ.tail m) = let h = above_mem x l r m in omega arith

-- of two rising lists with the same head, an element of the one's tail that the other has stands in its tail
tail_mem : (x y : ℕ) (k l : List ℕ) → x ≡ y → RisingAbove x k → {i : ℕ} → Memᴰ i k → Memᴰ i (y ∷ l) → Memᴰ i l
tail_mem x y k l e r m (Memᴰ.head f) = let h = above_mem x k r m in absurd (omega arith)
tail_mem x y k l e r m (Memᴰ.tail h) = h

pub rising_same : (k l : List ℕ) → Rising k → Rising l → ((i : ℕ) → Memᴰ i k ↔ Memᴰ i l) → k ≡ l
rising_same [] [] r s h = refl
rising_same [] (y ∷ l) r s h = absurd (Memᴰ.not-nil ((h y).1 (Memᴰ.head refl)))
rising_same (x ∷ k) [] r s h = absurd (Memᴰ.not-nil ((h x).0 (Memᴰ.head refl)))
rising_same (x ∷ k) (y ∷ l) r s h =
    let same : x ≡ y = le_antisymm (head_least x k r ((h y).1 (Memᴰ.head refl))) (head_least y l s ((h x).0 (Memᴰ.head refl))) in
    ap₂ (λ (i : ℕ) (t : List ℕ). i ∷ t) same
    (rising_same k l (above_rising x k r) (above_rising y l s)
    (λ i. (λ m. tail_mem x y k l same r m ((h i).0 (Memᴰ.tail m)), λ m. tail_mem y x l k (sym same) s m ((h i).1 (Memᴰ.tail m)))))

-- ---- tests over the numbers below n

length_upward : (i k : ℕ) → length (upward i k) ≡ k
unfolding upward
length_upward i zero = refl
length_upward i (suc k) = ap suc (length_upward (suc i) k)

pub length_below : (n : ℕ) → length (below n) ≡ n
unfolding below
length_below n = length_upward 0 n

-- some number below n passes the test
pub some_below : (p : ℕ → Bool) (n : ℕ) → (any_of p (below n) ≡ true) ↔ ((i : ℕ) × (i < n) × (p i ≡ true))
some_below p n = (
  λ h. let r = any_of_elim p (below n) h in (r.0, (mem_below n r.0).0 r.1, r.2),
  λ h. any_of_intro p (below n) ((mem_below n h.0).1 h.1) h.2,
)

-- none does
pub none_below : (p : ℕ → Bool) (n : ℕ) → (any_of p (below n) ≡ false) ↔ ((i : ℕ) → i < n → p i ≡ false)
none_below p n = (
  λ h i l. any_of_false p (below n) h ((mem_below n i).1 l),
  λ h. none_false p (below n) (λ i m. h i ((mem_below n i).0 m)),
)

-- two tests that agree below n
pub any_same : (p q : ℕ → Bool) (n : ℕ) → ((i : ℕ) → i < n → p i ≡ q i) → any_of p (below n) ≡ any_of q (below n)
any_same p q n e = any_of_same p q (below n) (λ i m. e i ((mem_below n i).0 m))

-- the last number below i + 1, or one below i
pub last_or_below : (i k : ℕ) → k < i + 1 → (k ≡ i) ⊎ (k < i)
last_or_below i k l = eq-or-lt_of_le (omega arith)

-- ---- lists made over the numbers below a number, and lists of one length, joined

-- G4: entry j of what f makes of the numbers from i on
pub map_upward_at : (f : ℕ → List ℕ) (i k j : ℕ) → j < k → get_or (map f (upward i k)) j [] ≡ f (i + j)
unfolding upward
map_upward_at f i zero j h = elim h [ ]
map_upward_at f i (suc k) zero h = ap f (omega arith)
map_upward_at f i (suc k) (suc j) h = map_upward_at f (suc i) k j (omega arith) ∙ ap f (omega arith)

-- G4: entry j of what f makes of the numbers below k; `map_below_at` of `Filling` says it where f makes numbers
pub list_below_at : (f : ℕ → List ℕ) (k j : ℕ) → j < k → get_or (map f (below k)) j [] ≡ f j
unfolding below
list_below_at f k j h = map_upward_at f 0 k j h ∙ ap f (omega arith)

-- G4: lists of one length, joined, are as long as that length times their number
pub joined_length : (k : ℕ) (ls : List (List ℕ)) → ((l : List ℕ) → Memᴰ l ls → length l ≡ k) → length (append_all ls) ≡ k * length ls
joined_length k [] h = omega arith
joined_length k (l ∷ ls) h =
    length-append l (append_all ls)
    ∙ ap₂ (λ (a b : ℕ). a + b) (h l (Memᴰ.head refl)) (joined_length k ls (λ x m. h x (Memᴰ.tail m)))
    ∙ add_comm k (k * length ls) ∙ sym (mul-suc k (length ls))
