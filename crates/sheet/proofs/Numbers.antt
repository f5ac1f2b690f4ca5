-- S1: a number and its bytes give each other back, and so do a run of bytes and its parts of one size;
-- what is made of bytes by joining and cutting is bytes. A field is split in two, and is the same read in a part of the list.
-- Assumes nothing.
use mathlib.Core.Path.{◌≡◌, refl, sym, ap, ap₂, ◌∙◌, subst}
use mathlib.Core.List.Memᴰ
use mathlib.Core.List.{List, [], ◌∷◌, ◌++◌, map, map-map, append_assoc, Memᴰ}
use Prim.Native.Nat.{ℕ, zero, suc, ◌+◌, ◌-◌, ◌*◌, ◌/◌, ◌%◌, ◌^◌, ◌<◌, ◌≤◌}
use native.Mathlib.Nat.{pow-suc, div-lt_iff_lt-mul, mul-zero, mul-suc, mul_assoc, mul_comm, add_comm, add-zero, zero-add, suc-add}
use native.Mathlib.Omega.{arith}
use lib.ListN.{length, take, drop, get_or, length-drop, length-append, length-map, get_or-map}
use lib.Seq.{get_or-drop, take_at, drop_at, take-add, take-take, drop-drop, take-nil, length-take-le}
use Rattle.sets.specs.Lists.{append_all}
use Rattle.sets.proofs.Lists.{drop_take, map_same}
use Rattle.sheet.specs.Numbers.{AreBytes, number, bytes, field, parts}

-- ---- lists of bytes

pub bytes_nil : AreBytes []
bytes_nil i = omega arith

pub bytes_cons : (d : ℕ) (ds : List ℕ) → d < 256 → AreBytes ds → AreBytes (d ∷ ds)
bytes_cons d ds h a zero = h
bytes_cons d ds h a (suc i) = a i

-- the same of a list written out, element by element
abbrev pub EachByte : List ℕ → Type 0
EachByte [] = Unit {0}
EachByte (d ∷ ds) = (d < 256) × EachByte ds

pub bytes_each : (b : List ℕ) → EachByte b → AreBytes b
bytes_each [] h = bytes_nil
bytes_each (d ∷ b) h = bytes_cons d b h.0 (bytes_each b h.1)

pub bytes_append : (a b : List ℕ) → AreBytes a → AreBytes b → AreBytes (a ++ b)
bytes_append [] b h k = k
bytes_append (d ∷ a) b h k = bytes_cons d (a ++ b) (h 0) (bytes_append a b (λ i. h (suc i)) k)

pub bytes_take : (n : ℕ) (b : List ℕ) → AreBytes b → AreBytes (take n b)
bytes_take zero b h = bytes_nil
bytes_take (suc n) [] h = h
bytes_take (suc n) (d ∷ b) h = bytes_cons d (take n b) (h 0) (bytes_take n b (λ i. h (suc i)))

pub bytes_drop : (n : ℕ) (b : List ℕ) → AreBytes b → AreBytes (drop n b)
bytes_drop n b h i = rw get_or-drop (h (n + i))

pub bytes_append_all : (ls : List (List ℕ)) → ((l : List ℕ) → Memᴰ l ls → AreBytes l) → AreBytes (append_all ls)
bytes_append_all [] h = bytes_nil
bytes_append_all (l ∷ ls) h = bytes_append l (append_all ls) (h l (Memᴰ.head refl)) (bytes_append_all ls (λ k m. h k (Memᴰ.tail m)))

-- ---- a number and its bytes

pub length_bytes : (k x : ℕ) → length (bytes k x) ≡ k
length_bytes zero x = refl
length_bytes (suc k) x = ap suc (length_bytes k (x / 256))

pub bytes_are : (k x : ℕ) → AreBytes (bytes k x)
bytes_are zero x = bytes_nil
bytes_are (suc k) x = bytes_cons (x % 256) (bytes k (x / 256)) (omega arith) (bytes_are k (x / 256))

-- S1: the bytes of a number are read as that number
pub number_bytes : (k x : ℕ) → x < 256 ^ k → number (bytes k x) ≡ x
number_bytes zero x h = omega arith
number_bytes (suc k) x h =
    let less : x / 256 < 256 ^ k = (div-lt_iff_lt-mul {k = 256} {x = x} {y = 256 ^ k} (omega arith)).1 (omega (arith, pow-suc 256 k)) in
    let e = number_bytes k (x / 256) less in
    omega arith

-- S1: bytes are those of the number as which they are read
pub bytes_number : (b : List ℕ) → AreBytes b → bytes (length b) (number b) ≡ b
bytes_number [] h = refl
bytes_number (d ∷ b) h =
    let less : d < 256 = h 0 in
    let low : (d + 256 * number b) % 256 ≡ d = omega arith in
    let high : (d + 256 * number b) / 256 ≡ number b = omega arith in
    ap₂ (λ (x : ℕ) (l : List ℕ). x ∷ l) low (ap (bytes (length b)) high ∙ bytes_number b (λ i. h (suc i)))

-- ---- a field: split in two, of one byte, and in a part of the list

number_split : (a c : ℕ) (b : List ℕ) → number (take (a + c) b) ≡ number (take a b) + 256 ^ a * number (take c (drop a b))
number_split zero c b = ap (λ (j : ℕ). number (take j b)) (zero-add c) ∙ omega arith
number_split (suc a) c [] =
    ap number (take-nil (suc a + c)) ∙ sym (mul-zero (256 ^ suc a)) ∙ ap (λ (l : List ℕ). 256 ^ suc a * number l) (sym (take-nil c))
    ∙ sym (zero-add (256 ^ suc a * number (take c [])))
number_split (suc a) c (d ∷ b) =
    ap (λ (j : ℕ). number (take j (d ∷ b))) (suc-add a c)
    ∙ omega (arith, number_split a c b, power)
  where
    power : 256 ^ suc a * number (take c (drop a b)) ≡ 256 * (256 ^ a * number (take c (drop a b)))
    power =
        ap (λ (x : ℕ). x * number (take c (drop a b))) (pow-suc 256 a ∙ mul_comm (256 ^ a) 256)
        ∙ mul_assoc 256 (256 ^ a) (number (take c (drop a b)))

pub field_split : (at a c : ℕ) (b : List ℕ) → field at (a + c) b ≡ field at a b + 256 ^ a * field (at + a) c b
unfolding field
field_split at a c b =
    number_split a c (drop at b) ∙ ap (λ (l : List ℕ). number (take a (drop at b)) + 256 ^ a * number (take c l)) (drop-drop a at b)

number_one : (b : List ℕ) → number (take 1 b) ≡ get_or b 0 0
number_one [] = refl
number_one (d ∷ b) = omega arith

pub field_one : (at : ℕ) (b : List ℕ) → field at 1 b ≡ get_or b at 0
unfolding field
field_one at b = number_one (drop at b) ∙ get_or-drop at b 0 0 ∙ ap (λ (j : ℕ). get_or b j 0) (add-zero at)

pub number_part : (at size : ℕ) (b : List ℕ) → number (take size (drop at b)) ≡ field at size b
unfolding field
number_part at size b = refl

pub field_within : (at size k : ℕ) (b : List ℕ) → at + size ≤ k → field at size (take k b) ≡ field at size b
unfolding field
field_within at size k b h =
    ap (λ (l : List ℕ). number (take size l)) (drop_take at k b (omega arith))
    ∙ ap number (take-take size (k - at) (drop at b) (omega arith))

-- ---- parts of one size

pub parts_length : (size k : ℕ) (b : List ℕ) → length (parts size k b) ≡ k
parts_length size zero b = refl
parts_length size (suc k) b = ap suc (parts_length size k (drop size b))

pub parts_append_all : (size k : ℕ) (b : List ℕ) → append_all (parts size k b) ≡ take (size * k) b
parts_append_all size zero b = ap (λ (j : ℕ). take j b) (sym (mul-zero size))
parts_append_all size (suc k) b =
    ap (λ (l : List ℕ). take size b ++ l) (parts_append_all size k (drop size b))
    ∙ sym (take-add size (size * k) b)
    ∙ ap (λ (j : ℕ). take j b) (add_comm size (size * k) ∙ sym (mul-suc size k))

pub parts_of_append_all : (size : ℕ) (ls : List (List ℕ)) (rest : List ℕ) → ((l : List ℕ) → Memᴰ l ls → length l ≡ size)
    → parts size (length ls) (append_all ls ++ rest) ≡ ls
parts_of_append_all size [] rest h = refl
parts_of_append_all size (l ∷ ls) rest h =
    let e : length l ≡ size = h l (Memᴰ.head refl) in
    ap (λ (b : List ℕ). parts size (suc (length ls)) b) (append_assoc l (append_all ls) rest)
    ∙ ap₂ (λ (p b : List ℕ). p ∷ parts size (length ls) b) (take_at l (append_all ls ++ rest) size e) (drop_at l (append_all ls ++ rest) size e)
    ∙ ap (λ (r : List (List ℕ)). l ∷ r) (parts_of_append_all size ls rest (λ k m. h k (Memᴰ.tail m)))

pub part_bytes : (size k : ℕ) (b : List ℕ) → AreBytes b → (p : List ℕ) → Memᴰ p (parts size k b) → AreBytes p
part_bytes size zero b h p x'' = elim x'' [ ]
part_bytes size (suc k) b h p (Memᴰ.head e) = subst AreBytes (sym e) (bytes_take size b h)
part_bytes size (suc k) b h p (Memᴰ.tail m) = part_bytes size k (drop size b) (bytes_drop size b h) p m

pub part_length : (size k : ℕ) (b : List ℕ) → size * k ≤ length b → (p : List ℕ) → Memᴰ p (parts size k b) → length p ≡ size
part_length size zero b h p x'' = elim x'' [ ]
part_length size (suc k) b h p (Memᴰ.head e) = ap length e ∙ length-take-le size b (omega (arith, mul-suc size k))
part_length size (suc k) b h p (Memᴰ.tail m) = part_length size k (drop size b) (rw length-drop (omega (arith, mul-suc size k))) p m

pub parts_within : (size count len : ℕ) (b : List ℕ) → size * count ≤ len → parts size count (take len b) ≡ parts size count b
parts_within size zero len b h = refl
parts_within size (suc count) len b h =
    let fits : size * count + size ≤ len = omega (arith, mul-suc size count) in
    ap₂ (λ (p : List ℕ) (r : List (List ℕ)). p ∷ r) (take-take size len b (omega arith))
    (ap (parts size count) (drop_take size len b (omega arith)) ∙ parts_within size count (len - size) (drop size b) (omega arith))

pub parts_part : (size count len k : ℕ) (b : List ℕ) → size * count ≤ len → parts size count (take len (drop k b)) ≡ parts size count (drop k b)
parts_part size count len k b h = parts_within size count len (drop k b) h

pub parts_at : (size k : ℕ) (b : List ℕ) (i : ℕ) → i < k → get_or (parts size k b) i [] ≡ take size (drop (size * i) b)
parts_at size zero b i h = absurd (omega arith)
parts_at size (suc k) b zero h = ap (λ (j : ℕ). take size (drop j b)) (sym (mul-zero size))
parts_at size (suc k) b (suc i) h =
    parts_at size k (drop size b) i (omega arith)
    ∙ ap (take size) (drop-drop (size * i) size b)
    ∙ ap (λ (j : ℕ). take size (drop j b)) (add_comm size (size * i) ∙ sym (mul-suc size i))

-- ---- numbers of one size, one behind another

pub numbers_length : (size k : ℕ) (b : List ℕ) → length (map number (parts size k b)) ≡ k
numbers_length size k b = length-map (parts size k b) number ∙ parts_length size k b

pub numbers_at : (size k : ℕ) (b : List ℕ) (i : ℕ) → i < k → get_or (map number (parts size k b)) i 0 ≡ field (size * i) size b
numbers_at size k b i h =
    get_or-map number (parts size k b) i [] ∙ ap number (parts_at size k b i h) ∙ number_part (size * i) size b

pub length_numbers : (size : ℕ) (xs : List ℕ) → length (append_all (map (bytes size) xs)) ≡ size * length xs
length_numbers size [] = sym (mul-zero size)
length_numbers size (x ∷ xs) =
    length-append (bytes size x) (append_all (map (bytes size) xs))
    ∙ omega (arith, length_bytes size x, length_numbers size xs, mul-suc size (length xs))

pub numbers_back : (size : ℕ) (xs rest : List ℕ) → ((x : ℕ) → Memᴰ x xs → x < 256 ^ size)
    → map number (parts size (length xs) (append_all (map (bytes size) xs) ++ rest)) ≡ xs
numbers_back size xs rest h =
    ap (λ (j : ℕ). map number (parts size j (append_all (map (bytes size) xs) ++ rest))) (sym (length-map xs (bytes size)))
    ∙ ap (map number) (parts_of_append_all size (map (bytes size) xs) rest sized)
    ∙ map-map number (bytes size) xs
    ∙ map_same (λ x. number (bytes size x)) xs (λ x m. number_bytes size x (h x m))
  where
    sized : (l : List ℕ) → Memᴰ l (map (bytes size) xs) → length l ≡ size
    sized l m = let r = Memᴰ.of_map (bytes size) xs m in ap length (sym r.2) ∙ length_bytes size r.0

pub bytes_back : (size k : ℕ) (b : List ℕ) → AreBytes b → size * k ≤ length b
    → append_all (map (bytes size) (map number (parts size k b))) ≡ take (size * k) b
bytes_back size k b h fits =
    ap append_all (map-map (bytes size) number (parts size k b) ∙ map_same (λ p. bytes size (number p)) (parts size k b) same)
    ∙ parts_append_all size k b
  where
    same : (p : List ℕ) → Memᴰ p (parts size k b) → bytes size (number p) ≡ p
    same p m =
        ap (λ (j : ℕ). bytes j (number p)) (sym (part_length size k b fits p m)) ∙ bytes_number p (part_bytes size k b h p m)
