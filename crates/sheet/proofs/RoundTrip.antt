-- S2 to S7, N9: a written sheet reads back as what was written, a sheet in limits is what is written from what it reads as,
-- and so two written sheets are equal only where all that was written is equal.
-- Assumes nothing.
use mathlib.Core.Path.{◌≡◌, refl, sym, ap, ap₂, ◌∙◌, subst}
use mathlib.Core.List.Memᴰ
use mathlib.Core.List.{List, ◌∷◌, ◌++◌, map, append_assoc, Memᴰ}
use Prim.Native.Nat.{ℕ, suc, ◌+◌, ◌-◌, ◌*◌, ◌/◌, ◌^◌, ◌<◌, ◌≤◌}
use native.Mathlib.Omega.{arith}
use lib.ListN.{length, take, drop, get_or, length-append, length-drop, length-map, take-append-drop}
use lib.Seq.{take_at, drop_at, drop-cons, drop-drop, drop-append-add, length-take-le}
use Rattle.sheet.specs.Numbers.{AreBytes, number, bytes, field, parts}
use Rattle.sheet.specs.Layout.{records_at, transitions_at, steps_at, component_count, action_count}
use Rattle.sheet.specs.Layout.{closing, mark, front, tables_of, tables, step_count, steps}
use Rattle.sheet.specs.Sections.{steps_in}
use Rattle.sheet.specs.Limits.{InLimits}
use Rattle.sheet.specs.Writing.{step_bytes, trailer, sheet_of}
use Rattle.sheet.proofs.Numbers.{bytes_each, bytes_append, bytes_take, bytes_drop, bytes_append_all, bytes_are, number_bytes}
use Rattle.sheet.proofs.Numbers.{bytes_number, parts_length, length_numbers, numbers_back, bytes_back, parts_part}

-- ---- the trailer

trailer_length : (at n m : ℕ) → length (trailer at n m) ≡ 10
unfolding trailer
trailer_length at n m = refl

trailer_bytes : (at n m : ℕ) → n < 256 → m < 256 → AreBytes (trailer at n m)
unfolding trailer
trailer_bytes at n m c a = bytes_each (trailer at n m) (omega arith)

-- what stands k before the end of two joined lists, where the second has k
drop_end : (p t : List ℕ) (k : ℕ) → k ≤ length t → drop (length (p ++ t) - k) (p ++ t) ≡ drop (length t - k) t
drop_end p t k h =
    let e : length (p ++ t) - k ≡ length p + (length t - k) = omega (arith, length-append p t) in
    ap (λ (j : ℕ). drop j (p ++ t)) e ∙ drop-append-add p t (length t - k)

-- ---- a written sheet, read

-- what a written sheet reads back as (S2 to S7, N9)
pub record ReadsBack (before : List ℕ) (n m : ℕ) (xs : List ℕ) : Type 0 where
  pub total : length (sheet_of before n m xs) ≡ length before + 8 * length xs + 10
  pub records_at_fact : records_at (sheet_of before n m xs) ≡ 0
  pub transitions_at_fact : transitions_at (sheet_of before n m xs) ≡ 16 * n
  pub steps_at_fact : steps_at (sheet_of before n m xs) ≡ length before
  pub component_count_fact : component_count (sheet_of before n m xs) ≡ n
  pub action_count_fact : action_count (sheet_of before n m xs) ≡ m
  pub closing_mark : closing (sheet_of before n m xs) ≡ mark
  pub front_before : front (sheet_of before n m xs) ≡ before
  pub same_tables : tables (sheet_of before n m xs) ≡ tables_of before n m
  pub step_count_fact : step_count (sheet_of before n m xs) ≡ length xs
  pub same_steps : steps (sheet_of before n m xs) ≡ xs

module _ (before : List ℕ) (n m : ℕ) (xs : List ℕ) where
  sheet_total : length (sheet_of before n m xs) ≡ length before + 8 * length xs + 10
  unfolding sheet_of
  sheet_total =
      length-append before (step_bytes xs ++ trailer (length before) n m)
      ∙ ap (λ (j : ℕ). length before + j) (length-append (step_bytes xs) (trailer (length before) n m))
      ∙ omega (arith, length_numbers 8 xs, trailer_length (length before) n m)

  sheet_end : (k : ℕ) → k ≤ 10
      → drop (length (sheet_of before n m xs) - k) (sheet_of before n m xs) ≡ drop (10 - k) (trailer (length before) n m)
  unfolding sheet_of
  sheet_end k h =
      let t = trailer (length before) n m in
      let e = trailer_length (length before) n m in
      ap (λ (b : List ℕ). drop (length b - k) b) (sym (append_assoc before (step_bytes xs) t))
      ∙ drop_end (before ++ step_bytes xs) t k (omega arith)
      ∙ ap (λ (j : ℕ). drop (j - k) t) e

  read_records : records_at (sheet_of before n m xs) ≡ 0
  unfolding records_at field trailer
  read_records = ap (λ (l : List ℕ). number (take 2 l)) (sheet_end 10 (omega arith))

  read_transitions : 16 * n < 65536 → transitions_at (sheet_of before n m xs) ≡ 16 * n
  unfolding transitions_at field trailer
  read_transitions h = ap (λ (l : List ℕ). number (take 2 l)) (sheet_end 8 (omega arith)) ∙ number_bytes 2 (16 * n) h

  read_steps_at : length before < 65536 → steps_at (sheet_of before n m xs) ≡ length before
  unfolding steps_at field trailer
  read_steps_at h = ap (λ (l : List ℕ). number (take 2 l)) (sheet_end 6 (omega arith)) ∙ number_bytes 2 (length before) h

  read_components : component_count (sheet_of before n m xs) ≡ n
  unfolding component_count field trailer
  read_components = ap (λ (l : List ℕ). number (take 1 l)) (sheet_end 4 (omega arith)) ∙ omega arith

  read_actions : action_count (sheet_of before n m xs) ≡ m
  unfolding action_count field trailer
  read_actions = ap (λ (l : List ℕ). number (take 1 l)) (sheet_end 3 (omega arith)) ∙ omega arith

  read_closing : closing (sheet_of before n m xs) ≡ mark
  unfolding closing trailer
  read_closing = sheet_end 2 (omega arith)

  read_front : length before < 65536 → front (sheet_of before n m xs) ≡ before
  unfolding front sheet_of
  read_front h =
      ap (λ (j : ℕ). take j (sheet_of before n m xs)) (read_steps_at h)
      ∙ take_at before (step_bytes xs ++ trailer (length before) n m) (length before) refl

  read_tables : length before < 65536 → tables (sheet_of before n m xs) ≡ tables_of before n m
  unfolding tables
  read_tables h =
      let f = read_front h in
      let c = read_components in
      let a = read_actions in
      cc

  read_step_count : length before < 65536 → step_count (sheet_of before n m xs) ≡ length xs
  unfolding step_count
  read_step_count h = omega (arith, sheet_total, read_steps_at h)

  read_steps : length before < 65536 → ((x : ℕ) → Memᴰ x xs → x < 2 ^ 64) → steps (sheet_of before n m xs) ≡ xs
  unfolding steps sheet_of
  read_steps h small =
      let t = trailer (length before) n m in
      let behind = ap (λ (j : ℕ). drop j (sheet_of before n m xs)) (read_steps_at h) ∙ drop_at before (step_bytes xs ++ t) (length before) refl in
      ap₂ (λ (k : ℕ) (l : List ℕ). map number (parts 8 k l)) (read_step_count h) behind ∙ numbers_back 8 xs t small

  -- S2 to S7, N9: a written sheet reads back as what was written
  pub reads_back : length before < 65536 → n < 256 → ((x : ℕ) → Memᴰ x xs → x < 2 ^ 64) → ReadsBack before n m xs
  reads_back h c small =
      record {
        total = sheet_total;
        records_at_fact = read_records;
        transitions_at_fact = read_transitions (omega arith);
        steps_at_fact = read_steps_at h;
        component_count_fact = read_components;
        action_count_fact = read_actions;
        closing_mark = read_closing;
        front_before = read_front h;
        same_tables = read_tables h;
        step_count_fact = read_step_count h;
        same_steps = read_steps h small;
      }

  -- each number of a written sheet is a byte (S1)
  pub written_bytes : AreBytes before → n < 256 → m < 256 → AreBytes (sheet_of before n m xs)
  unfolding sheet_of
  written_bytes h c a =
      bytes_append before (step_bytes xs ++ trailer (length before) n m) h
      (bytes_append (step_bytes xs) (trailer (length before) n m) (bytes_append_all (map (bytes 8) xs) each) (trailer_bytes (length before) n m c a))
    where
      each : (l : List ℕ) → Memᴰ l (map (bytes 8) xs) → AreBytes l
      each l k = let r = Memᴰ.of_map (bytes 8) xs k in subst AreBytes r.2 (bytes_are 8 r.0)

-- ---- two written sheets: where their bytes are the same, so are their parts (D3)

pub sheet_equal : (before before' : List ℕ) (n n' m m' : ℕ) (xs xs' : List ℕ)
    → length before < 65536 → n < 256 → ((x : ℕ) → Memᴰ x xs → x < 2 ^ 64)
    → length before' < 65536 → n' < 256 → ((x : ℕ) → Memᴰ x xs' → x < 2 ^ 64)
    → sheet_of before n m xs ≡ sheet_of before' n' m' xs' → (before ≡ before') × (n ≡ n') × (m ≡ m') × (xs ≡ xs')
sheet_equal before before' n n' m m' xs xs' h c small h' c' small' e =
    let r = reads_back before n m xs h c small in
    let r' = reads_back before' n' m' xs' h' c' small' in (
      sym r.front_before ∙ ap front e ∙ r'.front_before,
      sym r.component_count_fact ∙ ap component_count e ∙ r'.component_count_fact,
      sym r.action_count_fact ∙ ap action_count e ∙ r'.action_count_fact,
      sym r.same_steps ∙ ap steps e ∙ r'.same_steps,
    )

-- ---- a sheet, written from what it reads as (S2 to S7)

-- the bytes of a number that was read, before what stands behind it
field_cut : (at size at' : ℕ) (b : List ℕ) → AreBytes b → at' ≡ at + size → at' ≤ length b
    → bytes size (field at size b) ++ drop at' b ≡ drop at b
unfolding field
field_cut at size at' b h e fits =
    let d = drop at b in
    let long : length (take size d) ≡ size = length-take-le size d (rw length-drop (omega arith)) in
    ap₂ (λ (p q : List ℕ). p ++ q)
    (ap (λ (j : ℕ). bytes j (number (take size d))) (sym long) ∙ bytes_number (take size d) (bytes_take size d (bytes_drop at b h)))
    (ap (λ (j : ℕ). drop j b) e ∙ sym (drop-drop size at b))
    ∙ take-append-drop size d

-- the same of one byte
byte_cut : (at at' : ℕ) (b : List ℕ) → at' ≡ suc at → at' ≤ length b → field at 1 b ∷ drop at' b ≡ drop at b
unfolding field
byte_cut at at' b e fits =
    let c = drop-cons b at 0 (omega arith) in
    let one : number (take 1 (drop at b)) ≡ get_or b at 0 = ap (λ (l : List ℕ). number (take 1 l)) c ∙ omega arith in
    ap₂ (λ (x j : ℕ). x ∷ drop j b) one e ∙ sym c

trailer_read : (b : List ℕ) → AreBytes b → 10 ≤ length b → records_at b ≡ 0 → transitions_at b ≡ 16 * component_count b → closing b ≡ mark
    → trailer (steps_at b) (component_count b) (action_count b) ≡ drop (length b - 10) b
unfolding trailer records_at transitions_at steps_at component_count action_count closing
trailer_read b h long r t c =
    let L : ℕ = length b in
    let from-m = ap (λ (l : List ℕ). action_count b ∷ l) (sym c) ∙ byte_cut (L - 3) (L - 2) b (omega arith) (omega arith) in
    let from-n = ap (λ (l : List ℕ). component_count b ∷ l) from-m ∙ byte_cut (L - 4) (L - 3) b (omega arith) (omega arith) in
    let from-S = ap (λ (l : List ℕ). bytes 2 (steps_at b) ++ l) from-n ∙ field_cut (L - 6) 2 (L - 4) b h (omega arith) (omega arith) in
    let from-T = ap₂ (λ (x : ℕ) (l : List ℕ). bytes 2 x ++ l) (sym t) from-S ∙ field_cut (L - 8) 2 (L - 6) b h (omega arith) (omega arith) in
    ap₂ (λ (x : ℕ) (l : List ℕ). bytes 2 x ++ l) (sym r) from-T ∙ field_cut (L - 10) 2 (L - 8) b h (omega arith) (omega arith)

-- S7: as many steps are read as the step count says
pub steps_length : (b : List ℕ) → length (steps b) ≡ step_count b
unfolding steps
steps_length b = length-map (parts 8 (step_count b) (drop (steps_at b) b)) number ∙ parts_length 8 (step_count b) (drop (steps_at b) b)

-- the bytes before S are S many (S2)
pub front_length : (b : List ℕ) → InLimits b → length (front b) ≡ steps_at b
unfolding front
front_length b l = let e = l.trailer_last.2 in length-take-le (steps_at b) b (omega arith)

-- the sections and the trailer together are the whole sheet (S2, S7)
pub sections_length : (b : List ℕ) → InLimits b → length b ≡ steps_at b + 8 * step_count b + 10
unfolding step_count
sections_length b l = let e = l.trailer_last.2 in omega arith

-- the three parts of a sheet: the bytes before S, the steps, the trailer (S2)
pub sections_joined : (b : List ℕ) → InLimits b
    → take (steps_at b) b ++ (take (8 * step_count b) (drop (steps_at b) b) ++ drop (length b - 10) b) ≡ b
sections_joined b l =
    let S : ℕ = steps_at b in
    let size : ℕ = 8 * step_count b in
    let e = sections_length b l in
    let behind : length b - 10 ≡ S + size = omega arith in
    ap (λ (q : List ℕ). take S b ++ (take size (drop S b) ++ q)) (ap (λ (j : ℕ). drop j b) behind ∙ sym (drop-drop size S b))
    ∙ ap (λ (q : List ℕ). take S b ++ q) (take-append-drop size (drop S b))
    ∙ take-append-drop S b

-- S2 to S7, N9: a sheet in limits is what is written from what it reads as
pub writes_back : (b : List ℕ) → AreBytes b → InLimits b → sheet_of (front b) (component_count b) (action_count b) (steps b) ≡ b
unfolding sheet_of front steps
writes_back b h l =
    let S : ℕ = steps_at b in
    let e = sections_length b l in
    let fits : 8 * step_count b ≤ length (drop S b) = rw length-drop (omega arith) in
    ap₂ (λ (p q : List ℕ). take S b ++ (p ++ q))
    (bytes_back 8 (step_count b) (drop S b) (bytes_drop S b h) fits)
    (ap (λ (at : ℕ). trailer at (component_count b) (action_count b)) (front_length b l)
    ∙ trailer_read b h (omega arith) l.records_first l.transitions_next l.closed)
    ∙ sections_joined b l

-- ---- the step section as a part of the sheet (S5, S7)

pub section_length : (b : List ℕ) → InLimits b → length (take (length b - 10 - steps_at b) (drop (steps_at b) b)) ≡ 8 * step_count b
section_length b l =
    let e = sections_length b l in length-take-le (length b - 10 - steps_at b) (drop (steps_at b) b) (rw length-drop (omega arith)) ∙ omega arith

pub section_steps : (b p : List ℕ) → InLimits b → p ≡ take (length b - 10 - steps_at b) (drop (steps_at b) b) → steps_in p ≡ steps b
unfolding steps
section_steps b p l e =
    let size = section_length b l in
    let whole = sections_length b l in
    let count : length p / 8 ≡ step_count b = ap (λ (q : List ℕ). length q / 8) e ∙ omega arith in
    ap₂ (λ (k : ℕ) (q : List ℕ). map number (parts 8 k q)) count e
    ∙ ap (map number) (parts_part 8 (step_count b) (length b - 10 - steps_at b) (steps_at b) b (omega arith))
