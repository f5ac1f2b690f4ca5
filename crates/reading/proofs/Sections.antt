-- R5 to R9: the sections of a sheet whose trailer passed: what a checker answers of a part is what the refusal says of the sheet, and the
-- records decoded from a part are those of the sheet's tables.
-- Assumes nothing.
use mathlib.Core.Path.{◌≡◌, refl, sym, ap, ◌∙◌}
use Rattle.std.specs.Prelude.{Option, Some, None}
use mathlib.Core.Bool.{Bool, true, false, not}
use mathlib.Core.List.{List, map}
use Prim.Native.Nat.{ℕ, ◌+◌, ◌-◌, ◌*◌, ◌/◌, ◌≤◌, ◌<◌}
use native.Mathlib.Omega.{arith}
use lib.Dec.{ltb}
use lib.ListN.{length, take, drop, length-take, length-drop}
use Rattle.sets.specs.Lists.{any_of, below}
use Rattle.sets.specs.Bits.{member}
use Rattle.sets.proofs.Lists.{mem_below, any_of_same, drop_take}
use Rattle.systems.specs.Checking.{flat}
use Rattle.sheet.specs.Bounds.{record_size, step_size, trailer_size, most_steps, most_in_steps}
use Rattle.sheet.specs.Numbers.{number, field, parts}
use Rattle.sheet.specs.Layout.{component_count, front, states_of, filler_of, initial_of, alphabet_of}
use Rattle.sheet.specs.Layout.{transition_bytes, transition_of, tables_of, tables, step_count, steps}
use Rattle.sheet.specs.Refusals.{record_wrong, records_wrong, action_unused, transition_wrong, transitions_wrong, rising_bytes, order_wrong, too_many_actions}
use Rattle.sheet.specs.Verdict.{Verdict, refuse_if}
use Rattle.sheet.specs.declared.Component.{Component}
use Rattle.sheet.specs.Sections.{steps_in, transitions_in, alphabet_at, Decoded}
use Rattle.sheet.proofs.Sections.{decoded_same}
use Rattle.sheet.proofs.Numbers.{field_within, parts_part}
use Rattle.answers.specs.declared.Sizes.{Sizes}
use Rattle.answers.specs.declared.Refusal.{Refusal}
use Rattle.answers.specs.Outcomes.{number_of}
use Rattle.answers.specs.SizesRead.{SizesRead}
use Rattle.reading.specs.Reading.{up_to_trailer}
use Rattle.reading.specs.records.Alphabets.{unused_in}
use Rattle.reading.specs.transitions.Fitting.{seven_or_eight}

-- ---- two tests that agree

same_below : (p q : ℕ → Bool) (n : ℕ) → ((i : ℕ) → i < n → p i ≡ q i) → any_of p (below n) ≡ any_of q (below n)
same_below p q n h = any_of_same p q (below n) (λ i m. h i ((mem_below n i).0 m))

-- ---- refusals 7 and 8, told as one (O1)

module _ (p q : Bool) (v : Verdict) where
  pub two_refused : (r : Refusal) → Some r ≡ seven_or_eight p q → refuse_if p 7 (refuse_if q 8 v) ≡ Verdict.refused (number_of r) 0
  two_refused r e = go p q e
    where
      go : (x y : Bool) → Some r ≡ seven_or_eight x y → refuse_if x 7 (refuse_if y 8 v) ≡ Verdict.refused (number_of r) 0
      go true y f = let same : r ≡ Refusal.Transition = cc in rw same refl
      go false true f = let same : r ≡ Refusal.Order = cc in rw same refl
      go false false f = let z : ◌≡◌ {A = ℕ} 0 1 = cc in absurd (omega arith)

  pub two_passed : None ≡ seven_or_eight p q → refuse_if p 7 (refuse_if q 8 v) ≡ v
  two_passed e = go p q e
    where
      go : (x y : Bool) → None ≡ seven_or_eight x y → refuse_if x 7 (refuse_if y 8 v) ≡ v
      go true y f = let z : ◌≡◌ {A = ℕ} 0 1 = cc in absurd (omega arith)
      go false true f = let z : ◌≡◌ {A = ℕ} 0 1 = cc in absurd (omega arith)
      go false false f = refl

-- ---- the sections of a sheet whose trailer passed (S2, F6)

abbrev records_part : List ℕ → Sizes → List ℕ
records_part b z = take z.t b

abbrev transitions_part : List ℕ → Sizes → List ℕ
transitions_part b z = take (z.s - z.t) (drop z.t b)

abbrev steps_part : List ℕ → Sizes → List ℕ
steps_part b z = up_to_trailer z.s b

module _ {b : List ℕ} {z : Sizes} (r : SizesRead b z) where
  pub records_long : record_size * z.n ≤ length (records_part b z)
  records_long = simp length-take (omega arith)

  pub steps_short : length (steps_part b z) ≤ step_size * most_steps
  steps_short = simp (length-take, length-drop) (omega arith)

  front_read : take z.s b ≡ front b
  unfolding front
  front_read = ap (λ (k : ℕ). take k b) r.s_read

  -- what stands in a record stands in all bytes before the steps
  module _ (j : ℕ) (l : j < z.n) where
    field_same : (at size : ℕ) → at + size ≤ record_size * j + record_size → field at size (records_part b z) ≡ field at size (front b)
    field_same at size h =
        field_within at size z.t b (omega arith) ∙ sym (field_within at size z.s b (omega arith)) ∙ ap (field at size) front_read

    states_same : states_of (records_part b z) j ≡ states_of (front b) j
    unfolding states_of
    states_same = field_same (record_size * j) 1 (omega arith)

    filler_same : filler_of (records_part b z) j ≡ filler_of (front b) j
    unfolding filler_of
    filler_same = field_same (record_size * j + 1) 3 (omega arith)

    initial_same : initial_of (records_part b z) j ≡ initial_of (front b) j
    unfolding initial_of
    initial_same = field_same (record_size * j + 4) 4 (omega arith)

    alphabet_same : alphabet_of (records_part b z) j ≡ alphabet_of (front b) j
    unfolding alphabet_of
    alphabet_same = field_same (record_size * j + 8) 8 (omega arith)

    record_same : record_wrong (records_part b z) z.m j ≡ record_wrong (front b) z.m j
    unfolding record_wrong
    record_same = rw (states_same, filler_same, initial_same, alphabet_same)

  -- the sheet's tables are those of the bytes before the steps
  tables_read : tables_of (take z.s b) z.n z.m ≡ tables b
  unfolding tables
  tables_read = rw (front_read, r.n_read, r.m_read)

  -- and so are the records decoded from their section
  module _ {l : List Component} {n : ℕ} (e : n ≡ z.n) (size : length l ≡ n) (D : (m : ℕ) → Decoded (tables_of (records_part b z) n m) l) where
    pub decoded_part : Decoded (tables_of (take z.s b) z.n z.m) l
    unfolding tables_of
    decoded_part =
        rw front_read
        (decoded_same (tables_of (records_part b z) n z.m) (tables_of (front b) z.n z.m) l e
        (λ j k. let low : j < z.n = omega arith in (states_same j low, initial_same j low, alphabet_same j low)) (D z.m))

    pub decoded_read : Decoded (tables b) l
    decoded_read = rw tables_read at decoded_part

  transition_bytes_fact : parts 4 (length (transitions_part b z) / 4) (transitions_part b z) ≡ transition_bytes (front b) (component_count b)
  unfolding transition_bytes front
  transition_bytes_fact =
      let at : record_size * component_count b ≡ z.t = omega arith in
      let behind = drop_take z.t z.s b r.s_behind in
      let size : length (transitions_part b z) ≡ length (take z.s b) - z.t = ap length (sym behind) ∙ length-drop z.t (take z.s b) in
      rw (at, ← r.s_read, size, behind)

  steps_part_fact : steps_in (steps_part b z) ≡ steps b
  unfolding steps step_count
  steps_part_fact =
      let len = length b - trailer_size - z.s in
      let size : length (steps_part b z) ≡ len = simp (length-take, length-drop) (omega arith) in
      ap (λ (k : ℕ). map number (parts 8 (k / 8) (steps_part b z))) size
      ∙ ap (map number) (parts_part 8 (len / 8) len z.s b (omega arith))
      ∙ rw r.s_read

  -- ---- the refusals of the sheet, by what was answered of the parts

  -- R5
  pub records_told : {x : Bool} → x ≡ any_of (record_wrong (records_part b z) z.m) (below (length (records_part b z) / 16)) → records_wrong b ≡ x
  unfolding records_wrong
  records_told {x} e =
      let count : length (records_part b z) / 16 ≡ z.n = omega (arith, length-take {A = ℕ}) in
      let told : x ≡ any_of (record_wrong (records_part b z) z.m) (below z.n) = rw (← count) e in
      rw (← r.n_read, ← r.m_read) (sym (told ∙ same_below (record_wrong (records_part b z) z.m) (record_wrong (front b) z.m) z.n record_same))

  -- R6, of the decoded records
  pub actions_told : {l : List Component} → length l ≡ z.n → Decoded (tables b) l → {x : Bool} → x ≡ unused_in l z.m → action_unused b ≡ x
  unfolding action_unused
  actions_told {l} n D e =
      rw (← r.n_read, ← r.m_read, ← n)
      (sym
      (e
      ∙ same_below (λ a. not (any_of (λ j. member (alphabet_at l j) a) (below (length l)))) _ z.m
      (λ a m. ap not
      (same_below (λ j. member (alphabet_at l j) a) _ (length l) (λ j k. ap (λ (x : ℕ). member x a) (D.alphabet_told j k))))))

  -- R7 and R8
  pub transitions_told : {k : Option Refusal}
      → k
      ≡ seven_or_eight (any_of (transition_wrong (tables b)) (transitions_in (transitions_part b z)))
      (not (rising_bytes (parts 4 (length (transitions_part b z) / 4) (transitions_part b z))))
      → k ≡ seven_or_eight (transitions_wrong b) (order_wrong b)
  unfolding transitions_wrong order_wrong tables tables_of
  transitions_told e =
      e ∙ ap (λ (l : List (List ℕ)). seven_or_eight (any_of (transition_wrong (tables b)) (map transition_of l)) (not (rising_bytes l))) transition_bytes_fact

  -- R9
  pub count_told : {x : Bool} → x ≡ ltb most_in_steps (length (flat (steps_in (steps_part b z)))) → too_many_actions b ≡ x
  unfolding too_many_actions
  count_told e = sym (e ∙ ap (λ (l : List ℕ). ltb most_in_steps (length (flat l))) steps_part_fact)
