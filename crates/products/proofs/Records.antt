-- B8: the records of the sheet that a product becomes, read back: state count, initial set and alphabet of each component.
-- Assumes nothing.
use mathlib.Core.Path.{◌≡◌, refl, sym, ap, ap₂, ◌∙◌, subst}
use mathlib.Core.Bool.{true}
use mathlib.Core.List.Memᴰ
use mathlib.Core.List.{List, [], ◌∷◌, ◌++◌, map, Memᴰ, append-nil}
use mathlib.Core.Logic.{◌⊎◌, inl, inr}
use Prim.Native.Nat.{ℕ, zero, suc, ◌+◌, ◌-◌, ◌*◌, ◌/◌, ◌^◌, ◌<◌, ◌≤◌}
use native.Mathlib.Omega.{arith}
use lib.ListN.{length, take, drop, get_or, length-append, length-map}
use lib.Seq.{drop_at, drop-drop}
use Rattle.sets.specs.Lists.{append_all, below}
use Rattle.sets.specs.Bits.{member, set_of}
use Rattle.sets.proofs.Lists.{length_below, list_below_at, joined_length}
use Rattle.sets.proofs.Members.{set_of_member, lt_members}
use Rattle.sheet.specs.Bounds.{record_size, transition_size, most_actions, most_states}
use Rattle.sheet.specs.Numbers.{number, field, parts}
use Rattle.sheet.specs.Layout.{states_of, initial_of, alphabet_of, transition_bytes}
use Rattle.sheet.proofs.Numbers.{number_bytes, parts_of_append_all, parts_at, field_within, field_one}
use Rattle.products.specs.Product.{Product}
use Rattle.products.specs.ProductSheet.{record_bytes, alphabet, sheet_transitions, product_front}
use Rattle.products.proofs.Transitions.{mem_transitions}

transition_length : (P : Product) (l : List ℕ) → Memᴰ l (sheet_transitions P) → length l ≡ transition_size
transition_length P l m = let r = (mem_transitions P).0 m in ap length r.6.told

module _ (P : Product) where
  record_length : (j : ℕ) → length (record_bytes P j) ≡ record_size
  unfolding record_bytes
  record_length j = refl

  each_length : (l : List ℕ) → Memᴰ l (map (record_bytes P) (below P.components)) → length l ≡ record_size
  each_length l m =
      let r = Memᴰ.of_map (record_bytes P) (below P.components) m in
      subst (λ (k : List ℕ). length k ≡ record_size) r.2 (record_length r.0)

  records_cut : (rest : List ℕ) → parts record_size P.components (append_all (map (record_bytes P) (below P.components)) ++ rest)
      ≡ map (record_bytes P) (below P.components)
  records_cut rest =
      let ls = map (record_bytes P) (below P.components) in
      let e : length ls ≡ P.components = length-map (below P.components) (record_bytes P) ∙ length_below P.components in
      subst (λ (k : ℕ). parts record_size k (append_all ls ++ rest) ≡ ls) e (parts_of_append_all record_size ls rest each_length)

  record_at : (j : ℕ) → j < P.components → take record_size (drop (record_size * j) (product_front P)) ≡ record_bytes P j
  unfolding product_front
  record_at j h =
      sym (parts_at record_size P.components (product_front P) j h)
      ∙ ap (λ (l : List (List ℕ)). get_or l j []) (records_cut (append_all (sheet_transitions P)))
      ∙ list_below_at (record_bytes P) P.components j h

  -- a field of record j, read from the whole
  record_field : (j k size : ℕ) → j < P.components → k + size ≤ record_size
      → field (record_size * j + k) size (product_front P) ≡ field k size (record_bytes P j)
  unfolding field
  record_field j k size h fits =
      ap (λ (l : List ℕ). number (take size l)) (sym (drop-drop k (record_size * j) (product_front P)))
      ∙ sym (field_within k size record_size (drop (record_size * j) (product_front P)) fits)
      ∙ ap (λ (l : List ℕ). number (take size (drop k l))) (record_at j h)

  pub states_read : (j : ℕ) → j < P.components → (P.component j).states < 256 → states_of (product_front P) j ≡ (P.component j).states
  unfolding states_of record_bytes field
  states_read j h small =
      let e : record_size * j ≡ record_size * j + 0 = omega arith in
      ap (λ (k : ℕ). field k 1 (product_front P)) e
      ∙ record_field j 0 1 h (omega arith)
      ∙ number_bytes 1 (P.component j).states small

  pub filler_read : (j i : ℕ) → j < P.components → i < 3 → get_or (product_front P) (record_size * j + 1 + i) 0 ≡ 0
  unfolding record_bytes field
  filler_read j i h l =
      let e : record_size * j + 1 + i ≡ record_size * j + (1 + i) = omega arith in
      sym (field_one (record_size * j + 1 + i) (product_front P))
      ∙ ap (λ (k : ℕ). field k 1 (product_front P)) e
      ∙ record_field j (1 + i) 1 h (omega arith)
      ∙ zero_at i l
    where
      zero_at : (i : ℕ) → i < 3 → field (1 + i) 1 (record_bytes P j) ≡ 0
      zero_at zero l = refl
      zero_at (suc zero) l = refl
      zero_at (suc (suc zero)) l = refl
      zero_at (suc (suc (suc i))) l = absurd (omega arith)

  pub initial_read : (j : ℕ) → j < P.components → (P.component j).initial < most_states
      → initial_of (product_front P) j ≡ set_of ((P.component j).initial ∷ [])
  unfolding initial_of record_bytes field
  initial_read j h small =
      record_field j 4 4 h (omega arith) ∙ number_bytes 4 (set_of ((P.component j).initial ∷ [])) (lt_members most_states _ few_states)
    where
      few_states : (i : ℕ) → member (set_of ((P.component j).initial ∷ [])) i ≡ true → i < most_states
      few_states i m = go (Memᴰ.cases_cons ((set_of_member ((P.component j).initial ∷ []) i).0 m))
        where
          go : (i ≡ (P.component j).initial) ⊎ Memᴰ i [] → i < most_states
          go (inl e) = omega arith
          go (inr n) = absurd (Memᴰ.not-nil n)

  pub alphabet_read : (j : ℕ) → j < P.components → alphabet P j < 2 ^ most_actions → alphabet_of (product_front P) j ≡ alphabet P j
  unfolding alphabet_of record_bytes field
  alphabet_read j h small = record_field j 8 8 h (omega arith) ∙ number_bytes 8 (alphabet P j) small

  records_length : length (append_all (map (record_bytes P) (below P.components))) ≡ record_size * P.components
  records_length =
      joined_length record_size (map (record_bytes P) (below P.components)) each_length
      ∙ ap (λ (k : ℕ). record_size * k) (length-map (below P.components) (record_bytes P) ∙ length_below P.components)

  pub front_length : length (product_front P) ≡ record_size * P.components + transition_size * length (sheet_transitions P)
  unfolding product_front
  front_length =
      length-append (append_all (map (record_bytes P) (below P.components))) (append_all (sheet_transitions P))
      ∙ ap₂ (λ (k l : ℕ). k + l) records_length (joined_length transition_size (sheet_transitions P) (transition_length P))

  pub transitions_read : transition_bytes (product_front P) P.components ≡ sheet_transitions P
  unfolding transition_bytes product_front
  transitions_read =
      let k : (length (product_front P) - record_size * P.components) / transition_size ≡ length (sheet_transitions P) =
      omega (arith, front_length) in
      let records = append_all (map (record_bytes P) (below P.components)) in
      ap₂ (λ (c : ℕ) (b : List ℕ). parts transition_size c b) k
      (drop_at records (append_all (sheet_transitions P)) (record_size * P.components) records_length)
      ∙ ap (λ (b : List ℕ). parts transition_size (length (sheet_transitions P)) b) (sym (append-nil (append_all (sheet_transitions P))))
      ∙ parts_of_append_all transition_size (sheet_transitions P) [] (transition_length P)
