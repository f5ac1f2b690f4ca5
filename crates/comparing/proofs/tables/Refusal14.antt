-- R14: whether the tables of two accepted sheets differ, from the sizes of each.
-- Assumes nothing.
use mathlib.Core.Path.{◌≡◌, refl, sym, ◌∙◌}
use mathlib.Core.Bool.{Bool, true, false, not}
use mathlib.Core.List.{List}
use Prim.Native.Nat.{ℕ}
use Rattle.sets.proofs.Bools.{not_both}
use Rattle.sheet.specs.Layout.{front}
use Rattle.answers.specs.declared.Sizes.{Sizes}
use Rattle.std.specs.Bool.{Decides}
use Rattle.answers.specs.Related.{SameTables}
use Rattle.answers.specs.TwoSheets.{tables_differ}
use Rattle.answers.proofs.TwoSheets.{differ_false}
use Rattle.desk.specs.AcceptedSheet.{AcceptedSheet}

module _ (b c : List ℕ) where
  differ_true : ¬ SameTables b c → true ≡ tables_differ b c
  differ_true n = go (tables_differ b c) refl
    where
      go : (t : Bool) → tables_differ b c ≡ t → true ≡ t
      go true e = refl
      go false e = absurd (n ((differ_false b c).0 e))

  module _ (z w : Sizes) (p : AcceptedSheet b z) (q : AcceptedSheet c w) where
    pub differ_n : ¬ (z.n ≡ w.n) → true ≡ tables_differ b c
    differ_n h = differ_true (λ t. h (p.sizes_read.n_read ∙ t.same_components ∙ sym q.sizes_read.n_read))

    pub differ_m : ¬ (z.m ≡ w.m) → true ≡ tables_differ b c
    differ_m h = differ_true (λ t. h (p.sizes_read.m_read ∙ t.same_actions ∙ sym q.sizes_read.m_read))

    pub differ_s : ¬ (z.s ≡ w.s) → true ≡ tables_differ b c
    differ_s h = differ_true (λ t. h (p.sizes_read.s_read ∙ t.same_steps_at ∙ sym q.sizes_read.s_read))

    -- with the numbers the same, the bytes before S decide
    pub differ_front : z.n ≡ w.n → z.m ≡ w.m → z.s ≡ w.s → (t : Bool) → Decides t (front b ≡ front c) → not t ≡ tables_differ b c
    differ_front hn hm hs t d = go t refl
      where
        go : (u : Bool) → t ≡ u → not u ≡ tables_differ b c
        go true e =
            sym ((differ_false b c).1
            (record {
              same_front = d.0 e;
              same_steps_at = sym p.sizes_read.s_read ∙ hs ∙ q.sizes_read.s_read;
              same_components = sym p.sizes_read.n_read ∙ hn ∙ q.sizes_read.n_read;
              same_actions = sym p.sizes_read.m_read ∙ hm ∙ q.sizes_read.m_read;
            }))
        go false e = differ_true (λ s. not_both (d.1 s.same_front) e)
