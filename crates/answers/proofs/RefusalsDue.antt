-- D1: a refusal is due exactly where the outcome is one: of the verdict and what comes later, and of a text in lent bytes.
-- Assumes nothing.
use mathlib.Core.Path.{◌≡◌, refl, sym, ◌∙◌, subst}
use mathlib.Core.Logic.{◌↔◌, inl, inr}
use mathlib.Core.Bool.{Bool, true, false}
use mathlib.Core.List.{List}
use Prim.Native.Nat.{ℕ}
use native.Mathlib.Omega.{arith}
use lib.Dec.{ltb}
use lib.ListN.{length}
use Rattle.sets.proofs.Bools.{not_both, ltb_true}
use Rattle.sheet.specs.Verdict.{Verdict, verdict, IsVerdict}
use Rattle.sheet.proofs.Verdicts.{verdict_first, verdict_only}
use Rattle.answers.specs.Outcomes.{Outcome, given, refused, on_sheet, after}
use Rattle.answers.specs.LentOutput.{unless_short, length_or13}
use Rattle.answers.specs.FirstRefusal.{Refusal, NoRefusal, AfterSheet, TooShort, SheetRefusal, AtMostOne, RefusesBy}

-- ---- the verdict, then what comes later

is_verdict : (b : List ℕ) (v : Verdict) → verdict b ≡ v → IsVerdict b v
is_verdict b v e = subst (IsVerdict b) e (verdict_first b)

module _ {A : Type 0} where
  none_due : (x : A) → RefusesBy NoRefusal (given x)
  none_due x k i s = (λ e. let z : ◌≡◌ {A = ℕ} 0 1 = cc in absurd (omega arith), λ h. absurd h)

  pub after_sheet : (j : ℕ) (b : List ℕ) (P : Refusal) (o : Outcome A) → RefusesBy P o → RefusesBy (AfterSheet j b P) (on_sheet j (verdict b) o)
  after_sheet j b P o h k i s = go (verdict b) refl
    where
      go : (v : Verdict) → verdict b ≡ v → (on_sheet j v o ≡ refused k i s) ↔ AfterSheet j b P k i s
      go Verdict.accepted q = (
        λ e. inr (q, (h k i s).0 e),
        λ p. elim p [
          | inl r ↦ (let other : Verdict.refused k i ≡ Verdict.accepted = verdict_only b (Verdict.refused k i) r.0 ∙ q in
              let z : ◌≡◌ {A = ℕ} 0 1 = cc in absurd (omega arith))
          | inr r ↦ (h k i s).1 r.1
        ],
      )
      go (Verdict.refused l m) q = (
        λ e. let number : l ≡ k = cc in let index : m ≡ i = cc in let sheet : s ≡ j = cc in
            inl (is_verdict b (Verdict.refused k i) (q ∙ cc), sheet),
        λ p. elim p [
          | inl r ↦ (let same : Verdict.refused k i ≡ Verdict.refused l m = verdict_only b (Verdict.refused k i) r.0 ∙ q in
              let sheet = r.1 in
              let number : l ≡ k = cc in let index : m ≡ i = cc in cc)
          | inr r ↦ (let other : Verdict.accepted ≡ Verdict.refused l m = sym r.0 ∙ q in
              let z : ◌≡◌ {A = ℕ} 0 1 = cc in absurd (omega arith))
        ],
      )

  -- what is given comes after an accepted sheet
  pub on_given : (j : ℕ) (v : Verdict) (o : Outcome A) (x : A) → on_sheet j v o ≡ given x → (v ≡ Verdict.accepted) × (o ≡ given x)
  on_given j Verdict.accepted o x e = (refl, e)
  on_given j (Verdict.refused k i) o x e = let z : ◌≡◌ {A = ℕ} 0 1 = cc in absurd (omega arith)

  pub sheet_refuses : (b : List ℕ) (x : A) → RefusesBy (SheetRefusal b) (after (verdict b) (given x))
  sheet_refuses b x = after_sheet 0 b NoRefusal (given x) (none_due x)

  -- at most one is due, since there is one outcome
  pub one_due : (P : Refusal) (o : Outcome A) → RefusesBy P o → AtMostOne P
  one_due P o h k i s l j t p q =
      let same : refused k i s ≡ refused l j t = sym ((h k i s).1 p) ∙ (h l j t).1 q in
      (cc, cc, cc)

-- ---- lent output

pub short_due : (text : List ℕ) (room : ℕ) → RefusesBy (TooShort room text) (length_or13 text room)
unfolding length_or13
short_due text room k i s = go (ltb room (length text)) refl
  where
    go : (t : Bool) → ltb room (length text) ≡ t → (unless_short t (length text) ≡ refused k i s) ↔ TooShort room text k i s
    go true q = (λ e. ((ltb_true room (length text)).0 q, (cc, cc, cc)), λ p. let n = p.1.0 in let j = p.1.1 in let w = p.1.2 in cc)
    go false q = (λ e. let z : ◌≡◌ {A = ℕ} 0 1 = cc in absurd (omega arith), λ p. absurd (not_both ((ltb_true room (length text)).1 p.0) q))
