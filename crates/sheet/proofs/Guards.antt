-- O1: refusals looked at in the printed order: they stop at the first that holds, whatever would come then, or none of them holds and they
-- let everything through. No other theorem walks the order.
-- Assumes nothing.
use mathlib.Core.Path.{◌≡◌, refl, sym, ap, ◌∙◌}
use mathlib.Core.Bool.{Bool, true, false}
use mathlib.Core.List.{List}
use Prim.Native.Nat.{ℕ, suc, ◌≤◌, ◌<◌}
use native.Mathlib.Decide.{dec_lt}
use native.Mathlib.Omega.{arith}
use Rattle.sheet.specs.Refusals.{refusal}
use Rattle.sheet.specs.Verdict.{Verdict, accepted, refused, refuse_if, trailer_verdict, tables_verdict}

-- no refusal from i on and below j holds
abbrev pub NoRefusal : List ℕ → ℕ → ℕ → Type 0
NoRefusal b i j = (l : ℕ) → i ≤ l → l < j → refusal b l ≡ false

none_then : (b : List ℕ) (i j k : ℕ) → NoRefusal b i j → NoRefusal b j k → NoRefusal b i k
none_then b i j k f g l low high = elim (dec_lt l j) [ yes h ↦ f l low h | no h ↦ g l (omega arith) high ]

-- G looks at the refusals from i on and below j
pub data Guard (b : List ℕ) (i j : ℕ) (G : Verdict → Verdict) : Type 0 where
  stops : (k : ℕ) → refusal b k ≡ true → NoRefusal b i k → ((v : Verdict) → G v ≡ refused k 0) → Guard b i j G
  lets : NoRefusal b i j → ((v : Verdict) → G v ≡ v) → Guard b i j G

guard_if : (b : List ℕ) (k : ℕ) → Guard b k (suc k) (refuse_if (refusal b k) k)
guard_if b k = go (refusal b k) refl
  where
    go : (w : Bool) → refusal b k ≡ w → Guard b k (suc k) (refuse_if w k)
    go true e = stops k e (λ l low high. absurd (omega arith)) (λ v. refl)
    go false e = lets (λ l low high. let same : l ≡ k = omega arith in ap (refusal b) same ∙ e) (λ v. refl)

-- one behind another
guard_then : {b : List ℕ} {i j k : ℕ} {F G : Verdict → Verdict} → Guard b i j F → Guard b j k G → Guard b i k (λ v. F (G v))
guard_then {b} {i} {j} {k} {F} {G} (stops l e n f) g = stops l e n (λ v. f (G v))
guard_then {b} {i} {j} {k} {F} {G} (lets m f) (stops l e n g) = stops l e (none_then b i j l m n) (λ v. f (G v) ∙ g v)
guard_then {b} {i} {j} {k} {F} {G} (lets m f) (lets n g) = lets (none_then b i j k m n) (λ v. f (G v) ∙ g v)

pub trailer_guard : (b : List ℕ) → Guard b 1 5 (trailer_verdict b)
unfolding refusal
trailer_guard b = guard_then (guard_if b 1) (guard_then (guard_if b 2) (guard_then (guard_if b 3) (guard_if b 4)))

pub tables_guard : (b : List ℕ) → Guard b 5 10 (tables_verdict b)
unfolding refusal
tables_guard b =
    guard_then (guard_if b 5) (guard_then (guard_if b 6) (guard_then (guard_if b 7) (guard_then (guard_if b 8) (guard_if b 9))))

pub sheet_guard : (b : List ℕ) → Guard b 1 10 (λ v. trailer_verdict b (tables_verdict b v))
sheet_guard b = guard_then (trailer_guard b) (tables_guard b)

-- what was seen with nothing behind the refusals holds with anything behind them
module _ {b : List ℕ} {i j : ℕ} {G : Verdict → Verdict} where
  pub guard_stopped : Guard b i j G → (k s : ℕ) → G accepted ≡ refused k s → (v : Verdict) → G v ≡ refused k s
  guard_stopped (stops l h n g) k s e v = g v ∙ sym (g accepted) ∙ e
  guard_stopped (lets n g) k s e v = let f = sym (g accepted) ∙ e in let z : ◌≡◌ {A = ℕ} 0 1 = cc in absurd (omega arith)

  pub guard_passed : Guard b i j G → G accepted ≡ accepted → NoRefusal b i j × ((v : Verdict) → G v ≡ v)
  guard_passed (stops l h n g) e = let f = sym (g accepted) ∙ e in let z : ◌≡◌ {A = ℕ} 0 1 = cc in absurd (omega arith)
  guard_passed (lets n g) e = (n, g)
