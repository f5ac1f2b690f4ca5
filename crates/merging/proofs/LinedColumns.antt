-- R18, V2: what the reader of columns leaves, by the tables of an accepted sheet: the columns of its components, with few enough labels,
-- each an action in which its component takes part.
-- Assumes nothing.
use mathlib.Core.Path.{◌≡◌, refl, sym, ap, ◌∙◌, subst}
use mathlib.Core.Bool.{true}
use mathlib.Core.List.Memᴰ
use mathlib.Core.List.{List, [], Memᴰ}
use Prim.Native.Nat.{ℕ, ◌<◌, ◌≤◌}
use native.Mathlib.Decide.{dec_lt}
use native.Mathlib.Omega.{arith}
use lib.ListN.{length, get_or-eq_default}
use Rattle.sets.specs.Bits.{member}
use Rattle.sheet.specs.Bounds.{most_actions, most_steps}
use Rattle.sheet.specs.Layout.{component_count, tables_of, tables}
use Rattle.sheet.specs.declared.Component.{Component}
use Rattle.sheet.specs.Sections.{alphabet_at, Decoded}
use Rattle.dependence.specs.participants.Participants.{participates, Participants, OfSixteen}
use Rattle.dependence.proofs.participants.Entering.{participants_sixteen}
use Rattle.answers.specs.declared.Sizes.{Sizes}
use Rattle.answers.specs.declared.Answer.{Answer}
use Rattle.answers.specs.declared.Answer.TheVariants.{Accepted, Given, Refused}
use Rattle.answers.specs.declared.Refusal.TheVariants.{NotColumns}
use Rattle.answers.proofs.Passing.{NotAccepted}
use Rattle.answers.proofs.Restated.{accepted_order}
use Rattle.columns.specs.ColumnRefusals.{FilledBy, ColumnsIn, Legible}
use Rattle.columns.proofs.ColumnBytes.{filled_over}
use Rattle.desk.specs.AcceptedSheet.{AcceptedSheet}
use Rattle.merging.specs.legible.Reading.{ColumnsRead, rest_in}
use Rattle.merging.specs.heads.Heads.{Lined, labels_left}

-- ---- by the alphabets of an accepted sheet

module _ (b : List ℕ) (z : Sizes) {l : List Component} (d : List ℕ) (D : Decoded (tables b) l) where
  -- S3: a component is decoded for each that the sheet has
  counted : length l ≡ component_count b
  unfolding tables tables_of
  counted = D.count

  -- R18: columns that fill the bytes by the decoded components are columns of the sheet, and the other way round
  filled_in : {cs : List (List ℕ)} → FilledBy d (length l) (alphabet_at l) cs → ColumnsIn b d cs
  filled_in f = filled_over (component_count b) (tables b).alphabet counted D.alphabet_told f

  in_filled : {cs : List (List ℕ)} → ColumnsIn b d cs → FilledBy d (length l) (alphabet_at l) cs
  in_filled f = filled_over (length l) (alphabet_at l) (sym counted) (λ j h. let n = counted in sym (D.alphabet_told j (omega arith))) f

  -- R18: what the reader refuses is 18, and no columns are there
  pub not_legible : (cs : List (List ℕ)) (r : Answer) → NotAccepted r → ColumnsRead d z l cs r → (r ≡ Refused NotColumns 0 0) × (¬ Legible b d)
  not_legible cs (Accepted w) h read = absurd (h w refl)
  not_legible cs (Given x) h read = absurd read
  not_legible cs (Refused k i s) h read = (read.0, λ q. read.1 q.0 (in_filled q.1))

-- ---- the columns that were read (R18)

-- R18: what is known once the columns in the bytes d were read for the accepted sheet b, which has these participants (N3)
pub record Found (b : List ℕ) (z : Sizes) (l : List Component) (o d : List ℕ) (cs : List (List ℕ)) : Type 0 where
  pub sheet : AcceptedSheet b z
  pub decoded : Decoded (tables b) l
  pub participants_told : Participants (tables b) o
  pub read : FilledBy d (length l) (alphabet_at l) cs

-- R18: by what the reader answered
pub read_by : (b : List ℕ) (z : Sizes) {l : List Component} {d : List ℕ} {cs : List (List ℕ)} (r : Answer) (w : Sizes) → r ≡ Accepted w
    → Decoded (tables b) l → ColumnsRead d z l cs r → ColumnsIn b d cs
read_by b z {l = l} {d = d} {cs = cs} r w e D read = filled_in b z d D (subst (ColumnsRead d z l cs) e read).1

-- R18: of columns that some bytes hold
pub found_by : {b : List ℕ} {z : Sizes} {l : List Component} {o d : List ℕ} {cs : List (List ℕ)}
    → AcceptedSheet b z → Decoded (tables b) l → Participants (tables b) o → ColumnsIn b d cs → Found b z l o d cs
found_by {b = b} {z = z} {d = d} k D P held =
    record {
      sheet = k;
      decoded = D;
      participants_told = P;
      read = in_filled b z d D held;
    }

module _ {b : List ℕ} {z : Sizes} {l : List Component} {o d : List ℕ} {cs : List (List ℕ)} (f : Found b z l o d cs) where
  -- R18: the columns that were read fill the bytes
  pub columns_found : ColumnsIn b d cs
  columns_found = filled_in b z d f.decoded f.read

  -- V2: one for each component
  pub one_each : length cs ≡ (tables b).components
  one_each = f.read.one_each ∙ f.decoded.count

  -- L6: they have few enough labels together to be steps
  pub few_left : labels_left cs ≤ most_steps
  few_left = let few = f.read.few in omega arith

  sixteen : OfSixteen o
  sixteen = participants_sixteen (tables b) o f.participants_told (let n = f.decoded.count in let few = f.decoded.few in omega arith)

  -- R18: a label is an action in which its component takes part
  own : (j a : ℕ) → Memᴰ a (rest_in cs j) → (a < most_actions) × (participates o j a ≡ true)
  own j a m = elim (dec_lt j (length l)) [ yes h ↦ inside h | no h ↦ behind (omega arith) ]
    where
      inside : j < length l → (a < most_actions) × (participates o j a ≡ true)
      inside h =
          let ok = accepted_order b f.sheet.sheet_accepted in
          let mine = ap (λ (x : ℕ). member x a) (sym (f.decoded.alphabet_told j h)) ∙ f.read.own j h a m in
          let low : j < (tables b).components = let e = f.decoded.count in omega arith in
          let below = ok.action_below j low a mine in
          let most = ok.actions_fit in
          let fits : a < most_actions = omega arith in
          (fits, (f.participants_told.each a fits j).1 (low, mine))

      behind : length l ≤ j → (a < most_actions) × (participates o j a ≡ true)
      behind h =
          let none : rest_in cs j ≡ [] = get_or-eq_default cs [] {n = j} (let e = f.read.one_each in omega arith) in
          absurd (Memᴰ.not-nil (subst (λ (x : List ℕ). Memᴰ a x) none m))

  -- V3: they may be merged
  pub lined : Lined o cs
  lined =
      record {
        sixteen = sixteen;
        few = let n = f.read.one_each in let few = f.decoded.few in omega arith;
        own = own;
      }
