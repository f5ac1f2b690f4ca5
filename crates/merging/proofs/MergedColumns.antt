-- V3, R19: the columns of an accepted sheet merged as far as it goes: where labels are left, no sheet has the columns; where none is left,
-- the word has them, and its run and its restated sheet are the answer.
-- Assumes nothing.
use mathlib.Core.Path.{◌≡◌, sym, ap, ap₂, ◌∙◌, subst}
use mathlib.Core.Bool.{Bool, true, false}
use mathlib.Core.List.{List, [], map, append-nil, Memᴰ}
use Prim.Native.Nat.{ℕ, ◌/◌, ◌^◌, ◌<◌}
use native.Mathlib.Omega.{arith}
use lib.ListN.{length, length-map}
use Rattle.sets.specs.Bits.{member}
use Rattle.sets.proofs.Bools.{not_both}
use Rattle.sets.proofs.Members.{member_zero}
use Rattle.systems.specs.Tables.{InOrder}
use Rattle.sheet.specs.Numbers.{number, parts}
use Rattle.sheet.specs.declared.Component.{Component}
use Rattle.sheet.specs.Layout.{tables}
use Rattle.sheet.specs.Sections.{steps_in}
use Rattle.sheet.specs.Writing.{step_bytes}
use Rattle.sheet.proofs.Numbers.{length_numbers, numbers_back}
use Rattle.answers.specs.declared.Sizes.{Sizes}
use Rattle.answers.specs.declared.Answer.{Answer}
use Rattle.answers.specs.Restated.{with_steps}
use Rattle.answers.proofs.Restated.{accepted_order}
use Rattle.columns.specs.ColumnRefusals.{HasColumns, Executable}
use Rattle.columns.specs.Merging.{single, IsWordOf, Heads, Merged}
use Rattle.columns.specs.Calls.{ColumnsAnswer}
use Rattle.columns.proofs.Merging.{merged_all, merged_stuck}
use Rattle.columns.proofs.Merged.{word_fits, singles_small, merged_has, merged_not, no_word_not}
use Rattle.merging.specs.legible.Reading.{rest_in}
use Rattle.merging.specs.heads.Heads.{LeftOver}
use Rattle.merging.specs.merge.Merging.{MergedInto}
use Rattle.merging.specs.Words.{WordGiven, WordAnswer}
use Rattle.merging.proofs.LinedColumns.{Found, columns_found, one_each}

-- ---- the steps that were written (S5)

-- the bytes of some steps read back
steps_back : (xs : List ℕ) → ((x : ℕ) → Memᴰ x xs → x < 2 ^ 64) → steps_in (step_bytes xs) ≡ xs
steps_back xs small =
    ap₂ (λ (i : ℕ) (l : List ℕ). map number (parts 8 i l)) count (sym (append-nil (step_bytes xs))) ∙ numbers_back 8 xs [] small
  where
    count : length (step_bytes xs) / 8 ≡ length xs
    count = let e = length_numbers 8 xs in omega arith

module _ {b : List ℕ} {z : Sizes} {l : List Component} {o d : List ℕ} {cs : List (List ℕ)} (f : Found b z l o d cs)
    {cs' : List (List ℕ)} {section : List ℕ} (M : MergedInto o cs cs' section)
  where
    ok : InOrder (tables b)
    ok = accepted_order b f.sheet.sheet_accepted

    merged : Merged (tables b) (rest_in cs) M.word (rest_in cs')
    merged = M.merged (tables b) ok f.participants_told

    still_each : length cs' ≡ (tables b).components
    still_each = M.size ∙ one_each f

    -- ---- labels are left (R19)

    -- an action of the tables that heads all of its columns would be ready
    none_heads : (a : ℕ) → a < (tables b).actions → ¬ Heads (tables b) (rest_in cs') a
    none_heads a h heads-all =
        let most = ok.actions_fit in
        let fits : a < 64 = omega arith in
        let takes = f.participants_told.each a fits in
        let (i, low, has) = ok.action_used a h in
        M.none_ready a fits (λ e. not_both ((takes i).1 (low, has)) (ap (λ (x : ℕ). member x i) e ∙ member_zero i))
        (λ j m. heads-all j ((takes j).0 m).0 ((takes j).0 m).1)

    -- R19: no sheet has the columns
    pub left_not : {some : Bool} → LeftOver cs' some → some ≡ true → ¬ Executable b cs
    left_not left e =
        let (j, h, rest) = left.some e in
        let low : j < (tables b).components = let n = still_each in omega arith in
        no_word_not b cs (merged_stuck (tables b) ok (rest_in cs) M.word (rest_in cs') merged none_heads j low rest)

    -- ---- the word (V3)

    steps_told : steps_in section ≡ map single M.word
    steps_told =
        ap steps_in M.written
        ∙ steps_back (map single M.word) (singles_small M.word (word_fits (tables b) ok M.word merged.over))

    -- V3: what running and restating it asks
    pub word_given : WordGiven b section
    word_given =
        record {
          word = M.word;
          word_over = merged.over;
          word_few = let f = M.few in omega arith;
          section_told = steps_told;
          section_short =
              let f = M.few in
              let e = ap length M.written ∙ length_numbers 8 (map single M.word) in
              let n = length-map M.word single in
              omega arith;
        }

    module _ {some : Bool} (left : LeftOver cs' some) (none : some ≡ false) where
      is_word : IsWordOf (tables b) (rest_in cs) M.word
      is_word =
          merged_all (tables b) (rest_in cs) M.word (rest_in cs') merged
          (λ j h. left.none none j (let n = still_each in omega arith))

      -- V3, R19, R13: what the run of the word and its restated sheet answer
      pub word_answered : {out : List ℕ} {r : Answer} {after : List ℕ} → WordAnswer b section out r after → ColumnsAnswer b d out r after
      word_answered (WordAnswer.faulty fault told kept) =
          ColumnsAnswer.not_executable f.sheet.sheet_accepted cs (columns_found f)
          (merged_not b cs M.word is_word (rw steps_told at fault)) told kept
      word_answered (WordAnswer.runs fine answer) =
          ColumnsAnswer.as_restated f.sheet.sheet_accepted cs (columns_found f) (with_steps b (steps_in section)) has
          answer.answer_told answer.output_left
        where
          has : HasColumns b cs (with_steps b (steps_in section))
          has =
              subst (λ (xs : List ℕ). HasColumns b cs (with_steps b xs)) (sym steps_told)
              (merged_has b d cs f.sheet.sheet_accepted (columns_found f) M.word is_word (rw steps_told at fine))
