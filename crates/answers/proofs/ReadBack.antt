-- P1 to P5: the printed text has the lines and words that it is to have, and no other text has them.
-- Assumes nothing.
use mathlib.Core.Path.{◌≡◌, refl, sym, ap, ap₂, ◌∙◌}
use mathlib.Core.Logic.{◌≢◌}
use mathlib.Core.Bool.{Bool, true, false}
use mathlib.Core.List.{List, [], ◌∷◌, ◌++◌, map, append_assoc, append-nil, Memᴰ}
use Prim.Native.Nat.{ℕ}
use native.Mathlib.Omega.{arith}
use lib.Dec.{eqb, ltb}
use lib.ListN.{length}
use Rattle.sets.specs.Lists.{append_all, all_of, below}
use Rattle.sets.specs.Bits.{members}
use Rattle.sets.proofs.Bools.{eqb_true, eqb_false, ltb_true}
use Rattle.sets.proofs.Lists.{all_of_elim}
use Rattle.sheet.specs.Layout.{component_count, step_count}
use Rattle.sheet.specs.Verdict.{Verdict, verdict, Accepted}
use Rattle.answers.specs.Outcomes.{bit}
use Rattle.answers.specs.Ends.{end_set}
use Rattle.answers.specs.Figure.{figure}
use Rattle.answers.specs.Stuck.{stuck}
use Rattle.answers.specs.Restated.{restated_steps}
use Rattle.answers.specs.Report.{decimal, accepted_word, refused_word, step_word, end_word, part, line}
use Rattle.answers.specs.Report.{summary_line, step_texts, end_texts, step_lines, end_lines, report}
use Rattle.answers.specs.ReadBack.{words_of, Line, line_words, lines_words, TextReads}
use Rattle.answers.proofs.Decimals.{decimals}
use Rattle.answers.proofs.Reports.{report_refused, report_accepted}

-- a character that neither ends a line nor parts two words
abbrev Plain : ℕ → Type 0
Plain c = (c ≢ 10) × (c ≢ 32)

abbrev AllPlain : List ℕ → Type 0
AllPlain w = (c : ℕ) → Memᴰ c w → Plain c

-- characters before the first word of a text
word_on : (w t : List ℕ) (ws : List (List ℕ)) (ls : List (List (List ℕ))) → AllPlain w → words_of t ≡ ([] ∷ ws) ∷ ls → words_of (w ++ t) ≡ (w ∷ ws) ∷ ls
unfolding words_of
word_on [] t ws ls p e = e
word_on (c ∷ w) t ws ls p e =
    let plain = p c (Memᴰ.head refl) in
    rw ((eqb_false c 10).1 plain.0) (rw ((eqb_false c 32).1 plain.1) (rw (word_on w t ws ls (λ d m. p d (Memᴰ.tail m)) e) refl))

decimal_plain : (x : ℕ) → AllPlain (decimal x)
decimal_plain x c m = let d = decimals.digits_alone x c m in (λ e. omega arith, λ e. omega arith)

parts_on : (xs rest : List ℕ) → words_of (append_all (map part xs) ++ (10 ∷ rest)) ≡ ([] ∷ map decimal xs) ∷ words_of rest
unfolding words_of
parts_on [] rest = refl
parts_on (x ∷ xs) rest =
    ap words_of (append_assoc (part x) (append_all (map part xs)) (10 ∷ rest))
    ∙ rw (word_on (decimal x) (append_all (map part xs) ++ (10 ∷ rest)) (map decimal xs) (words_of rest) (decimal_plain x) (parts_on xs rest)) refl

-- a line in front of a text
line_on : (word xs rest : List ℕ) → AllPlain word
    → words_of (line word xs ++ rest) ≡ line_words (record { word = word; numbers = xs }) ∷ words_of rest
line_on word xs rest p =
    let e = append_assoc word (append_all (map part xs) ++ (10 ∷ [])) rest
    ∙ ap (λ (t : List ℕ). word ++ t) (append_assoc (append_all (map part xs)) (10 ∷ []) rest) in
    ap words_of e ∙ word_on word (append_all (map part xs) ++ (10 ∷ rest)) (map decimal xs) (words_of rest) p (parts_on xs rest)

-- some lines in front of a text
lines_on : (f : ℕ → List ℕ) (word rest xs : List ℕ) (ls : List Line) → AllPlain word → words_of rest ≡ lines_words ls
    → words_of (append_all (map (λ x. line word (f x)) xs) ++ rest) ≡ lines_words (map (λ x. record { word = word; numbers = f x }) xs ++ ls)
lines_on f word rest [] ls p e = e
lines_on f word rest (x ∷ xs) ls p e =
    ap words_of (append_assoc (line word (f x)) (append_all (map (λ y. line word (f y)) xs)) rest)
    ∙ line_on word (f x) (append_all (map (λ y. line word (f y)) xs) ++ rest) p
    ∙ ap (λ (ws : List (List (List ℕ))). line_words (record { word = word; numbers = f x }) ∷ ws) (lines_on f word rest xs ls p e)

-- every character above the space
above_plain : (w : List ℕ) → all_of (λ c. ltb 32 c) w ≡ true → AllPlain w
above_plain w e c m = let h = (ltb_true 32 c).0 (all_of_elim (λ d. ltb 32 d) w e c m) in (λ f. omega arith, λ f. omega arith)

refused_read : (b : List ℕ) (k i : ℕ) → verdict b ≡ Verdict.refused k i
    → words_of (report b) ≡ lines_words (record { word = refused_word; numbers = k ∷ i ∷ [] } ∷ [])
unfolding words_of
refused_read b k i e =
    ap words_of (report_refused b k i e ∙ sym (append-nil (line refused_word (k ∷ i ∷ []))))
    ∙ line_on refused_word (k ∷ i ∷ []) [] (above_plain refused_word refl)

accepted_read : (b : List ℕ) → Accepted b
    → words_of (report b)
    ≡ lines_words
    (record { word = accepted_word; numbers = step_count b ∷ length (restated_steps b) ∷ figure b ∷ bit (stuck b) ∷ [] }
    ∷ (map (λ x. record { word = step_word; numbers = members x }) (restated_steps b)
    ++ map (λ j. record { word = end_word; numbers = j ∷ members (end_set b j) }) (below (component_count b))))
unfolding summary_line step_lines end_lines words_of
accepted_read b acc =
    let four = step_count b ∷ length (restated_steps b) ∷ figure b ∷ bit (stuck b) ∷ [] in
    let ends = end_texts (end_set b) (below (component_count b)) in
    let ls : List Line = map (λ j. record { word = end_word; numbers = j ∷ members (end_set b j) }) (below (component_count b)) in
    let last : words_of ends ≡ lines_words ls
    = ap words_of (sym (append-nil ends))
    ∙ lines_on (λ j. j ∷ members (end_set b j)) end_word [] (below (component_count b)) [] (above_plain end_word refl) refl
    ∙ ap lines_words (append-nil ls) in
    ap words_of (report_accepted b acc)
    ∙ line_on accepted_word four (step_texts (restated_steps b) ++ ends) (above_plain accepted_word refl)
    ∙ ap (λ (ws : List (List (List ℕ))). line_words (record { word = accepted_word; numbers = four }) ∷ ws)
    (lines_on members step_word ends (restated_steps b) ls (above_plain step_word refl) last)

-- ---- the words fix the text

-- the words behind the first of a line, each behind a space
abbrev joined : List (List ℕ) → List ℕ
joined [] = []
joined (w ∷ ws) = 32 ∷ (w ++ joined ws)

-- the lines behind the first, each behind a line feed
abbrev joined_lines : List (List (List ℕ)) → List ℕ
joined_lines [] = []
joined_lines ([] ∷ ls) = 10 ∷ joined_lines ls
joined_lines ((w ∷ ws) ∷ ls) = 10 ∷ (w ++ (joined ws ++ joined_lines ls))

-- the words of a text: its first word, the others of its first line, its other lines; and the text, put together from them
record Split (s : List ℕ) : Type 0 where
  first : List ℕ
  others : List (List ℕ)
  lines : List (List (List ℕ))
  words : words_of s ≡ (first ∷ others) ∷ lines
  again : first ++ (joined others ++ joined_lines lines) ≡ s

split : (s : List ℕ) → Split s
unfolding words_of
split [] = record { first = []; others = []; lines = []; words = refl; again = refl }
split (c ∷ s) = go (split s) (eqb c 10) refl (eqb c 32) refl
  where
    go : Split s → (feed : Bool) → eqb c 10 ≡ feed → (gap : Bool) → eqb c 32 ≡ gap → Split (c ∷ s)
    go r true e gap f =
        let is : c ≡ 10 = (eqb_true c 10).0 e in
        record {
          first = [];
          others = [];
          lines = (r.first ∷ r.others) ∷ r.lines;
          words = rw e (rw r.words refl);
          again = ap₂ (λ (d : ℕ) (l : List ℕ). d ∷ l) (sym is) r.again;
        }
    go r false e true f =
        let is : c ≡ 32 = (eqb_true c 32).0 f in
        record {
          first = [];
          others = r.first ∷ r.others;
          lines = r.lines;
          words = rw e (rw f (rw r.words refl));
          again =
              ap₂ (λ (d : ℕ) (l : List ℕ). d ∷ l) (sym is)
              (append_assoc r.first (joined r.others) (joined_lines r.lines) ∙ r.again);
        }
    go r false e false f =
        record {
          first = c ∷ r.first;
          others = r.others;
          lines = r.lines;
          words = rw e (rw f (rw r.words refl));
          again = ap (λ (l : List ℕ). c ∷ l) r.again;
        }

-- the text of its lines
abbrev whole : List (List (List ℕ)) → List ℕ
whole [] = []
whole ([] ∷ ls) = joined_lines ls
whole ((w ∷ ws) ∷ ls) = w ++ (joined ws ++ joined_lines ls)

put_together : (s : List ℕ) → whole (words_of s) ≡ s
put_together s = let r = split s in ap whole r.words ∙ r.again

words_fix : (s t : List ℕ) → words_of s ≡ words_of t → s ≡ t
words_fix s t e = sym (put_together s) ∙ ap whole e ∙ put_together t

-- P1 to P5: the text of a refused and of an accepted sheet, read line by line and word by word; and no other text reads so
pub text_reads : TextReads
text_reads = record { words_fix = words_fix; refused_read = refused_read; accepted_read = accepted_read }
