-- A1 to A3: what the calls on two sheets answer: of a pair that passed what was asked for, else the refusal of the pair.
-- Assumes nothing.
use mathlib.Core.Path.{◌≡◌, refl, sym, ap, ◌∙◌, subst}
use mathlib.Core.Bool.{Bool, true, false, cond}
use mathlib.Core.List.{List, []}
use Prim.Native.Nat.{ℕ}
use lib.Dec.{ltb}
use lib.ListN.{length}
use Rattle.sheet.specs.Refusals.{same_numbers}
use Rattle.sheet.specs.Verdict.{accepted, trailer_verdict, Accepted}
use Rattle.answers.specs.declared.Sizes.{Sizes}
use Rattle.answers.specs.declared.Answer.{Answer}
use Rattle.answers.specs.Restated.{restated_steps}
use Rattle.answers.specs.Outcomes.{given, refused, values, one_value, bit, number_of, outcome_of, on_sheet, sizes_of, read_outcome}
use Rattle.answers.specs.TwoSheets.{of_two}
use Rattle.answers.specs.SameWork.{same_work}
use Rattle.answers.specs.Leaner.{winner}
use Rattle.answers.proofs.TwoSheets.{two_given}
use Rattle.answers.proofs.Leaner.{leaner_first, leaner_second, leaner_refused}
use Rattle.answers.proofs.Passing.{NotAccepted}
use Rattle.reading.specs.Reading.{up_to_trailer}
use Rattle.desk.specs.AcceptedSheet.{AcceptedSheet}
use Rattle.desk.specs.Left.{Judged}
use Rattle.desk.specs.declared.verdict.Room.{Room}
use Rattle.comparing.specs.Both.{SecondJudged}
use Rattle.desk.proofs.AcceptedFacts.{section_all}
use Rattle.desk.proofs.verdict.Judging.{refused_told, trailer_stopped, trailer_verdict_fact}
use Rattle.comparing.specs.Calls.{SameWorkAnswer, WinnerAnswer, LeanerPart}
use Rattle.comparing.proofs.both.Refusals.{sizes_told, BothPassed, both_passed, first_stops, second_stops, trailer_stops, TwoRefused, refused_two, refused_alike}

-- the second sheet has fewer restated steps
abbrev fewer : List ℕ → List ℕ → Bool
fewer b c = ltb (length (restated_steps c)) (length (restated_steps b))

bit_cond : (t : Bool) → bit t ≡ cond t 1 0
bit_cond true = refl
bit_cond false = refl

-- ---- a pair that passed (A1 to A3)

-- S3, E5: what judging left of the second sheet
pub second_judged : {b c : List ℕ} {z : Sizes} {room : Room} → SecondJudged b c (Answer.Accepted z) room → Judged c (Answer.Accepted z) room
second_judged {b} {c} {z} j =
    let p = both_passed b c (Answer.Accepted z) z refl j.answer_told in
    record { answer_told = sizes_told c z p.second_accepted; room_left = λ acc. j.room_left z refl }

-- R14: the pair, by what was told of the second sheet
pub pair_passed : {b b' c : List ℕ} {z : Sizes} {room : Room} → b' ≡ b → SecondJudged b' c (Answer.Accepted z) room → BothPassed b c z
pair_passed {b} {b'} {c} {z} e j = subst (λ (x : List ℕ). BothPassed x c z) e (both_passed b' c (Answer.Accepted z) z refl j.answer_told)

-- O6: the refusal of the pair
pub pair_refused : {b b' c : List ℕ} {a : Answer} {room : Room} → b' ≡ b → NotAccepted a → SecondJudged b' c a room → TwoRefused b c a
pair_refused {b} {b'} {c} {a} e h j = subst (λ (x : List ℕ). TwoRefused x c a) e (refused_two b' c a h j.answer_told)

-- O6: the refusal of the first sheet
pub first_refused : {b c : List ℕ} {a : Answer} {room : Room} → NotAccepted a → Judged b a room → TwoRefused b c a
first_refused {b} {c} {a} h j = refused_two b c a h (first_stops b c a h j.answer_told)

-- O6: the refusal of the first sheet's trailer
pub first_unread : {b c : List ℕ} {a : Answer} → NotAccepted a → outcome_of a ≡ read_outcome b (trailer_verdict b accepted) → TwoRefused b c a
first_unread {b} {c} {a} h e =
    let stop = trailer_stopped b a h e in
    refused_two b c a h (first_stops b c a h (refused_told b a (trailer_verdict b accepted) stop (trailer_verdict_fact b a h stop)))

-- O6: and of the second's
pub second_unread : {b b' c : List ℕ} {a : Answer} → b' ≡ b → Accepted b' → NotAccepted a
    → outcome_of a ≡ on_sheet 1 (trailer_verdict c accepted) (given (sizes_of c)) → TwoRefused b c a
second_unread {b} {b'} {c} {a} q acc h e =
    subst (λ (x : List ℕ). TwoRefused x c a) q (refused_two b' c a h (second_stops b' c acc a h (trailer_stops c a h e)))

module _ {b c : List ℕ} {z : Sizes} (p : BothPassed b c z) where
  gives : {A : Type 0} (x : A) → given x ≡ of_two b c x
  gives x = sym ((two_given b c x x).1 (p.first_accepted.sheet_accepted, p.second_accepted.sheet_accepted, p.same_tables, refl))

  -- a call that asks x of the pair, and tells it as the number y
  two_answered : {A : Type 0} (f : A → List ℕ) (x : A) (y : ℕ) → one_value y ≡ f x → outcome_of (Answer.Given y) ≡ values f (of_two b c x)
  two_answered f x y e = ap given e ∙ ap (values f) (gives x)

  pub work_told : (t : Bool) (y : ℕ) → y ≡ bit t → t ≡ same_numbers (restated_steps b) (restated_steps c) → SameWorkAnswer b c (Answer.Given y)
  unfolding same_work
  work_told t y e q = two_answered (λ (s : Bool). one_value (bit s)) (same_numbers (restated_steps b) (restated_steps c)) y (ap one_value (e ∙ ap bit q))

  pub winner_told : (t : Bool) (y : ℕ) → y ≡ bit t → t ≡ fewer b c → WinnerAnswer b c (Answer.Given y)
  unfolding winner
  winner_told t y e q = two_answered one_value (cond (fewer b c) 1 0) y (ap one_value (e ∙ ap bit q ∙ bit_cond (fewer b c)))

  winner_is : (t : Bool) → t ≡ fewer b c → winner b c ≡ given (bit t)
  unfolding winner
  winner_is t q = sym (gives (cond (fewer b c) 1 0)) ∙ ap given (sym (ap bit q ∙ bit_cond (fewer b c)))

  -- the part from S up to the trailer is the section of the sheet that won
  pub section_first : (y : Sizes) → AcceptedSheet b y → (p : List ℕ) (t : Bool) → t ≡ false → t ≡ fewer b c → p ≡ up_to_trailer y.s b
      → LeanerPart b c p
  section_first y k q t f w h = section_all b y k q h ∙ sym (leaner_first b c (winner_is false (sym f ∙ w)))

  pub section_second : (p : List ℕ) (t : Bool) → t ≡ true → t ≡ fewer b c → p ≡ up_to_trailer z.s c → LeanerPart b c p
  section_second q t f w h = section_all c z p.second_accepted q h ∙ sym (leaner_second b c (winner_is true (sym f ∙ w)))

-- ---- a pair that was refused (O6), and its empty part (A2)

module _ {b c : List ℕ} {a : Answer} (s : TwoRefused b c a) where
  refuses : {A : Type 0} (x : A) → refused (number_of s.refusal) s.index s.sheet ≡ of_two b c x
  refuses x = refused_alike b c (sizes_of b) x (number_of s.refusal) s.index s.sheet s.two_told

  -- a call that asks x of the pair
  two_refused : {A : Type 0} (f : A → List ℕ) (x : A) → outcome_of a ≡ values f (of_two b c x)
  two_refused f x = ap outcome_of s.answer_told ∙ ap (values f) (refuses x)

  pub no_work : SameWorkAnswer b c a
  unfolding same_work
  no_work = two_refused (λ (t : Bool). one_value (bit t)) (same_numbers (restated_steps b) (restated_steps c))

  pub no_winner : WinnerAnswer b c a
  unfolding winner
  no_winner = two_refused one_value (cond (fewer b c) 1 0)

  none_won : winner b c ≡ refused (number_of s.refusal) s.index s.sheet
  unfolding winner
  none_won = sym (refuses (cond (fewer b c) 1 0))

  pub no_section : LeanerPart b c []
  no_section = sym (leaner_refused b c (number_of s.refusal) s.index s.sheet none_won)
