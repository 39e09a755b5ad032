-- The statements of `specs/Laws.antt`, each with its proof.
-- Assumes nothing.
use Rattle.std.proofs.Common.{◌≡◌, ℕ, ◌<◌, Bool, true, false, cond, ◌==◌, Result, Ok, Err, List, [], ◌∷◌, get_or, take, sym, refl, ap, ◌∙◌, ⊎_elim, arith}
use Rattle.frame.specs.declared.Frame.{Frame}
use Rattle.frame.specs.declared.Refusal.{Refusal}
use Rattle.frame.specs.declared.Refusal.TheVariants.{Torn, NotDigits, WrongCheck, WrongKind}
use Rattle.frame.specs.declared.NoRoom.{NoRoom}
use Rattle.choice.specs.Every.{every}
use Rattle.frame.specs.Case.{upper_of, upper_case}
use Rattle.frame.specs.Pairs.{value_of, digit_of, pair_at, pairs_from, sum_of, check_of}
use Rattle.frame.specs.Reading.{number, told, is_torn, are_digits, read_as, kind_of}
use Rattle.frame.specs.Writing.{digits_of, line_of, written}
use Rattle.frame.specs.Laws.{DigitsAreInverse, CheckComesToZero, LengthsAreKnown, WritesUpperCase, WrittenIsReadBack, AcceptedIsWrittenUpToCase, ReadInEveryCase, CaseIsSharp, OnlyOneAnswerFits}
use Rattle.frame.proofs.Digits.{digit_is_digit, value_of_digit, value_below, digit_of_value}
use Rattle.frame.proofs.Sums.{sum_with_check}
use Rattle.frame.proofs.Lines.{line_length}
use Rattle.frame.proofs.Case.{upper_twice, in_upper, line_upper, read_in_case}
use Rattle.frame.proofs.Refusals.{is_zero, by_order}
use Rattle.frame.proofs.Back.{line_is_read, line_is_written}

pub digits_are_inverse : DigitsAreInverse
digits_are_inverse =
    record {
      written_then_read = λ v h. (digit_is_digit v h, value_of_digit v h);
      read_then_written = λ b h. (value_below b h, digit_of_value b h);
    }

pub check_comes_to_zero : CheckComesToZero
check_comes_to_zero vs = sum_with_check vs

pub lengths_are_known : LengthsAreKnown
unfolding line_of digits_of
lengths_are_known =
    record {
      any = line_length;
      header = λ edition n. refl;
      row = λ processor place tail locked next marks. refl;
      count = λ high low. refl;
      refusal = λ refusal high low. refl;
    }

kind_below : (is_first : Bool) → kind_of is_first < 256
kind_below true = omega arith
kind_below false = omega arith

pub written_is_read_back : WrittenIsReadBack
written_is_read_back is_first first second after f s =
    line_is_read (kind_of is_first) (first ∷ second ∷ []) after (kind_below is_first, (f, (s, tt)))

first_three : (text : List ℕ) (a b c d : ℕ) →
    pairs_from 0 4 text ≡ a ∷ b ∷ c ∷ d ∷ [] → pairs_from 0 3 text ≡ a ∷ b ∷ c ∷ []
unfolding pairs_from
first_three text a b c d e = cc

pub accepted_is_written_up_to_case : AcceptedIsWrittenUpToCase
accepted_is_written_up_to_case text is_first kind first second check e =
    let h = (by_order 4 (kind_of is_first) text).none.0 (ap (λ t. t.refusal) e) in
    let same = sym (is_zero 4 (kind_of is_first) text h.0 h.1 h.2 h.3) ∙ e in
    sym (upper_twice (take 9 text))
    ∙ ap upper_case (line_is_written 3 text h.0 h.1 h.2)
    ∙ ap (λ (vs : List ℕ). upper_case (line_of vs)) (first_three text kind first second check (ap (λ t. t.numbers) same))

pub writes_upper_case : WritesUpperCase
writes_upper_case vs h = in_upper (line_of vs) (line_upper vs h)

pub read_in_every_case : ReadInEveryCase
read_in_every_case s t is_first e = read_in_case 3 (kind_of is_first) s t e

pub case_is_sharp : CaseIsSharp
unfolding line_of digits_of digit_of check_of sum_of read_as is_torn are_digits every pair_at pairs_from value_of upper_of
case_is_sharp =
    record {
      written = refl;
      accepted = refl;
      another = λ e. omega (arith, ap (λ (l : List ℕ). get_or l 7 0) e);
      no_digits =
          λ b.
          ⊎_elim (λ e. rw e (refl, refl))
          (⊎_elim (λ e. rw e (refl, refl)) (⊎_elim (λ e. rw e (refl, refl)) (λ e. rw e (refl, refl))));
      bytes_needed = refl;
    }

-- what an answer says determines it

abbrev numbered : ℕ → Refusal
numbered n = cond (n == 2) Torn (cond (n == 3) NotDigits (cond (n == 4) WrongCheck WrongKind))

numbered_back : (r : Refusal) → numbered (number r) ≡ r
numbered_back Torn = refl
numbered_back NotDigits = refl
numbered_back WrongCheck = refl
numbered_back WrongKind = refl

pub number_one : (r s : Refusal) → number r ≡ number s → r ≡ s
number_one r s e = sym (numbered_back r) ∙ ap numbered e ∙ numbered_back s

pub told_one : (r s : Result Frame Refusal) → told r ≡ told s → r ≡ s
told_one (Ok f) (Ok g) e =
    let same : f.kind ∷ f.first ∷ f.second ∷ f.check ∷ [] ≡ g.kind ∷ g.first ∷ g.second ∷ g.check ∷ [] = ap (λ t. t.numbers) e in
    let frames : record { kind = f.kind; first = f.first; second = f.second; check = f.check }
    ≡ record { kind = g.kind; first = g.first; second = g.second; check = g.check } = cc in
    ap Ok frames
told_one (Ok f) (Err n) e =
    let same : f.kind ∷ f.first ∷ f.second ∷ f.check ∷ [] ≡ [] = ap (λ t. t.numbers) e in
    cc
told_one (Err n) (Ok f) e =
    let same : [] ≡ f.kind ∷ f.first ∷ f.second ∷ f.check ∷ [] = ap (λ t. t.numbers) e in
    cc
told_one (Err m) (Err n) e = ap Err (number_one m n (ap (λ t. t.refusal) e))

pub written_one : (r s : Result (Unit {0}) NoRoom) → written r ≡ written s → r ≡ s
written_one (Ok _) (Ok _) e = refl
written_one (Ok _) (Err _) e = absurd (omega arith)
written_one (Err _) (Ok _) e = absurd (omega arith)
written_one (Err _) (Err _) e = refl

pub only_one_answer_fits : OnlyOneAnswerFits
only_one_answer_fits =
    record {
      to_number = λ refusal r s p q. p ∙ sym q;
      to_no_room = λ r s p q. p ∙ sym q;
      to_read = λ text is_first r s p q. told_one r s (p ∙ sym q);
      to_rest = λ text r s p q. p ∙ sym q;
      to_write = λ line buffer r s left kept p f q g. (written_one r s (p ∙ sym q), f ∙ sym g);
    }
