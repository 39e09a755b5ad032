-- The reader's one pass over the pairs of a line: what it takes a byte for, what it knows of the digits, and what it
-- has put down, pair by pair.
--     worth_is         what a byte is taken for, by the two tests that are made of it
--     digits_go_on     two bytes more are tested
--     pairs_go_on      and put down as a pair
--     pairs_are        after the last pair
-- Assumes nothing.
use Rattle.std.proofs.Common.{◌≡◌, ℕ, ◌+◌, ◌-◌, ◌*◌, ◌<◌, ◌≤◌, Bool, true, false, cond, ◌&&◌, eqb, ltb, leb, List, Some, [], ◌∷◌, ◌++◌, length, drop, set, append-nil, sym, refl, ap, ◌∙◌, add-one, arith, ltb-true, lt-ltb, eqb-true}
use lib.Bits.{bit_or}
use Rattle.choice.specs.Every.{every}
use Rattle.choice.proofs.Numbers.{every_at, every_next}
use Rattle.choice.proofs.Tests.{and_left, and_right}
use Rattle.std.proofs.Math.Bool.{and_assoc}
use Rattle.std.specs.Bool.{then_some}
use Rattle.std.proofs.lemmas.List.{drop_all}
use Rattle.frame.specs.Pairs.{is_digit, value_of, worth_of, no_digit, byte_at, pair_at, pairs_from}
use Rattle.frame.specs.Reading.{are_digits, pairs_of}
use Rattle.frame.proofs.Digits.{value_below}
use Rattle.frame.proofs.Lines.{pairs_last, pairs_length}
use Rattle.frame.proofs.Buffers.{put_next}

-- the two tests that the reader makes of a byte: is it a letter, in lower case, and is it a number

abbrev is_letter : ℕ → Bool
is_letter b = leb 97 (bit_or b 32) && leb (bit_or b 32) 102

abbrev is_number : ℕ → Bool
is_number b = leb 48 b && leb b 57

-- what it takes the byte for by them is `worth_of`: computed, for every byte
abbrev taken : Bool → Bool → ℕ → ℕ
taken letter number b = cond letter (bit_or b 32 - 97 + 10) (cond number (b - 48) no_digit)

all_taken : every 256 (λ b. eqb (taken (is_letter b) (is_number b) b) (worth_of b)) ≡ true
unfolding every worth_of value_of
all_taken = refl

pub worth_is : (b : ℕ) (letter number : Bool) → b < 256 → is_letter b ≡ letter → is_number b ≡ number →
    taken letter number b ≡ worth_of b
worth_is b letter number h l n =
    ap (λ (t : Bool). taken t number b) (sym l)
    ∙ ap (λ (t : Bool). taken (is_letter b) t b) (sym n)
    ∙ eqb-true _ _ (every_at 256 (λ b. eqb (taken (is_letter b) (is_number b) b) (worth_of b)) all_taken b h)

-- by whether the byte is a digit
by_digit : (b v : ℕ) (is : Bool) → is_digit b ≡ is → v ≡ cond is (value_of b) no_digit → ltb v no_digit ≡ is
by_digit b v true e w = lt-ltb v no_digit (rw w (value_below b e))
by_digit b v false e w = ap (λ (n : ℕ). ltb n no_digit) w

below_is_digit : (b v : ℕ) → v ≡ worth_of b → ltb v no_digit ≡ is_digit b
unfolding worth_of
below_is_digit b v w = by_digit b v (is_digit b) refl w

below_has_value : (b v : ℕ) → v ≡ worth_of b → ltb v no_digit ≡ true → v ≡ value_of b
unfolding worth_of
below_has_value b v w e = w ∙ ap (λ (is : Bool). cond is (value_of b) no_digit) (sym (below_is_digit b v w) ∙ e)

-- what two bytes more bring: `all` is still the test of every byte passed, and where it holds, the pair is put down
module _ (text : List ℕ) (i high low : ℕ) (all : Bool)
    (h : high ≡ worth_of (byte_at text (2 * i))) (l : low ≡ worth_of (byte_at text (2 * i + 1))) where
  pub digits_go_on : all ≡ every (2 * i) (λ b. is_digit (byte_at text b)) →
      all && (ltb high no_digit && ltb low no_digit) ≡ every (2 * (i + 1)) (λ b. is_digit (byte_at text b))
  digits_go_on so =
      let test : ℕ → Bool = λ b. is_digit (byte_at text b) in
      let first = every_next (2 * i) test all (ltb high no_digit) so (below_is_digit (byte_at text (2 * i)) high h) in
      let further : 2 * i + 1 + 1 ≡ 2 * (i + 1) = omega arith in
      sym (and_assoc all (ltb high no_digit) (ltb low no_digit))
      ∙ every_next (2 * i + 1) test (all && ltb high no_digit) (ltb low no_digit) first
      (below_is_digit (byte_at text (2 * i + 1)) low l)
      ∙ ap (λ (n : ℕ). every n test) further

  pub pairs_go_on : (before numbers : List ℕ) (pair : ℕ) →
      (high < no_digit → low < no_digit → pair ≡ high * 16 + low) → i < length before →
      (all ≡ true → numbers ≡ pairs_from 0 i text ++ drop i before) →
      all && (ltb high no_digit && ltb low no_digit) ≡ true →
      set numbers i pair ≡ pairs_from 0 (i + 1) text ++ drop (i + 1) before
  unfolding pair_at
  pairs_go_on before numbers pair makes room so e =
      let both = and_right all (ltb high no_digit && ltb low no_digit) e in
      let is-high = and_left (ltb high no_digit) (ltb low no_digit) both in
      let is-low = and_right (ltb high no_digit) (ltb low no_digit) both in
      let first = below_has_value (byte_at text (2 * i)) high h is-high in
      let second = below_has_value (byte_at text (2 * i + 1)) low l is-low in
      let made = makes (ltb-true high no_digit is-high) (ltb-true low no_digit is-low) in
      let is-pair : pair ≡ pair_at text i = cc in
      ap (λ (ns : List ℕ). set ns i pair) (so (and_left all (ltb high no_digit && ltb low no_digit) e))
      ∙ put_next (pairs_from 0 i text) before i pair (pairs_length 0 i text) room
      ∙ ap (λ (n : ℕ). (pairs_from 0 i text ++ (n ∷ [])) ++ drop (i + 1) before) is-pair
      ∙ ap (λ (ns : List ℕ). ns ++ drop (i + 1) before) (sym (pairs_last i text))
      ∙ ap (λ (n : ℕ). pairs_from 0 n text ++ drop (i + 1) before) (sym (add-one i))

-- after the last pair: the array of the pairs, where all were digits
pub pairs_are : (k : ℕ) (text before numbers : List ℕ) (all : Bool) → length before ≤ k →
    all ≡ every (2 * k) (λ b. is_digit (byte_at text b)) →
    (all ≡ true → numbers ≡ pairs_from 0 k text ++ drop k before) → then_some all numbers ≡ pairs_of k text
unfolding pairs_of are_digits
pairs_are k text before numbers true long tested read =
    ap Some
    (read refl
    ∙ ap (λ (l : List ℕ). pairs_from 0 k text ++ l) (drop_all k before (omega arith))
    ∙ append-nil (pairs_from 0 k text))
    ∙ rw (← tested) refl
pairs_are k text before numbers false long tested read = rw (← tested) refl
