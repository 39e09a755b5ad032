-- The digit's rule for reading beside its rule for writing, and pairs of digits. What is said of both rules together is
-- computed, for every value below 16 or for every byte up to f.
--     digit_is_digit            the digit of v is a digit
--     value_of_digit            and stands for v
--     digit_not_lower           and is none of a to f
--     value_below               a digit stands for a number below 16
--     digit_of_value            and is, up to case, the digit of that number
--     pair_below                two digits make a number below 256
--     pair_of_digits            the two digits of v make v
--     digits_of_pair            the digits of what two digits make are, up to case, those two
-- Assumes nothing.
use Rattle.std.proofs.Common.{◌≡◌, ℕ, ◌+◌, ◌*◌, ◌/◌, ◌%◌, ◌<◌, Bool, true, false, not, ◌&&◌, ◌||◌, eqb, ltb, leb, refl, ap, ◌∙◌, ⊎_elim, arith, ltb-true, eqb-true, leb-true}
use Rattle.std.proofs.lemmas.Bool.{or_cases}
use borrow.Author.Tests.{not-true}
use Rattle.choice.specs.Every.{every}
use Rattle.choice.proofs.Numbers.{every_at}
use Rattle.choice.proofs.Tests.{and_right, implies, implied}
use Rattle.frame.specs.Case.{is_lower, upper_of}
use Rattle.frame.specs.Pairs.{is_digit, value_of, digit_of}

-- a byte that is not above one of the ranges' ends is at most f
within : (low b high : ℕ) → high < 103 → leb low b && leb b high ≡ true → b < 103
within low b high h e = omega (arith, leb-true b high (and_right (leb low b) (leb b high) e))

digit_high : (b : ℕ) → is_digit b ≡ true → b < 103
digit_high b e =
    ⊎_elim
    (λ (h : (leb 48 b && leb b 57 || leb 65 b && leb b 70) ≡ true).
    ⊎_elim (within 48 b 57 (omega arith)) (within 65 b 70 (omega arith))
    (or_cases (leb 48 b && leb b 57) (leb 65 b && leb b 70) h))
    (within 97 b 102 (omega arith))
    (or_cases (leb 48 b && leb b 57 || leb 65 b && leb b 70) (is_lower b) e)

-- what is written of a value below 16 is a digit, is read as that value, and is in upper case

all_digits : every 16 (λ v. is_digit (digit_of v)) ≡ true
unfolding every digit_of
all_digits = refl

pub digit_is_digit : (v : ℕ) → v < 16 → is_digit (digit_of v) ≡ true
digit_is_digit v h = every_at 16 (λ v. is_digit (digit_of v)) all_digits v h

all_back : every 16 (λ v. eqb (value_of (digit_of v)) v) ≡ true
unfolding every digit_of value_of
all_back = refl

pub value_of_digit : (v : ℕ) → v < 16 → value_of (digit_of v) ≡ v
value_of_digit v h = eqb-true (value_of (digit_of v)) v (every_at 16 (λ v. eqb (value_of (digit_of v)) v) all_back v h)

all_upper : every 16 (λ v. not (is_lower (digit_of v))) ≡ true
unfolding every digit_of
all_upper = refl

pub digit_not_lower : (v : ℕ) → v < 16 → is_lower (digit_of v) ≡ false
digit_not_lower v h = not-true (is_lower (digit_of v)) (every_at 16 (λ v. not (is_lower (digit_of v))) all_upper v h)

-- what is read of a digit is below 16, and is written as that digit, raised

of_digit : (test : ℕ → Bool) → every 103 (λ b. implies (is_digit b) (test b)) ≡ true →
    (b : ℕ) → is_digit b ≡ true → test b ≡ true
of_digit test all b e =
    implied (is_digit b) (test b) (every_at 103 (λ b. implies (is_digit b) (test b)) all b (digit_high b e)) e

all_below : every 103 (λ b. implies (is_digit b) (ltb (value_of b) 16)) ≡ true
unfolding every value_of
all_below = refl

pub value_below : (b : ℕ) → is_digit b ≡ true → value_of b < 16
value_below b e = ltb-true (value_of b) 16 (of_digit (λ b. ltb (value_of b) 16) all_below b e)

all_there : every 103 (λ b. implies (is_digit b) (eqb (digit_of (value_of b)) (upper_of b))) ≡ true
unfolding every digit_of value_of upper_of
all_there = refl

pub digit_of_value : (b : ℕ) → is_digit b ≡ true → digit_of (value_of b) ≡ upper_of b
digit_of_value b e =
    eqb-true (digit_of (value_of b)) (upper_of b) (of_digit (λ b. eqb (digit_of (value_of b)) (upper_of b)) all_there b e)

pub pair_below : (a b : ℕ) → is_digit a ≡ true → is_digit b ≡ true → value_of a * 16 + value_of b < 256
pair_below a b ha hb = omega (arith, value_below a ha, value_below b hb)

pub pair_of_digits : (v : ℕ) → v < 256 → value_of (digit_of (v / 16)) * 16 + value_of (digit_of (v % 16)) ≡ v
pair_of_digits v h = omega (arith, value_of_digit (v / 16) (omega arith), value_of_digit (v % 16) (omega arith))

high_of_pair : (h l : ℕ) → l < 16 → (h * 16 + l) / 16 ≡ h
high_of_pair h l q = omega arith

low_of_pair : (h l : ℕ) → l < 16 → (h * 16 + l) % 16 ≡ l
low_of_pair h l q = omega arith

pub digits_of_pair : (a b : ℕ) → is_digit a ≡ true → is_digit b ≡ true →
    (digit_of ((value_of a * 16 + value_of b) / 16) ≡ upper_of a) × (digit_of ((value_of a * 16 + value_of b) % 16) ≡ upper_of b)
digits_of_pair a b ha hb = (
  ap digit_of (high_of_pair (value_of a) (value_of b) (value_below b hb)) ∙ digit_of_value a ha,
  ap digit_of (low_of_pair (value_of a) (value_of b) (value_below b hb)) ∙ digit_of_value b hb,
)
