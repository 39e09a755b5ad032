-- Lines of any number of pairs: what is written of values and what is read of a text.
--     with_check          byte values and their check are byte values
--     digit_within        where a line's bytes are digits, each is
--     pairs_last          one pair more is read at the end
--     pairs_length        as many pairs are read as are asked for
--     first_pair          and the first of them comes first
--     digits_append       the digits of values, one list of them after the other
--     digits_length       two digits a value
--     line_length         a line has two bytes for each value, two for the check and the line feed
--     digits_are_digits   the digits of byte values are digits
--     pairs_of_digits     and are read as those values
--     digits_of_pairs     the digits of what is read of digits are those digits, raised
-- Assumes nothing.
use Rattle.std.proofs.Common.{◌≡◌, ℕ, zero, suc, ◌+◌, ◌*◌, ◌/◌, ◌%◌, ◌<◌, ◌≤◌, true, List, [], ◌∷◌, ◌++◌, length, get_or, take, sym, refl, ap, ◌∙◌, add-zero, arith, length-append}
use Rattle.choice.proofs.Numbers.{every_at, every_from}
use Rattle.frame.specs.Case.{upper_case}
use Rattle.frame.specs.Pairs.{is_digit, digit_of, value_of, byte_at, pair_at, pairs_from, check_of}
use Rattle.frame.specs.Reading.{are_digits}
use Rattle.frame.specs.Writing.{Bytes, digits_of, line_of}
use Rattle.frame.proofs.Digits.{digit_is_digit, pair_of_digits, digits_of_pair}

bytes_last : (vs : List ℕ) (v : ℕ) → Bytes vs → v < 256 → Bytes (vs ++ (v ∷ []))
bytes_last [] v h l = (l, tt)
bytes_last (u ∷ us) v h l = (h.0, bytes_last us v h.1 l)

pub with_check : (vs : List ℕ) → Bytes vs → Bytes (vs ++ (check_of vs ∷ []))
unfolding check_of
with_check vs h = bytes_last vs (check_of vs) h (omega arith)

pub digit_within : (k : ℕ) (text : List ℕ) → are_digits k text ≡ true →
    (i : ℕ) → i < 2 * k → is_digit (byte_at text i) ≡ true
unfolding are_digits
digit_within k text e i h = every_at (2 * k) (λ b. is_digit (byte_at text b)) e i h

pairs_end : (i k : ℕ) (text : List ℕ) → pairs_from i (suc k) text ≡ pairs_from i k text ++ (pair_at text (i + k) ∷ [])
unfolding pairs_from
pairs_end i zero text = ap (λ (n : ℕ). pair_at text n ∷ []) (sym (add-zero i))
pairs_end i (suc k) text =
    ap (λ (l : List ℕ). pair_at text i ∷ l)
    (pairs_end (suc i) k text ∙ ap (λ (n : ℕ). pairs_from (suc i) k text ++ (pair_at text n ∷ [])) (omega arith))

pub pairs_last : (k : ℕ) (text : List ℕ) → pairs_from 0 (suc k) text ≡ pairs_from 0 k text ++ (pair_at text k ∷ [])
pairs_last k text = pairs_end 0 k text ∙ ap (λ (n : ℕ). pairs_from 0 k text ++ (pair_at text n ∷ [])) (omega arith)

pub pairs_length : (i k : ℕ) (text : List ℕ) → length (pairs_from i k text) ≡ k
unfolding pairs_from
pairs_length i zero text = refl
pairs_length i (suc k) text = ap suc (pairs_length (suc i) k text)

pub first_pair : (k : ℕ) (text numbers : List ℕ) → 0 < k → numbers ≡ pairs_from 0 k text → get_or numbers 0 0 ≡ pair_at text 0
unfolding pairs_from
first_pair zero text numbers h e = absurd (omega arith)
first_pair (suc k) text numbers h e = ap (λ (ns : List ℕ). get_or ns 0 0) e

pub digits_append : (us vs : List ℕ) → digits_of (us ++ vs) ≡ digits_of us ++ digits_of vs
unfolding digits_of
digits_append [] vs = refl
digits_append (u ∷ us) vs = ap (λ (l : List ℕ). digit_of (u / 16) ∷ digit_of (u % 16) ∷ l) (digits_append us vs)

pub digits_length : (vs : List ℕ) → length (digits_of vs) ≡ 2 * length vs
unfolding digits_of
digits_length [] = refl
digits_length (v ∷ vs) = omega (arith, digits_length vs)

pub line_length : (vs : List ℕ) → length (line_of vs) ≡ 2 * length vs + 3
unfolding line_of
line_length vs =
    simp (length-append, digits_length) (omega arith)

-- a text without its first pair
pair_shift : (a b : ℕ) (text : List ℕ) (i : ℕ) → pair_at (a ∷ b ∷ text) (suc i) ≡ pair_at text i
unfolding pair_at
pair_shift a b text i =
    let high : 2 * suc i ≡ suc (suc (2 * i)) = omega arith in
    let low : 2 * suc i + 1 ≡ suc (suc (2 * i + 1)) = omega arith in
    ap (λ (n : ℕ). value_of (get_or (a ∷ b ∷ text) n 0) * 16 + value_of (get_or (a ∷ b ∷ text) (2 * suc i + 1) 0)) high
    ∙ ap (λ (n : ℕ). value_of (get_or text (2 * i) 0) * 16 + value_of (get_or (a ∷ b ∷ text) n 0)) low

pairs_shift : (a b : ℕ) (text : List ℕ) (i k : ℕ) → pairs_from (suc i) k (a ∷ b ∷ text) ≡ pairs_from i k text
unfolding pairs_from
pairs_shift a b text i zero = refl
pairs_shift a b text i (suc k) =
    ap (λ (n : ℕ). n ∷ pairs_from (suc (suc i)) k (a ∷ b ∷ text)) (pair_shift a b text i)
    ∙ ap (λ (l : List ℕ). pair_at text i ∷ l) (pairs_shift a b text (suc i) k)

digit_at : (vs text : List ℕ) → Bytes vs → (i : ℕ) → i < 2 * length vs → is_digit (get_or (digits_of vs ++ text) i 0) ≡ true
unfolding digits_of
digit_at [] text h i l = absurd (omega arith)
digit_at (v ∷ vs) text h zero l = digit_is_digit (v / 16) (omega (arith, h.0))
digit_at (v ∷ vs) text h (suc zero) l = digit_is_digit (v % 16) (omega arith)
digit_at (v ∷ vs) text h (suc (suc i)) l = digit_at vs text h.1 i (omega arith)

pub digits_are_digits : (vs text : List ℕ) → Bytes vs → are_digits (length vs) (digits_of vs ++ text) ≡ true
unfolding are_digits
digits_are_digits vs text h =
    every_from (2 * length vs) (λ i. is_digit (byte_at (digits_of vs ++ text) i)) (digit_at vs text h)

pub pairs_of_digits : (vs text : List ℕ) → Bytes vs → pairs_from 0 (length vs) (digits_of vs ++ text) ≡ vs
unfolding pairs_from pair_at digits_of
pairs_of_digits [] text h = refl
pairs_of_digits (v ∷ vs) text h =
    let high = digit_of (v / 16) in
    let low = digit_of (v % 16) in
    ap (λ (n : ℕ). n ∷ pairs_from 1 (length vs) (high ∷ low ∷ digits_of vs ++ text)) (pair_of_digits v h.0)
    ∙ ap (λ (l : List ℕ). v ∷ l)
    (pairs_shift high low (digits_of vs ++ text) 0 (length vs) ∙ pairs_of_digits vs text h.1)

pub digits_of_pairs : (k : ℕ) (text : List ℕ) → 2 * k ≤ length text →
    ((i : ℕ) → i < 2 * k → is_digit (byte_at text i) ≡ true) →
    digits_of (pairs_from 0 k text) ≡ upper_case (take (2 * k) text)
unfolding pairs_from pair_at digits_of upper_case
digits_of_pairs zero text h d = refl
digits_of_pairs (suc k) [] h d = absurd (omega arith)
digits_of_pairs (suc k) (a ∷ []) h d = absurd (omega arith)
digits_of_pairs (suc k) (a ∷ b ∷ text) h d =
    let both = digits_of_pair a b (d 0 (omega arith)) (d 1 (omega arith)) in
    let tail = digits_of_pairs k text (omega arith) (λ i l. d (suc (suc i)) (omega arith)) in
    let twice : 2 * suc k ≡ suc (suc (2 * k)) = omega arith in
    rw (pairs_shift a b text 0 k, both.0, both.1, tail, twice)
