-- Document 01, "Frames": "A frame is pairs of upper-case hexadecimal digits and a line feed. The last pair is the check: the sum
-- of all pairs, wrapping at 256, is 0." With request [3] the reader takes a to f too. For lines of any number of pairs.
--     line_feed                     what ends a line
--     is_digit, value_of            the digit's rule for reading; worth_of, a byte as the reader takes it
--     digit_of                      the digit's rule for writing
--     byte_at, pair_at, pairs_from  the bytes and the pairs of a text
--     sum_of, check_of              the sum of all pairs, and what brings it to 0
use Rattle.std.specs.Prelude.{ℕ, zero, suc, ◌+◌, ◌-◌, ◌*◌, ◌%◌, Bool, cond, ◌&&◌, ◌||◌, List, [], ◌∷◌, nat_le, nat_lt, slice_index}
use Rattle.frame.specs.Case.{is_lower}

abbrev pub line_feed : ℕ
line_feed = 10

-- Reading: the byte b is "0-9, A-F or a-f". 48 to 57 are the bytes of 0 to 9, 65 to 70 those of A to F.
abbrev pub is_digit : ℕ → Bool
is_digit b = nat_le 48 b && nat_le b 57 || nat_le 65 b && nat_le b 70 || is_lower b

-- and stands for 0 to 9, for 10 to 15, or again for 10 to 15
unfoldable pub value_of : ℕ → ℕ
value_of b = cond (nat_le b 57) (b - 48) (cond (nat_le b 70) (b - 55) (b - 87))

-- 16, which no digit stands for
abbrev pub no_digit : ℕ
no_digit = 16

-- a byte as the reader takes it: a digit for what it stands for, and any other byte for no digit
unfoldable pub worth_of : ℕ → ℕ
worth_of b = cond (is_digit b) (value_of b) no_digit

-- Writing: the upper-case digit of v, below 16
unfoldable pub digit_of : ℕ → ℕ
digit_of v = cond (nat_lt v 10) (48 + v) (55 + v)

-- the byte b of the text, 0 past its end
abbrev pub byte_at : List ℕ → ℕ → ℕ
byte_at text b = slice_index text b

-- pair number i of a text, the high digit first
unfoldable pub pair_at : List ℕ → ℕ → ℕ
pair_at text i = value_of (byte_at text (2 * i)) * 16 + value_of (byte_at text (2 * i + 1))

-- the k pairs of a text from pair number i on
unfoldable pub pairs_from : ℕ → ℕ → List ℕ → List ℕ
pairs_from i zero text = []
pairs_from i (suc k) text = pair_at text i ∷ pairs_from (suc i) k text

-- "the sum of all pairs, wrapping at 256"
unfoldable pub sum_of : List ℕ → ℕ
sum_of [] = 0
sum_of (v ∷ vs) = (v + sum_of vs) % 256

-- the number that brings a sum to 0: its wrapping negation
unfoldable pub check_of : List ℕ → ℕ
check_of vs = (256 - sum_of vs) % 256
