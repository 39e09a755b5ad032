-- Document 01's worked lines, computed from the definitions: the log of `010001FE` and three lines `020100FD`, and the
-- two refusals that it prints; and lines in lower and in mixed case. Each line is given by its bytes, the text in a comment above.
-- Assumes nothing.
use Rattle.std.proofs.Common.{◌≡◌, true, false, [], ◌∷◌, refl}
use Rattle.choice.specs.Every.{every}
use Rattle.frame.specs.Pairs.{value_of, digit_of, pair_at, pairs_from, sum_of, check_of}
use Rattle.frame.specs.Reading.{is_torn, are_digits, read_as, reads}
use Rattle.frame.specs.Writing.{digits_of, line_of, header_line, row_line, count_line, refusal_line}

-- 010001FE
header : header_line 0 1
    ≡ 48 ∷ 49 ∷ 48 ∷ 48 ∷ 48 ∷ 49 ∷ 70 ∷ 69 ∷ 10 ∷ []
unfolding line_of digits_of digit_of check_of sum_of
header = refl

-- 030002FF00FF00FD
first_row : row_line 0 2 255 0 255 0
    ≡ 48 ∷ 51 ∷ 48 ∷ 48 ∷ 48 ∷ 50 ∷ 70 ∷ 70 ∷ 48 ∷ 48 ∷ 70 ∷ 70 ∷ 48 ∷ 48 ∷ 70 ∷ 68 ∷ 10 ∷ []
unfolding line_of digits_of digit_of check_of sum_of
first_row = refl

-- 030003FF00FF00FC
second_row : row_line 0 3 255 0 255 0
    ≡ 48 ∷ 51 ∷ 48 ∷ 48 ∷ 48 ∷ 51 ∷ 70 ∷ 70 ∷ 48 ∷ 48 ∷ 70 ∷ 70 ∷ 48 ∷ 48 ∷ 70 ∷ 67 ∷ 10 ∷ []
unfolding line_of digits_of digit_of check_of sum_of
second_row = refl

-- 0300090000FF04F1
entry_row : row_line 0 9 0 0 255 4
    ≡ 48 ∷ 51 ∷ 48 ∷ 48 ∷ 48 ∷ 57 ∷ 48 ∷ 48 ∷ 48 ∷ 48 ∷ 70 ∷ 70 ∷ 48 ∷ 52 ∷ 70 ∷ 49 ∷ 10 ∷ []
unfolding line_of digits_of digit_of check_of sum_of
entry_row = refl

-- 040003F9
count : count_line 0 3
    ≡ 48 ∷ 52 ∷ 48 ∷ 48 ∷ 48 ∷ 51 ∷ 70 ∷ 57 ∷ 10 ∷ []
unfolding line_of digits_of digit_of check_of sum_of
count = refl

-- 05020001F8
empty_input : refusal_line 2 0 1
    ≡ 48 ∷ 53 ∷ 48 ∷ 50 ∷ 48 ∷ 48 ∷ 48 ∷ 49 ∷ 70 ∷ 56 ∷ 10 ∷ []
unfolding line_of digits_of digit_of check_of sum_of
empty_input = refl

-- 05010000FA
over_long : refusal_line 1 0 0
    ≡ 48 ∷ 53 ∷ 48 ∷ 49 ∷ 48 ∷ 48 ∷ 48 ∷ 48 ∷ 70 ∷ 65 ∷ 10 ∷ []
unfolding line_of digits_of digit_of check_of sum_of
over_long = refl

-- 010001FE
first_line_read : reads (48 ∷ 49 ∷ 48 ∷ 48 ∷ 48 ∷ 49 ∷ 70 ∷ 69 ∷ 10 ∷ []) true
    ≡ record { refusal = 0; numbers = 1 ∷ 0 ∷ 1 ∷ 254 ∷ [] }
unfolding read_as is_torn are_digits every pair_at pairs_from value_of sum_of
first_line_read = refl

-- 020100FD
later_line : reads (48 ∷ 50 ∷ 48 ∷ 49 ∷ 48 ∷ 48 ∷ 70 ∷ 68 ∷ 10 ∷ []) false
    ≡ record { refusal = 0; numbers = 2 ∷ 1 ∷ 0 ∷ 253 ∷ [] }
unfolding read_as is_torn are_digits every pair_at pairs_from value_of sum_of
later_line = refl

-- 020100fd, request [3]'s lower case, and 02010Af3 mixed
lower_line : reads (48 ∷ 50 ∷ 48 ∷ 49 ∷ 48 ∷ 48 ∷ 102 ∷ 100 ∷ 10 ∷ []) false
    ≡ record { refusal = 0; numbers = 2 ∷ 1 ∷ 0 ∷ 253 ∷ [] }
unfolding read_as is_torn are_digits every pair_at pairs_from value_of sum_of
lower_line = refl

mixed_line : reads (48 ∷ 50 ∷ 48 ∷ 49 ∷ 48 ∷ 65 ∷ 102 ∷ 51 ∷ 10 ∷ []) false
    ≡ record { refusal = 0; numbers = 2 ∷ 1 ∷ 10 ∷ 243 ∷ [] }
unfolding read_as is_torn are_digits every pair_at pairs_from value_of sum_of
mixed_line = refl
