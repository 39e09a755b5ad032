-- Document 01, "Frames": the line that is written of given values, and what a lent buffer holds afterwards.
--     Bytes               values that a pair of digits can say
--     digits_of, line_of  the line of any values
--     no_room, written    the refusal's number, and what an answer says
--     writes, leaves      what is answered, and what is left in the buffer
--     header_line, row_line, count_line, refusal_line    the lines 01, 03, 04 and 05
use Rattle.std.specs.Prelude.{ℕ, ◌/◌, ◌%◌, ◌<◌, cond, Result, Ok, Err, List, [], ◌∷◌, ◌++◌, length, drop, nat_le}
use Rattle.frame.specs.declared.NoRoom.{NoRoom}
use Rattle.frame.specs.Pairs.{line_feed, digit_of, check_of}

-- each value is a byte
abbrev pub Bytes : List ℕ → Type 0
Bytes [] = Unit {0}
Bytes (v ∷ vs) = (v < 256) × Bytes vs

-- the two digits of each value, the high digit first
unfoldable pub digits_of : List ℕ → List ℕ
digits_of [] = []
digits_of (v ∷ vs) = digit_of (v / 16) ∷ digit_of (v % 16) ∷ digits_of vs

-- the values, then the check, then the line feed
unfoldable pub line_of : List ℕ → List ℕ
line_of vs = digits_of (vs ++ (check_of vs ∷ [])) ++ (line_feed ∷ [])

-- the one refusal's number
abbrev pub no_room : ℕ
no_room = 10

-- what an answer says in document 01's terms: the refusal's number, 0 for a line written
abbrev pub written : Result (Unit {0}) NoRoom → ℕ
written (Ok _) = 0
written (Err _) = no_room

-- 10: "the lent line buffer is shorter than the line to write"; 0: written
abbrev pub writes : List ℕ → List ℕ → ℕ
writes line buffer = cond (nat_le (length line) (length buffer)) 0 10

-- "Refusal 10 writes nothing; a line written fills only the buffer's first bytes."
unfoldable pub leaves : List ℕ → List ℕ → List ℕ
leaves line buffer = cond (nat_le (length line) (length buffer)) (line ++ drop (length line) buffer) buffer

-- "01 edition N check"
abbrev pub header_line : ℕ → ℕ → List ℕ
header_line edition n = line_of (1 ∷ edition ∷ n ∷ [])

-- "03 processor place L locked next marks check"
abbrev pub row_line : ℕ → ℕ → ℕ → ℕ → ℕ → ℕ → List ℕ
row_line processor place tail locked next marks = line_of (3 ∷ processor ∷ place ∷ tail ∷ locked ∷ next ∷ marks ∷ [])

-- "04 high low check"
abbrev pub count_line : ℕ → ℕ → List ℕ
count_line high low = line_of (4 ∷ high ∷ low ∷ [])

-- "05 refusal high low check"
abbrev pub refusal_line : ℕ → ℕ → ℕ → List ℕ
refusal_line refusal high low = line_of (5 ∷ refusal ∷ high ∷ low ∷ [])
