-- Document 01, "Frames" and "What is turned away", 2 to 5: what the reader answers to a text, and the part that follows a line.
--     Told, told, refused_by, said   what an answer says: the refusal's number and the frame's numbers
--     number, told_line              the number of a refusal; what is said of a line of any number of pairs
--     begins                         the pair that begins a line, by its kind
--     bytes_of, is_torn, are_digits  the tests of a line of k pairs; pairs_of, its pairs where it is of digits
--     read_as, kind_of, reads        what is said of a line: of k pairs and a given kind; of the line that is wanted
--     rest_of                        the part that follows
use Rattle.std.specs.Prelude.{ℕ, ◌+◌, ◌*◌, Bool, cond, not, ◌||◌, List, [], ◌∷◌, Option, Some, None, Result, Ok, Err, if◌then◌else◌, length, drop, ◌==◌, nat_lt}
use Rattle.frame.specs.declared.Frame.{Frame}
use Rattle.frame.specs.declared.Refusal.{Refusal}
use Rattle.frame.specs.declared.Refusal.TheVariants.{Torn, NotDigits, WrongCheck, WrongKind}
use Rattle.frame.specs.declared.Kind.{Kind}
use Rattle.frame.specs.declared.Kind.TheVariants.{Header, Event, Row, Count, Refused}
use Rattle.choice.specs.Every.{every}
use Rattle.frame.specs.Pairs.{line_feed, is_digit, byte_at, pair_at, pairs_from, sum_of}

-- the numbers of "What is turned away"
abbrev pub number : Refusal → ℕ
number Torn = 2
number NotDigits = 3
number WrongCheck = 4
number WrongKind = 5

-- What an answer says in document 01's terms: the refusal's number, 0 for none, and the frame's numbers. "The reader's refusal
-- gives its number and no frame."
pub record Told : Type 0 where
  pub refusal : ℕ
  pub numbers : List ℕ

abbrev pub told : Result Frame Refusal → Told
told (Ok f) = record { refusal = 0; numbers = f.kind ∷ f.first ∷ f.second ∷ f.check ∷ [] }
told (Err refusal) = record { refusal = number refusal; numbers = [] }

abbrev pub refused_by : ℕ → Told
refused_by number = record { refusal = number; numbers = [] }

-- the same of a refusal's number, 0 for none, and of the numbers that stand beside it where there is none
abbrev pub said : ℕ → List ℕ → Told
said number numbers = cond (number == 0) (record { refusal = 0; numbers = numbers }) (refused_by number)

-- so of the answer to a line of any number of pairs
abbrev pub told_line : Result (List ℕ) Refusal → Told
told_line (Ok numbers) = said 0 numbers
told_line (Err refusal) = said (number refusal) []

-- the bytes of a line of k pairs: "Lines read are 4 pairs, so 9 bytes"
abbrev pub bytes_of : ℕ → ℕ
bytes_of k = 2 * k + 1

-- 2: "fewer than 9 bytes are left for a wanted line, or the ninth is no line feed"
unfoldable pub is_torn : ℕ → List ℕ → Bool
is_torn k text = nat_lt (length text) (bytes_of k) || not (byte_at text (2 * k) == line_feed)

-- 3: "one of the eight is not 0-9, A-F or a-f"
unfoldable pub are_digits : ℕ → List ℕ → Bool
are_digits k text = every (2 * k) (λ i. is_digit (byte_at text i))

-- the pairs, where the bytes before the line feed are digits
unfoldable pub pairs_of : ℕ → List ℕ → Option (List ℕ)
pairs_of k text = if are_digits k text then Some (pairs_from 0 k text) else None

-- A line of k pairs that begins with the pair `kind`, in the order 2, 3, 4 ("the check doesn't come to 0"), 5 ("line 1 doesn't
-- begin 01, or a later one 02")
unfoldable pub read_as : ℕ → ℕ → List ℕ → Told
read_as k kind text =
    cond (is_torn k text) (refused_by 2)
    (cond (not (are_digits k text)) (refused_by 3)
    (cond (not (sum_of (pairs_from 0 k text) == 0)) (refused_by 4)
    (cond (not (pair_at text 0 == kind)) (refused_by 5)
    (record { refusal = 0; numbers = pairs_from 0 k text }))))

-- the kinds of lines: "01 edition N check" to "05 refusal high low check"
abbrev pub begins : Kind → ℕ
begins Header = 1
begins Event = 2
begins Row = 3
begins Count = 4
begins Refused = 5

-- "with word whether line 1 or a later one is wanted": 01 begins the first line, 02 each later one
abbrev pub kind_of : Bool → ℕ
kind_of is_first = cond is_first 1 2

-- what the reader says of the text from any line on
abbrev pub reads : List ℕ → Bool → Told
reads text is_first = read_as 4 (kind_of is_first) text

-- "the part that follows the first 9 bytes, or the empty part at the end if there are 9 or fewer"
abbrev pub rest_of : List ℕ → List ℕ
rest_of text = drop 9 text
