-- What document 01's reader and writer owe each other, as statements over the definitions of this folder. Each is the
-- promise of a function of `src/laws.rt`, so the gate names it when it is proved.
--     DigitsAreInverse            the digit's rule for reading and the one for writing are inverse to each other, up to case
--     CheckComesToZero            the check of every written line comes to 0
--     LengthsAreKnown             a written line has two bytes a value and three more: 9, 17, 9 and 11 for 01, 03, 04 and 05
--     WritesUpperCase             the writer writes no a to f
--     WrittenIsReadBack           what is written of four pairs is read back as the same numbers, whatever follows it
--     AcceptedIsWrittenUpToCase   every line that is accepted is, up to the case of its digits, what would be written of its
--                                 numbers
--     ReadInEveryCase             a line is read alike in every mixture of the cases: with the same numbers or refusal
--     CaseIsSharp                 none of this holds with less: computed lines
--     RefusalsGoByOrder           each refusal is given exactly when its condition holds and those before it do not
--     OnlyOneAnswerFits           two answers that meet the contract of a public function are one
use Rattle.std.specs.Prelude.{◌≡◌, ℕ, ◌+◌, ◌*◌, ◌<◌, Bool, true, false, ◌≢◌, ◌⊎◌, ◌↔◌, Result, List, [], ◌∷◌, ◌++◌, length, take}
use Rattle.frame.specs.declared.Frame.{Frame}
use Rattle.frame.specs.declared.Refusal.{Refusal}
use Rattle.frame.specs.declared.NoRoom.{NoRoom}
use Rattle.frame.specs.Case.{is_lower, upper_of, upper_case, EqualUpToCase}
use Rattle.frame.specs.Pairs.{line_feed, is_digit, value_of, digit_of, byte_at, pair_at, pairs_from, sum_of, check_of}
use Rattle.frame.specs.Reading.{told, number, refused_by, is_torn, are_digits, read_as, kind_of, reads, rest_of}
use Rattle.frame.specs.Writing.{no_room, Bytes, line_of, written, writes, leaves, header_line, row_line, count_line, refusal_line}

pub record DigitsAreInverse : Type 0 where
  pub written_then_read : (v : ℕ) → v < 16 → (is_digit (digit_of v) ≡ true) × (value_of (digit_of v) ≡ v)
  pub read_then_written : (b : ℕ) → is_digit b ≡ true → (value_of b < 16) × (digit_of (value_of b) ≡ upper_of b)

abbrev pub CheckComesToZero : Type 0
CheckComesToZero = (vs : List ℕ) → sum_of (vs ++ (check_of vs ∷ [])) ≡ 0

pub record LengthsAreKnown : Type 0 where
  pub any : (vs : List ℕ) → length (line_of vs) ≡ 2 * length vs + 3
  pub header : (edition n : ℕ) → length (header_line edition n) ≡ 9
  pub row : (processor place tail locked next marks : ℕ) → length (row_line processor place tail locked next marks) ≡ 17
  pub count : (high low : ℕ) → length (count_line high low) ≡ 9
  pub refusal : (refusal high low : ℕ) → length (refusal_line refusal high low) ≡ 11

-- none of a to f anywhere, so raised the text is as it is
pub record InUpperCase (text : List ℕ) : Type 0 where
  pub no_lower : (i : ℕ) → is_lower (byte_at text i) ≡ false
  pub as_it_is : upper_case text ≡ text

-- "The writer keeps upper case": of values that are bytes, as all are that the code writes
abbrev pub WritesUpperCase : Type 0
WritesUpperCase = (vs : List ℕ) → Bytes vs → InUpperCase (line_of vs)

abbrev pub WrittenIsReadBack : Type 0
WrittenIsReadBack =
    (is_first : Bool) (first second : ℕ) (after : List ℕ) → first < 256 → second < 256 →
    reads (line_of (kind_of is_first ∷ first ∷ second ∷ []) ++ after) is_first
    ≡ record {
      refusal = 0;
      numbers = kind_of is_first ∷ first ∷ second ∷ check_of (kind_of is_first ∷ first ∷ second ∷ []) ∷ [];
    }

-- Demand 2 with request [3]: "equal up to the case of the digits"
abbrev pub AcceptedIsWrittenUpToCase : Type 0
AcceptedIsWrittenUpToCase =
    (text : List ℕ) (is_first : Bool) (kind first second check : ℕ) →
    reads text is_first ≡ record { refusal = 0; numbers = kind ∷ first ∷ second ∷ check ∷ [] } →
    EqualUpToCase (take 9 text) (line_of (kind ∷ first ∷ second ∷ []))

-- "both cases, also mixed within a line": what is read does not go by the case, nor by what follows the line
abbrev pub ReadInEveryCase : Type 0
ReadInEveryCase =
    (s t : List ℕ) (is_first : Bool) → EqualUpToCase (take 9 s) (take 9 t) → reads s is_first ≡ reads t is_first

-- the line 010001F with its last digit to come: 010001FE is document 01's
abbrev pub line_with : ℕ → List ℕ
line_with b = 48 ∷ 49 ∷ 48 ∷ 48 ∷ 48 ∷ 49 ∷ 70 ∷ b ∷ line_feed ∷ []

pub record CaseIsSharp : Type 0 where
  -- the line that is written, and 010001Fe beside it: it is read with the same numbers, and is another text
  pub written : line_with 69 ≡ header_line 0 1
  pub accepted : reads (line_with 101) true ≡ record { refusal = 0; numbers = 1 ∷ 0 ∷ 1 ∷ 254 ∷ [] }
  pub another : line_with 101 ≢ header_line 0 1
  -- the letters after F and f, and the bytes before A and a, are no digits, and are not raised
  pub no_digits : (b : ℕ) → (b ≡ 64) ⊎ (b ≡ 71) ⊎ (b ≡ 96) ⊎ (b ≡ 103) →
      (reads (line_with b) true ≡ refused_by 3) × (upper_of b ≡ b)
  -- of a value that is no byte the digits could be lower-case letters: 672 is 42 times 16, and 55 + 42 the byte of a
  pub bytes_needed : is_lower (byte_at (line_of (672 ∷ [])) 0) ≡ true

-- The refusal of a line of k pairs that is to begin with the pair `kind`. A torn line is 2; of a whole one, what is not
-- digits is 3; of digits, a sum that is not 0 is 4; of those with the sum 0, another beginning is 5; and 0, accepted,
-- is what is left. There is no other number.
pub record ByOrder (k kind : ℕ) (text : List ℕ) : Type 0 where
  pub two : ((read_as k kind text).refusal ≡ 2) ↔ (is_torn k text ≡ true)
  pub three : ((read_as k kind text).refusal ≡ 3) ↔ ((is_torn k text ≡ false) × (are_digits k text ≡ false))
  pub four : ((read_as k kind text).refusal ≡ 4)
      ↔ ((is_torn k text ≡ false) × (are_digits k text ≡ true) × (sum_of (pairs_from 0 k text) ≢ 0))
  pub five : ((read_as k kind text).refusal ≡ 5)
      ↔ ((is_torn k text ≡ false)
      × (are_digits k text ≡ true)
      × (sum_of (pairs_from 0 k text) ≡ 0)
      × (pair_at text 0 ≢ kind))
  pub none : ((read_as k kind text).refusal ≡ 0)
      ↔ ((is_torn k text ≡ false)
      × (are_digits k text ≡ true)
      × (sum_of (pairs_from 0 k text) ≡ 0)
      × (pair_at text 0 ≡ kind))
  pub no_other : ((read_as k kind text).refusal ≡ 0)
      ⊎ ((read_as k kind text).refusal ≡ 2)
      ⊎ ((read_as k kind text).refusal ≡ 3)
      ⊎ ((read_as k kind text).refusal ≡ 4)
      ⊎ ((read_as k kind text).refusal ≡ 5)

abbrev pub RefusalsGoByOrder : Type 0
RefusalsGoByOrder = (k kind : ℕ) (text : List ℕ) → ByOrder k kind text

-- `read` and every `write` function, by what their answers say, where a line is a definition of its values alone; `rest`; and the numbers
-- of the refusals.
-- That the functions' own contracts say what is supposed here, `src/told.rt` shows.
pub record OnlyOneAnswerFits : Type 0 where
  pub to_number : (refusal : Refusal) (r s : ℕ) → r ≡ number refusal → s ≡ number refusal → r ≡ s
  pub to_no_room : (r s : ℕ) → r ≡ no_room → s ≡ no_room → r ≡ s
  pub to_read : (text : List ℕ) (is_first : Bool) (r s : Result Frame Refusal) →
      told r ≡ reads text is_first → told s ≡ reads text is_first → r ≡ s
  pub to_rest : (text r s : List ℕ) → r ≡ rest_of text → s ≡ rest_of text → r ≡ s
  pub to_write : (line buffer : List ℕ) (r s : Result (Unit {0}) NoRoom) (left kept : List ℕ) →
      written r ≡ writes line buffer → left ≡ leaves line buffer → written s ≡ writes line buffer → kept ≡ leaves line buffer →
      (r ≡ s) × (left ≡ kept)
