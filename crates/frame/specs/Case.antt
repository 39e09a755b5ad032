-- Request [3]: "Let the reader take both cases, also mixed within a line. The writer keeps upper case." What is one text up to
-- the case of its digits.
--     is_lower          the byte is one of a to f
--     upper_of          a to f raised to A to F, and every other byte as it is
--     upper_case        so every byte of a text
--     EqualUpToCase     "equal up to the case of the digits"
use Rattle.std.specs.Prelude.{◌≡◌, ℕ, ◌-◌, Bool, cond, ◌&&◌, List, map, nat_le}

-- 97 to 102 are the bytes of a to f
abbrev pub is_lower : ℕ → Bool
is_lower b = nat_le 97 b && nat_le b 102

-- those of A to F lie 32 before them
unfoldable pub upper_of : ℕ → ℕ
upper_of b = cond (is_lower b) (b - 32) b

unfoldable pub upper_case : List ℕ → List ℕ
upper_case text = map upper_of text

abbrev pub EqualUpToCase : List ℕ → List ℕ → Type 0
EqualUpToCase s t = upper_case s ≡ upper_case t
