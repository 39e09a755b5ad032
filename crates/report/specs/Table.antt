-- "a table of 16 by 16 counts carried from schedule to schedule and handed back": row a, column b. Counts are added cell by cell,
-- unless one would pass 4,294,967,295: refusal 12.
use Rattle.std.specs.Prelude.{ℕ, zero, suc, ◌+◌, Bool, cond, List, [], ◌∷◌, ◌++◌, Result, Ok, Err, get_or, leb}
use Rattle.choice.specs.Every.{every}
use Rattle.lock.specs.State.{processors}
use Rattle.report.specs.declared.Refused.{Refused}
use Rattle.report.specs.Named.{number}

-- What is answered of one schedule, in numbers: its refusal and the refusal's line, 0 and 0 for none, and the table.
pub record Reported : Type 0 where
  pub refusal : ℕ
  pub line : ℕ
  pub table : List (List ℕ)

-- "a definition gives this paper's number and values for each of its cases": what the code's answer says
abbrev pub told : Result (List (List ℕ)) Refused → Reported
told (Ok table) = record { refusal = 0; line = 0; table = table }
told (Err r) = record { refusal = number r.refusal; line = r.line; table = r.table }

-- a list of n things, by their number
unfoldable pub upto : {A : Type 0} → ℕ → (ℕ → A) → List A
upto zero f = []
upto (suc n) f = upto n f ++ (f n ∷ [])

-- "12, a count would pass 4,294,967,295"
abbrev pub greatest : ℕ
greatest = 4294967295

-- for every pair a, b a number
abbrev pub Counts : Type 0
Counts = ℕ → ℕ → ℕ

-- the count of a and b in a table
unfoldable pub cell : List (List ℕ) → Counts
cell table a b = get_or (get_or table a []) b 0

-- no cell would pass the greatest count
unfoldable pub holds : List (List ℕ) → Counts → Bool
holds table counts = every processors (λ a. every processors (λ b. leb (cell table a b + counts a b) greatest))

-- every cell raised
unfoldable pub raised : List (List ℕ) → Counts → List (List ℕ)
raised table counts = upto processors (λ a. upto processors (λ b. cell table a b + counts a b))

-- the same row by row, as the code has it
unfoldable pub row_holds : List ℕ → List ℕ → Bool
row_holds t m = every processors (λ i. leb (get_or t i 0 + get_or m i 0) greatest)

unfoldable pub row_sum : List ℕ → List ℕ → List ℕ
row_sum t m = upto processors (λ i. get_or t i 0 + get_or m i 0)

unfoldable pub table_holds : List (List ℕ) → List (List ℕ) → Bool
table_holds t m = every processors (λ a. row_holds (get_or t a []) (get_or m a []))

unfoldable pub table_sum : List (List ℕ) → List (List ℕ) → List (List ℕ)
table_sum t m = upto processors (λ a. row_sum (get_or t a []) (get_or m a []))

-- counts added to a table; or 12, and the table as it was
unfoldable pub counts_added : List (List ℕ) → Counts → Reported
counts_added table counts =
    cond (holds table counts) (record { refusal = 0; line = 0; table = raised table counts })
    (record { refusal = 12; line = 0; table = table })

-- a table added to a table
abbrev pub added_to : List (List ℕ) → List (List ℕ) → Reported
added_to t m = counts_added t (cell m)
