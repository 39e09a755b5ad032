-- A report where the rows are lent as plain numbers, three for each tally, as C and Rust programs lend them.
use Rattle.std.specs.Prelude.{ℕ, ◌*◌, ◌/◌, List, [], ◌∷◌, ◌++◌, length, take, drop}
use Rattle.report.specs.declared.Tally.{Tally}
use Rattle.report.specs.Table.{Reported}
use Rattle.report.specs.Report.{reported_of, measured_of}

-- "this schedule's entries, interrupts taken and joins", a row after the other
unfoldable pub numbers_of : List Tally → List ℕ
numbers_of [] = []
numbers_of (t ∷ more) = t.entries ∷ t.interrupts ∷ t.joins ∷ numbers_of more

-- three lent numbers are a lent row
abbrev pub rows_in : List ℕ → ℕ
rows_in numbers = length numbers / 3

-- what is told of a schedule where these numbers are lent
abbrev pub told_with : List ℕ → List (List ℕ) → List ℕ → Reported
told_with text table numbers = reported_of text table (rows_in numbers)

-- the first N rows are overwritten where nothing is refused, all other numbers stay
unfoldable pub numbers_after : List ℕ → List (List ℕ) → List ℕ → List ℕ
numbers_after text table numbers =
    let m = measured_of text table (rows_in numbers) in
    numbers_of (take m.count m.rows) ++ drop (3 * m.count) numbers
