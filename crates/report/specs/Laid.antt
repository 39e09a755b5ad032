-- The lent rows after a report, row by row: "to be filled with this schedule's entries, interrupts taken and joins", "Lent rows
-- from N on stay as they were". ("A refused schedule .. changes no lent row" is in Order.)
use Rattle.std.specs.Prelude.{ℕ, ◌≤◌, ◌<◌, ◌≡◌, List, length, get_or}
use Rattle.bench.specs.Bridge.{processors_of}
use Rattle.report.specs.declared.Tally.{Tally}
use Rattle.report.specs.Report.{tally_of, reported_of, rows_after}

pub record Laid (text : List ℕ) (table : List (List ℕ)) (rows : List Tally) : Type 0 where
  pub as_many : length (rows_after text table rows) ≡ length rows
  pub below_n : (reported_of text table (length rows)).refusal ≡ 0
      → (p : ℕ) (d : Tally) → p < processors_of text → get_or (rows_after text table rows) p d ≡ tally_of text p
  pub from_n : (p : ℕ) (d : Tally) → processors_of text ≤ p → get_or (rows_after text table rows) p d ≡ get_or rows p d

abbrev pub RowsAreLaid : Type 0
RowsAreLaid = (text : List ℕ) (table : List (List ℕ)) (rows : List Tally) → Laid text table rows
