-- Two answers that meet the contract of a public function are one, and so are the rows that they leave.
use Rattle.std.specs.Prelude.{ℕ, ◌≡◌, List, Result, length, take}
use Rattle.report.specs.declared.Tally.{Tally}
use Rattle.bench.specs.declared.Refusal.{Refusal as ScheduleRefusal}
use Rattle.report.specs.declared.Refusal.{Refusal}
use Rattle.report.specs.declared.Refusal.TheVariants.{Schedule}
use Rattle.report.specs.declared.Refused.{Refused}
use Rattle.report.specs.declared.Measured.{Measured}
use Rattle.report.specs.Named.{number}
use Rattle.report.specs.Table.{told, added_to}
use Rattle.report.specs.Report.{told_measured, measured_of, rows_after}

-- `report`, `by_value`, `added` and `laid_down`, and the conversions
pub record OnlyOneAnswerFits : Type 0 where
  pub to_report : (text : List ℕ) (table : List (List ℕ)) (rows : List Tally) (r s : Result (List (List ℕ)) Refused)
      (after kept : List Tally)
      → told r ≡ (measured_of text table (length rows)).told → after ≡ rows_after text table rows
      → told s ≡ (measured_of text table (length rows)).told → kept ≡ rows_after text table rows
      → (r ≡ s) × (after ≡ kept)
  pub to_by_value : (text : List ℕ) (table : List (List ℕ)) (lent : ℕ) (m o : Result Measured Refused)
      → told_measured m ≡ measured_of text table lent → told_measured o ≡ measured_of text table lent → m ≡ o
  pub to_added : (t m : List (List ℕ)) (r s : Result (List (List ℕ)) Refused)
      → told r ≡ added_to t m → told s ≡ added_to t m → r ≡ s
  pub to_laid_down : (m : Measured) (r s : List Tally) → r ≡ take m.count m.rows → s ≡ take m.count m.rows → r ≡ s
  pub of_number : (refusal : Refusal) (r s : ℕ) → r ≡ number refusal → s ≡ number refusal → r ≡ s
  pub of_schedule : (schedule : ScheduleRefusal) (r s : Refusal) → r ≡ Schedule schedule → s ≡ Schedule schedule → r ≡ s
