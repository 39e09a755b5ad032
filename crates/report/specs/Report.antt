-- The report of one schedule: request [4]'s counts and rows by the definition over its steps, and the refusals in their order.
use Rattle.std.specs.Prelude.{ℕ, cond, List, ◌++◌, Result, Ok, Err, length, take, drop, replicate, eqb, ltb}
use Rattle.lock.specs.declared.LockState.{LockState}
use Rattle.lock.specs.State.{processors}
use Rattle.lock.specs.Run.{Call}
use Rattle.lock.specs.Count.{entries_in, interrupts_in, joins_in}
use Rattle.bench.specs.Bridge.{first_state, processors_of, heard_of}
use Rattle.bench.specs.Verdict.{verdict_of}
use Rattle.report.specs.declared.Tally.{Tally}
use Rattle.report.specs.declared.Refused.{Refused}
use Rattle.report.specs.declared.Measured.{Measured as Found}
use Rattle.report.specs.Charges.{charges}
use Rattle.report.specs.Table.{Reported, told, upto, Counts, counts_added}

-- the counts of a schedule, over the run of its calls
abbrev pub charges_of : List ℕ → Counts
charges_of text a b = charges (first_state text) (heard_of text) a b

-- "this schedule's entries, interrupts taken and joins", of processor p, in a run and in a schedule
abbrev pub tally_in : LockState → List Call → ℕ → Tally
tally_in s calls p = record {
  entries = entries_in s calls p;
  interrupts = interrupts_in s calls p;
  joins = joins_in s calls p;
}

unfoldable pub tally_of : List ℕ → ℕ → Tally
tally_of text p = tally_in (first_state text) (heard_of text) p

abbrev pub no_tally : Tally
no_tally = record { entries = 0; interrupts = 0; joins = 0 }

-- "The order is those of the schedule, then 13, then 12; a refused schedule adds nothing"
unfoldable pub reported_of : List ℕ → List (List ℕ) → ℕ → Reported
reported_of text table lent =
    cond (eqb (verdict_of text).refusal 0)
    (cond (ltb lent (processors_of text)) (record { refusal = 13; line = 0; table = table })
    (counts_added table (charges_of text)))
    (record { refusal = (verdict_of text).refusal; line = (verdict_of text).line; table = table })

-- The same by value: what is answered, and how many of the tallies are laid down.
pub record Measured : Type 0 where
  pub told : Reported
  pub count : ℕ
  pub rows : List Tally

-- what is refused lays down no row
abbrev pub unmeasured : Reported → Measured
unmeasured r = record { told = r; count = 0; rows = replicate processors no_tally }

-- what the code's answer by value says
abbrev pub told_measured : Result Found Refused → Measured
told_measured (Ok m) = record { told = told (Ok m.table); count = m.count; rows = m.rows }
told_measured (Err r) = unmeasured (told (Err r))

-- "a list of rows, one for each processor": otherwise N rows are
abbrev pub laid_down : List ℕ → Reported → Measured
laid_down text r = record { told = r; count = processors_of text; rows = upto processors (tally_of text) }

abbrev pub measured_as : List ℕ → Reported → Measured
measured_as text r = cond (eqb r.refusal 0) (laid_down text r) (unmeasured r)

unfoldable pub measured_of : List ℕ → List (List ℕ) → ℕ → Measured
measured_of text table lent = measured_as text (reported_of text table lent)

-- "Lent rows from N on stay as they were"; "and changes no lent row"
unfoldable pub rows_after : List ℕ → List (List ℕ) → List Tally → List Tally
rows_after text table rows =
    let m = measured_of text table (length rows) in
    take m.count m.rows ++ drop m.count rows
