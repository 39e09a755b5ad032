-- `report::reporting::report` meets its contract: the answer is that of `by_value`, and its tallies are copied into the rows.
use Rattle.std.proofs.Common.{List, ◌++◌, take, drop, ap, ◌∙◌}
use Rattle.std.proofs.lemmas.Result.{err_from_is_err_and}
use Rattle.report.specs.declared.Tally.{Tally}
use Rattle.report.specs.Report.{Measured, rows_after}
use Rattle.report.proofs.reporting.report.Goals as goal

pub returns-in_err-measured : goal.returns-in_err-measured
unfolding rows_after
returns-in_err-measured c =
    let rows = c.args.rows.now in
    let p = err_from_is_err_and c.from_residual.result c.from_residual.ensures.1 in
    rw (p.1, p.2) (
      ap (λ (x : Measured). x.told) c.in_err-measured.ensures.value,
      ap (λ (x : Measured). take x.count x.rows ++ drop x.count rows) c.in_err-measured.ensures.value,
    )

pub returns : goal.returns
unfolding rows_after
returns c =
    let m = c.in_ok-measured in
    let rows = c.args.rows.now in (
      ap (λ (x : Measured). x.told) m.ensures.value,
      ap (λ (ts : List Tally). ts ++ drop m.measured.count rows) (c.copy_from_slice.ensures.after ∙ c.laid_down.ensures)
          ∙ ap (λ (x : Measured). take x.count x.rows ++ drop x.count rows) m.ensures.value,
    )
