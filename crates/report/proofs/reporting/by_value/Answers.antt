-- `report::reporting::by_value` meets its contract: the schedule's own refusal, then 13, then 12.
use Rattle.std.proofs.Common.{◌≡◌, ℕ, Ok, Err, refl, ap, ◌∙◌, rules, arith, lt-ltb, le-ltb}
use Rattle.std.proofs.lemmas.Result.{err_from_is_err_and}
use Rattle.report.specs.declared.Refusal.TheVariants.{Schedule}
use Rattle.report.specs.Named.{number}
use Rattle.report.specs.Table.{told as report_told, added_to}
use Rattle.report.specs.Report.{Measured, told_measured}
use Rattle.report.specs.Followed.{told, Follows}
use Rattle.report.proofs.Mapped.{kept_ok, kept_err}
use Rattle.report.proofs.Numbers.{schedule_not_zero, not_zero}
use Rattle.report.proofs.Measuring.{own_refused, few, over, counted}
use Rattle.report.proofs.reporting.by_value.Goals as goal

pub returns-in_err-n-clause-value : goal.returns-in_err-n-clause-value
returns-in_err-n-clause-value c =
    let a = c.args in
    let x =
    kept_err (λ r. Follows a.schedule.now (told r)) c.map_err.result _ c.heard.result _ c.map_err.ensures.cases c.in_err-n.was
    c.heard.ensures in
    let d = c.in_err-n.field-0.0 in
    let is : (d.refusal ≡ Schedule x.0.refusal) × (d.line ≡ x.0.line) × (d.table ≡ a.table) = search rules in
    let p = err_from_is_err_and c.from_residual.result c.from_residual.ensures.1 in
    rw (p.1, p.2)
    (own_refused a.schedule.now a.table a.lent (told (Err x.0)) x.1 (schedule_not_zero x.0.refusal) d (ap number is.0) is.1 is.2).0

pub returns-then-lent-n-clause-value : goal.returns-then-lent-n-clause-value
returns-then-lent-n-clause-value c =
    let a = c.args in
    let h = c.in_ok-n.field-0 in
    let found =
    kept_ok (λ r. Follows a.schedule.now (told r)) c.map_err.result _ c.heard.result _ c.map_err.ensures.cases c.in_ok-n.was
    c.heard.ensures in
    (few a.schedule.now a.table a.lent (told (Ok h)) found refl (lt-ltb a.lent h.n (omega (arith, c.from-n.ensures)))
    (record { refusal = 13; line = 0; table = a.table }) refl _ refl).0

pub returns-in_err-sum-clause-value : goal.returns-in_err-sum-clause-value
returns-in_err-sum-clause-value c =
    let a = c.args in
    let h = c.in_ok-n.field-0 in
    let found =
    kept_ok (λ r. Follows a.schedule.now (told r)) c.map_err.result _ c.heard.result _ c.map_err.ensures.cases c.in_ok-n.was
    c.heard.ensures in
    let r = c.in_err-sum.field-0.0 in
    let p = err_from_is_err_and c.from_residual-in_err-sum.result c.from_residual-in_err-sum.ensures.1 in
    rw (p.1, p.2)
    (over a.schedule.now a.table a.lent (told (Ok h)) found refl (le-ltb a.lent h.n (omega (arith, c.from-n.ensures)))
    (report_told (Err r)) (c.in_err-sum.ensures ∙ ap (added_to a.table) c.charges.ensures) (not_zero r.refusal)
    (told_measured (Err r)) refl).0

-- nothing is refused
pub returns-clause-count_le_lent : goal.returns-clause-count_le_lent
returns-clause-count_le_lent c =
    let a = c.args in
    let h = c.in_ok-n.field-0 in
    let found =
    kept_ok (λ r. Follows a.schedule.now (told r)) c.map_err.result _ c.heard.result _ c.map_err.ensures.cases c.in_ok-n.was
    c.heard.ensures in
    let ended =
    counted a.schedule.now a.table a.lent (told (Ok h)) found refl (le-ltb a.lent h.n (omega (arith, c.from-n.ensures)))
    (report_told (Ok c.in_ok-sum.sum)) (c.in_ok-sum.ensures ∙ ap (added_to a.table) c.charges.ensures) refl c.tallies.result
    c.tallies.ensures in
    (omega (arith, c.from-n.ensures, ended.1.0), omega (arith, c.from-n.ensures, ended.1.1))

pub returns-clause-value : goal.returns-clause-value
returns-clause-value c =
    let a = c.args in
    let h = c.in_ok-n.field-0 in
    let found =
    kept_ok (λ r. Follows a.schedule.now (told r)) c.map_err.result _ c.heard.result _ c.map_err.ensures.cases c.in_ok-n.was
    c.heard.ensures in
    let ended =
    counted a.schedule.now a.table a.lent (told (Ok h)) found refl (le-ltb a.lent h.n (omega (arith, c.from-n.ensures)))
    (report_told (Ok c.in_ok-sum.sum)) (c.in_ok-sum.ensures ∙ ap (added_to a.table) c.charges.ensures) refl c.tallies.result
    c.tallies.ensures in
    ap {B = Measured} (λ (k : ℕ). record { told = report_told (Ok c.in_ok-sum.sum); count = k; rows = c.tallies.result }) c.from-n.ensures
    ∙ ended.0
