-- `bench::opening::first` meets its contract: what the reader and the lock answer to line 1 decides what the log is.
use Rattle.std.proofs.Common.{true, sym, ap}
use Rattle.std.proofs.lemmas.Result.{err_from_is_err_and}
use Rattle.lock.specs.Event.{refused}
use Rattle.lock.specs.Named.{refusal_number}
use Rattle.lock.proofs.Keeping.{fresh_kept}
use Rattle.bench.proofs.Sizes.{whole_nine}
use Rattle.bench.proofs.Frames.{open_refuses}
use Rattle.bench.proofs.Sound.{lock_not_zero}
use Rattle.bench.proofs.FirstLine.{opens, refuses}
use Rattle.bench.proofs.opening.first.Goals as goal

pub returns-in_err-line : goal.returns-in_err-line
returns-in_err-line c =
    let e = err_from_is_err_and c.from_residual.result c.from_residual.ensures.1 in
    rw (e.1, e.2) (open_refuses c.args.schedule.now _ (sym c.in_err-line.ensures))

pub returns-in_err-fresh : goal.returns-in_err-fresh
returns-in_err-fresh c =
    let e = err_from_is_err_and c.from_residual-in_err-fresh.result c.from_residual-in_err-fresh.ensures.1 in
    let r = c.in_err-fresh.field-0.0 in
    rw (e.1, e.2)
    (refuses c.args.schedule.now _ _ _ _ c.in_ok-line.ensures (refused (refusal_number r.refusal) r.state) c.in_err-fresh.ensures
    (lock_not_zero r.refusal))

pub returns : goal.returns
returns c =
    let f = c.in_ok-line.line in
    let text = c.args.schedule.now in (
      whole_nine text true (ap (λ t. t.refusal) (sym c.in_ok-line.ensures)),
      rw (ap (λ a. a.state) c.in_ok-fresh.ensures) (fresh_kept f.first f.second),
      opens text _ _ _ _ c.in_ok-line.ensures c.in_ok-fresh.field-0 c.in_ok-fresh.ensures,
    )
