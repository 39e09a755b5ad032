-- `report::following::begin` meets its contract: by what the reader and the lock answer to line 1.
use Rattle.std.proofs.Common.{Ok, refl, sym, ap, ◌∙◌}
use Rattle.std.proofs.lemmas.Result.{err_from_is_err_and}
use Rattle.lock.specs.Event.{Answer, told}
use Rattle.lock.proofs.Keeping.{fresh_kept}
use Rattle.report.proofs.Opening.{first_told, first_made, read_first, unread_first}
use Rattle.report.proofs.following.begin.Goals as goal

pub returns-in_err-line : goal.returns-in_err-line
returns-in_err-line c =
    let e = err_from_is_err_and c.from_residual.result c.from_residual.ensures.1 in
    rw (e.1, e.2) (unread_first c.args.schedule.now _ (sym c.in_err-line.ensures)).0

pub returns-in_err-state : goal.returns-in_err-state
returns-in_err-state c =
    let e = err_from_is_err_and c.from_residual-in_err-state.result c.from_residual-in_err-state.ensures.1 in
    let f = c.in_ok-line.line in
    let text = c.args.schedule.now in
    let one = read_first text c.requires f.kind f.first f.second f.check (sym c.in_ok-line.ensures) in
    rw (e.1, e.2)
    (first_told text f.first f.second one ∙ ap (λ (x : Answer). x.refusal) (sym c.in_err-state.ensures))

pub returns : goal.returns
returns c =
    let f = c.in_ok-line.line in
    let text = c.args.schedule.now in
    let one = read_first text c.requires f.kind f.first f.second f.check (sym c.in_ok-line.ensures) in
    let made = first_made text f.first f.second one (told (Ok c.in_ok-state.state)) c.in_ok-state.ensures refl in
    (rw (ap (λ (a : Answer). a.state) c.in_ok-state.ensures) (fresh_kept f.first f.second), made.0, made.1)
