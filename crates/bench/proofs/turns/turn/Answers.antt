-- `bench::turns::turn` meets its contract: on a sound state the event that does not test it is the event, so the line is a turn of
-- the log.
use Rattle.std.proofs.Common.{refl, sym}
use Rattle.std.proofs.lemmas.Result.{err_from_is_err_and}
use Rattle.lock.specs.Event.{accepted, refused}
use Rattle.lock.specs.Named.{refusal_number}
use Rattle.bench.proofs.Frames.{turn_shows, turn_stops, turn_refuses}
use Rattle.bench.proofs.Sound.{lock_not_zero, carried_is, happens_whole}
use Rattle.bench.proofs.turns.turn.Goals as goal

pub returns-in_err-line : goal.returns-in_err-line
returns-in_err-line c =
    let e = err_from_is_err_and c.from_residual.result c.from_residual.ensures.1 in
    rw (e.1, e.2) (λ line. turn_refuses c.args.state.now line c.args.text.now _ (sym c.in_err-line.ensures))

pub returns-in_err-state : goal.returns-in_err-state
returns-in_err-state c =
    let e = err_from_is_err_and c.from_residual-in_err-state.result c.from_residual-in_err-state.ensures.1 in
    let r = c.in_err-state.field-0.0 in
    let a = refused (refusal_number r.refusal) r.state in
    rw (e.1, e.2)
    (λ line.
    turn_stops c.args.state.now line c.args.text.now _ _ _ _ (sym c.in_ok-line.ensures) a
    (carried_is c.requires _ _ a c.in_err-state.ensures) (lock_not_zero r.refusal))

pub returns : goal.returns
returns c =
    let a = accepted c.in_ok-state.field-0 in
    let is = carried_is c.requires _ _ a c.in_ok-state.ensures in (
      λ line. turn_shows c.args.state.now line c.args.text.now _ _ _ _ (sym c.in_ok-line.ensures) a is refl,
      happens_whole c.requires _ _ a is,
    )
