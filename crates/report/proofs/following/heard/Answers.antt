-- `report::following::heard` meets its contract: the schedule's length first, then line 1, then the others.
use Rattle.std.proofs.Common.{refl, ap, ◌∙◌}
use Rattle.lock.specs.declared.LockState.{LockState}
use Rattle.bench.specs.Named.{number}
use Rattle.bench.specs.Bridge.{first_state}
use Rattle.report.specs.Followed.{followed_of}
use Rattle.report.proofs.Numbers.{schedule_not_zero}
use Rattle.report.proofs.Opening.{follows_long, follows_refused, follows_on, follows_alike}
use Rattle.report.proofs.following.heard.Goals as goal

pub returns-then-schedule-gt-LONGEST : goal.returns-then-schedule-gt-LONGEST
returns-then-schedule-gt-LONGEST c = follows_long c.args.schedule.now _ c.if-schedule-gt-LONGEST.true (refl, refl)

pub follow-requires-clause-whole : goal.follow-requires-clause-whole
follow-requires-clause-whole c = c.in-Ok.ensures.0

pub returns-in-Ok : goal.returns-in-Ok
returns-in-Ok c =
    let text = c.args.schedule.now in
    let begun = c.in-Ok.ensures in
    follows_alike text _ _ c.follow.ensures
    (follows_on text _ c.if-schedule-gt-LONGEST.false begun.1
    (ap (λ (t : LockState). followed_of t c.rest.result.now) begun.2 ∙ ap (followed_of (first_state text)) c.rest.ensures))

pub returns-in-Err : goal.returns-in-Err
returns-in-Err c =
    follows_refused c.args.schedule.now _ c.if-schedule-gt-LONGEST.false (number c.in-Err.refusal) c.in-Err.ensures
    (schedule_not_zero c.in-Err.refusal) (refl, refl)
