-- `bench::opening::bench` meets its contract: the room is tested first, then refusal 1, and then the log is opened.
use Rattle.std.proofs.Common.{le-ltb, lt-ltb}
use Rattle.bench.specs.Log.{refused_at}
use Rattle.bench.specs.Steps.{opened_log}
use Rattle.bench.proofs.Whole.{is_short, is_logged, is_long, is_opened, has_room, long_room}
use Rattle.bench.proofs.opening.bench.Goals as goal

pub returns-then-out-room_for : goal.returns-then-out-room_for
returns-then-out-room_for c =
    let r = c.room_for in
    let log = is_short c.args.schedule.now c.args.out.now r.result r.ensures (lt-ltb _ _ c.if-out-room_for.true) in
    record { value = log.0; out_after = log.1.0; counts = log.1.1 }

pub write_refused_at-requires : goal.write_refused_at-requires
write_refused_at-requires c =
    let r = c.room_for in
    long_room c.args.schedule.now c.args.out.now r.result r.ensures (le-ltb _ _ c.if-out-room_for.false)

pub returns-then-size-gt-LONGEST : goal.returns-then-size-gt-LONGEST
returns-then-size-gt-LONGEST c =
    let r = c.room_for in
    let log =
    is_logged c.args.schedule.now c.args.out.now r.result r.ensures (le-ltb _ _ c.if-out-room_for.false) (refused_at 1 0)
    (is_long c.args.schedule.now (lt-ltb _ _ c.if-size-gt-LONGEST.true)) _ _ c.write_refused_at.ensures in
    record { value = log.0; out_after = log.1.0; counts = log.1.1 }

pub open-requires : goal.open-requires
open-requires c =
    let r = c.room_for in
    has_room c.args.schedule.now c.args.out.now r.result r.ensures (le-ltb _ _ c.if-out-room_for.false) (le-ltb _ _ c.if-size-gt-LONGEST.false)

pub returns : goal.returns
returns c =
    let r = c.room_for in
    let log =
    is_logged c.args.schedule.now c.args.out.now r.result r.ensures (le-ltb _ _ c.if-out-room_for.false) (opened_log c.args.schedule.now)
    (is_opened c.args.schedule.now (le-ltb _ _ c.if-size-gt-LONGEST.false)) _ _ c.«open».ensures in
    record { value = log.0; out_after = log.1.0; counts = log.1.1 }
