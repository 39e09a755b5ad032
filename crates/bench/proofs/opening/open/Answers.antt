-- `bench::opening::open` meets its contract: the line of line 1's numbers with the later lines behind it is the log.
use Rattle.std.proofs.Common.{arith, sym}
use Rattle.bench.specs.Steps.{later_log}
use Rattle.bench.proofs.FirstLine.{follows}
use Rattle.bench.proofs.opening.open.Goals as goal

pub returns-in-Ok : goal.returns-in-Ok
returns-in-Ok c =
    let s = c.in-Ok.state in
    rw (c.in-Ok.ensures.2, sym c.rest-later.ensures)
    (follows c.args.schedule.now c.args.out.now s.edition s.n (omega (arith, c.requires)) c.write_header.new.out
    c.write_header.ensures.out_after (later_log s c.rest-later.result.now) c.follow.result c.follow.new.out c.follow.ensures)
