-- `frame::writing::write` meets its contract: the tests decide whether the line fits, and the three stores make it.
use Rattle.std.proofs.Common.{◌+◌, ◌*◌, ◌≤◌, length, arith}
use Rattle.frame.proofs.Buffers.{is_refused, is_written, leaves_line}
use Rattle.frame.proofs.writing.write.Goals as goal

pub returns-then-out-lt-ENDING : goal.returns-then-out-lt-ENDING
returns-then-out-lt-ENDING c = let short = is_refused c.args.values.now c.args.out.now (omega arith) in record {
  value = short.0;
  out_after = short.1;
}

pub returns : goal.returns
returns c =
    let values = c.args.values.now in
    let out = c.args.out.now in
    let room : 2 * length values + 3 ≤ length out = omega arith in record {
      value = is_written values out room;
      out_after = leaves_line values out room _ _ _ c.check.ensures c.put_pairs.ensures c.put_pair.ensures;
    }
