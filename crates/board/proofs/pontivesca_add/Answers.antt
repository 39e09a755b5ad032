-- `board::pontivesca_add` meets its contract: a table that is refused stays as it was.
use Rattle.std.proofs.Common.{Err, sym}
use Rattle.report.specs.Table.{told, cell}
use Rattle.report.proofs.Adding.{added_stays}
use Rattle.report.proofs.Numbers.{not_zero}
use Rattle.board.proofs.pontivesca_add.Goals as goal

pub returns-in-Err-clause-table_after : goal.returns-in-Err-clause-table_after
returns-in-Err-clause-table_after c =
    let r = c.in-Err.refused in
    sym (added_stays c.args.table.now (cell c.args.other.now) (told (Err r)) c.in-Err.ensures (not_zero r.refusal))
