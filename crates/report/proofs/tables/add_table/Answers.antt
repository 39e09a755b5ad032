-- `report::tables::add_table` meets its contract: the rows that the loop has stored are those of the definition.
use Rattle.std.proofs.Common.{[], arith}
use Rattle.lock.specs.State.{processors}
use Rattle.report.specs.Table.{table_sum}
use Rattle.report.proofs.Adding.{row_fits}
use Rattle.report.proofs.Upto.{upto_all}
use Rattle.report.proofs.tables.add_table.Goals as goal

pub add_row-requires : goal.add_row-requires
add_row-requires c =
    rw (c.loop-a.invariant.left c.loop-a.a (omega arith)) (row_fits c.args.t.now c.args.m.now c.loop-a.a c.requires (omega arith))

pub returns : goal.returns
unfolding table_sum
returns c = upto_all _ processors _ [] c.loop-a.invariant.long (λ i l. c.loop-a.invariant.stored i (omega arith))
