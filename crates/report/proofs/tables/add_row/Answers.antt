-- `report::tables::add_row` meets its contract: the cells that the loop has stored are those of the definition.
use Rattle.std.proofs.Common.{arith}
use Rattle.lock.specs.State.{processors}
use Rattle.report.specs.Table.{row_sum}
use Rattle.report.proofs.Adding.{sum_fits}
use Rattle.report.proofs.Upto.{upto_all}
use Rattle.report.proofs.tables.add_row.Goals as goal

pub overflow_add-x : goal.overflow_add-x
overflow_add-x c =
    omega (arith, sum_fits c.args.t.now c.args.m.now c.loop-i.i c.requires (omega arith), c.loop-i.invariant.left c.loop-i.i (omega arith))

pub returns : goal.returns
unfolding row_sum
returns c = upto_all _ processors _ 0 c.loop-i.invariant.long (λ i l. c.loop-i.invariant.stored i (omega arith))
