-- `bench::lines::write_shown` meets its contract: the row's cells and its marks are those of `row_shown`.
use Rattle.bench.specs.Log.{row_shown}
use Rattle.bench.proofs.Sizes.{row_size}
use Rattle.bench.proofs.Parts.{wrote}
use Rattle.bench.proofs.lines.write_shown.Goals as goal

pub returns : goal.returns
unfolding row_shown
returns c = let a = c.args in
    wrote (row_shown a.p a.tail a.row a.event) a.out.now 17 (row_size a.p a.tail a.row a.event) c.requires c.write_row.new.out
    (simp c.marks-given.ensures at c.write_row.ensures.out_after)
