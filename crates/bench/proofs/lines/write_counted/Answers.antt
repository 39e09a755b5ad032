-- `bench::lines::write_counted` meets its contract: the number goes into the two bytes that `counted` says.
use Rattle.bench.specs.Log.{counted}
use Rattle.bench.proofs.Sizes.{count_size}
use Rattle.bench.proofs.Parts.{wrote}
use Rattle.bench.proofs.lines.write_counted.Goals as goal

pub returns : goal.returns
returns c =
    let k = c.args.accepted in
    wrote (counted k) c.args.out.now 9 (count_size k) c.requires c.write_count.new.out
    (simp c.high_low.ensures at c.write_count.ensures.out_after)
