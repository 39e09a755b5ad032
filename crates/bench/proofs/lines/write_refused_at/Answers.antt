-- `bench::lines::write_refused_at` meets its contract: the line's number goes into the two bytes that `refused_at` says.
use Rattle.bench.specs.Named.{number}
use Rattle.bench.specs.Log.{refused_at}
use Rattle.bench.proofs.Sizes.{refusal_size}
use Rattle.bench.proofs.Parts.{wrote}
use Rattle.bench.proofs.lines.write_refused_at.Goals as goal

pub returns : goal.returns
returns c =
    let n = number c.args.refusal in
    let k = c.args.line in
    wrote (refused_at n k) c.args.out.now 11 (refusal_size n k) c.requires c.write_refusal.new.out
    (simp (c.from.ensures, c.high_low.ensures) at c.write_refusal.ensures.out_after)
