-- The loop of `bench::turns::follow`: what is written and what is still to come are the whole log. The measure is the
-- length of the text that is left.
use Rattle.std.proofs.Common.{length}
use Rattle.bench.proofs.Carried.{Carried}
use Rattle.bench.proofs.turns.follow.Given as goal

abbrev pub invariant-loop-rest : goal.invariant-loop-rest
invariant-loop-rest l = Carried l.text l.fn.first l.fn.out l.out l.rest l.state l.accepted l.at

abbrev pub decreases-loop-rest : goal.decreases-loop-rest
decreases-loop-rest l = length l.rest
