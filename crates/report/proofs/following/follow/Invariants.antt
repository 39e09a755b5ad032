-- The loop of `report::following::follow`: the calls heard so far, and the accounts over them. The measure is the length of the
-- text that is left.
use Rattle.std.proofs.Common.{length}
use Rattle.report.proofs.Going.{Along}
use Rattle.report.proofs.following.follow.Given as goal

abbrev pub invariant-loop-rest : goal.invariant-loop-rest
invariant-loop-rest l = Along l.text l.fn.first l.rest l.state l.accounts l.accepted

abbrev pub decreases-loop-rest : goal.decreases-loop-rest
decreases-loop-rest l = length l.rest
