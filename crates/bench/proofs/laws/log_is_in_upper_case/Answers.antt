-- `bench::laws::log_is_in_upper_case` promises a law that is proved in `proofs/Proved.antt`.
use Rattle.bench.proofs.Proved.{log_is_in_upper_case}
use Rattle.bench.proofs.laws.log_is_in_upper_case.Goals as goal

pub returns : goal.returns
returns c = log_is_in_upper_case
