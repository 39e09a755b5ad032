-- `bench::laws::every_log_is_a_run` promises a law that is proved in `proofs/Proved.antt`.
use Rattle.bench.proofs.Proved.{every_log_is_a_run}
use Rattle.bench.proofs.laws.every_log_is_a_run.Goals as goal

pub returns : goal.returns
returns c = every_log_is_a_run
