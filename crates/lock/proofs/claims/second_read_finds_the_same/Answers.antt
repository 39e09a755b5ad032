-- `lock::claims::second_read_finds_the_same` meets its contract by the law of that name.
use Rattle.lock.proofs.Roof.Reread.{second_read_finds_the_same}
use Rattle.lock.proofs.claims.second_read_finds_the_same.Goals as goal

pub returns : goal.returns
returns c = second_read_finds_the_same
