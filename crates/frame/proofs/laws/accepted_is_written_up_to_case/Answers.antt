-- `frame::laws::accepted_is_written_up_to_case` meets its contract: the law is proved.
-- Assumes nothing.
use Rattle.frame.proofs.Proved.{accepted_is_written_up_to_case}
use Rattle.frame.proofs.laws.accepted_is_written_up_to_case.Goals as goal

pub returns : goal.returns
returns c = accepted_is_written_up_to_case
