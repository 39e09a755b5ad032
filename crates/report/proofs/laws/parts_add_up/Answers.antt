-- `report::laws::parts_add_up` promises a law that is proved in `proofs/Orders.antt`.
use Rattle.report.proofs.Orders.{parts_add_up}
use Rattle.report.proofs.laws.parts_add_up.Goals as goal

pub returns : goal.returns
returns c = parts_add_up
