-- `report::laws::any_order` promises a law that is proved in `proofs/Orders.antt`.
use Rattle.report.proofs.Orders.{any_order}
use Rattle.report.proofs.laws.any_order.Goals as goal

pub returns : goal.returns
returns c = any_order
