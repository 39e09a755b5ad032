-- `report::laws::rows_are_laid` meets its contract by the law of that name.
use Rattle.report.proofs.Laying.{rows_are_laid}
use Rattle.report.proofs.laws.rows_are_laid.Goals as goal

pub returns : goal.returns
returns c = rows_are_laid
