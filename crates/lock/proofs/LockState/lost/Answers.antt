-- `lock::LockState::lost` meets its contract: the state is handed back.
use Rattle.lock.proofs.Ground.Places.{lost_same}
use Rattle.lock.proofs.LockState.lost.Goals as goal

pub returns : goal.returns
returns c = lost_same _ _
