-- `lock::LockState::fresh_state` meets its contract: sixteen times the fresh row.
use Rattle.lock.specs.State.{fresh_state}
use Rattle.lock.proofs.LockState.fresh_state.Goals as goal

pub returns : goal.returns
unfolding fresh_state
returns c = simp (c.from.ensures, c.fresh.ensures)
