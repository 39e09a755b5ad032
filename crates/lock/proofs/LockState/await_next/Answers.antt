-- `lock::LockState::await_next` meets its contract: the row that was read and the test that led here are those of `await`, which as a
-- word of the code cannot stand in the function's attribute.
use Rattle.std.proofs.Common.{arith}
use Rattle.lock.specs.Acts.{await}
use Rattle.lock.proofs.LockState.await_next.Goals as goal

pub returns-then-unlinked : goal.returns-then-unlinked
unfolding await
returns-then-unlinked c = grind arith

pub returns-else-unlinked : goal.returns-else-unlinked
unfolding await
returns-else-unlinked c = grind arith
