-- `lock::LockState::event` meets its contract: refusal 11 is tested first.
use Rattle.lock.specs.Event.{happens}
use Rattle.lock.proofs.LockState.event.Goals as goal

pub returns-then-not-is_sound : goal.returns-then-not-is_sound
unfolding happens
returns-then-not-is_sound c = simp (← c.is_sound.ensures, c.if-not-is_sound.true, c.refused.ensures)

pub returns : goal.returns
unfolding happens
returns c = simp (← c.is_sound.ensures, c.if-not-is_sound.false) c.carried.ensures
