-- `lock::LockState::stepped` meets its contract: the act is that of the place which the number names.
use Rattle.std.proofs.Common.{refl}
use Rattle.lock.specs.Named.{place_number}
use Rattle.lock.proofs.Ground.Places.{at_place, at_nowhere}
use Rattle.lock.proofs.LockState.stepped.Goals as goal

pub returns-in-Ok : goal.returns-in-Ok
returns-in-Ok c =
    at_place _ _ (place_number c.in-Ok.place) _ _ _ c.row.ensures c.in-Ok.ensures refl c.act.ensures

pub returns-in-Err : goal.returns-in-Err
returns-in-Err c = at_nowhere _ _ _ c.row.ensures c.in-Err.ensures
