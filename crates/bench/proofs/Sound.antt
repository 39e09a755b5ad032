-- The state is sound from line to line, so the event that does not test it is the event.
--     lock_not_zero    a refusal of the lock is not 0
--     carried_is       on a sound state the two are one
--     happens_whole    and what it answers is sound
-- Assumes nothing.
use Prim.Native.Nat.{ℕ}
use mathlib.Core.Path.{◌≡◌, refl}
use mathlib.Core.Bool.{false}
use lib.Dec.{eqb}
use Rattle.lock.specs.declared.LockState.{LockState}
use Rattle.lock.specs.declared.Refusal.{Refusal}
use Rattle.lock.specs.declared.Refusal.TheVariants.{UnknownEdition, ProcessorCount, UnknownEvent, NoSuchProcessor, Unsound}
use Rattle.lock.specs.Event.{Answer, carried, happens}
use Rattle.lock.specs.Named.{refusal_number}
use Rattle.lock.specs.Kept.{Whole}
use Rattle.lock.proofs.Keeping.{event_kept}

pub lock_not_zero : (refusal : Refusal) → eqb (refusal_number refusal) 0 ≡ false
lock_not_zero UnknownEdition = refl
lock_not_zero ProcessorCount = refl
lock_not_zero UnknownEvent = refl
lock_not_zero NoSuchProcessor = refl
lock_not_zero Unsound = refl

pub carried_is : {s : LockState} → Whole s → (event p : ℕ) (r : Answer) → r ≡ carried s event p → r ≡ happens s event p
unfolding happens
carried_is w event p r e = simp w.fit e

pub happens_whole : {s : LockState} → Whole s → (event p : ℕ) (r : Answer) → r ≡ happens s event p → Whole r.state
happens_whole {s} w event p r e = rw e (event_kept s event p w)
