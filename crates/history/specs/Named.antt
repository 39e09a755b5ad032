-- What the numbers of request [6] stand for, beside those of the lock: events and refusals, each by the name that the code has for it.
--     event_number, refusal_number    the number of each
--     of_lock                         a refusal of the lock's, as one of the history's
--     NamesEvent                      what a number is taken for: the event of that number, or 8 where there is none
use Rattle.std.specs.Prelude.{ℕ, ◌≡◌, ◌≢◌, Result, Ok, Err}
use Rattle.lock.specs.declared.Refusal.{Refusal as LockRefusal}
use Rattle.lock.specs.declared.Refusal.TheVariants.{UnknownEvent}
use Rattle.lock.specs.Named as Lower
use Rattle.history.specs.declared.Event.{Event}
use Rattle.history.specs.declared.Event.TheVariants.{Lock as LockEvent, Undo}
use Rattle.history.specs.declared.Refusal.{Refusal}
use Rattle.history.specs.declared.Refusal.TheVariants.{Lock, NothingLeft}

-- "an undo event, 3"
abbrev pub event_number : Event → ℕ
event_number (LockEvent event) = Lower.event_number event
event_number Undo = 3

-- "14, nothing left to undo"
abbrev pub refusal_number : Refusal → ℕ
refusal_number (Lock refusal) = Lower.refusal_number refusal
refusal_number NothingLeft = 14

-- each keeps its number
abbrev pub of_lock : LockRefusal → Refusal
of_lock refusal = Lock refusal

-- "8 is now given for events other than 1, 2, 3"
abbrev pub NamesEvent : ℕ → Result Event Refusal → Type 0
NamesEvent k (Ok event) = k ≡ event_number event
NamesEvent k (Err refusal) = (refusal ≡ of_lock UnknownEvent) × (k ≢ 1) × (k ≢ 2) × (k ≢ 3)
