-- What the numbers of document 01 and the requests stand for: editions, events, what a locked cell holds, places and refusals, each by the
-- name that the code has for it.
--     edition_number .. refusal_number    the number of each
--     NamesEdition, NamesEvent, NamesPlace    what a number is taken for: the one of that number, or a refusal where there is none
use Rattle.std.specs.Prelude.{ℕ, ◌≡◌, ◌≤◌, ◌≢◌, Result, Ok, Err}
use Rattle.lock.specs.State.{editions}
use Rattle.lock.specs.Sound.{places}
use Rattle.lock.specs.declared.Edition.{Edition}
use Rattle.lock.specs.declared.Edition.TheVariants.{Plain, Drawn, Guarded, Old}
use Rattle.lock.specs.declared.Event.{Event}
use Rattle.lock.specs.declared.Event.TheVariants.{Step, Raise}
use Rattle.lock.specs.declared.Locked.{Locked as LockedCell}
use Rattle.lock.specs.declared.Locked.TheVariants.{Released, Locked, Preempted, Rp}
use Rattle.lock.specs.declared.places.Place.{Place}
use Rattle.lock.specs.declared.places.Place.TheVariants.{Rest, Gate, Clear, Swap, Arm, Link, Claim, Spin, Settle, Inside, Poll, Service, Back, Regain, Look, Close, Await, Hand, Fence, Park, Peek, Take, Lift, OldTry, OldPoll, OldService, OldFree, Reread, Lost}
use Rattle.lock.specs.declared.places.NoPlace.{NoPlace}
use Rattle.lock.specs.declared.Refusal.{Refusal}
use Rattle.lock.specs.declared.Refusal.TheVariants.{UnknownEdition, ProcessorCount, UnknownEvent, NoSuchProcessor, Unsound}

-- "Edition: 0 plain .., 1 drawn .., 2 guarded"; request [1]: 3 old
abbrev pub edition_number : Edition → ℕ
edition_number Plain = 0
edition_number Drawn = 1
edition_number Guarded = 2
edition_number Old = 3

-- "Two events: 1 step, 2 raise"
abbrev pub event_number : Event → ℕ
event_number Step = 1
event_number Raise = 2

-- "locked (0 Released, 1 Locked, 2 Preempted, 3 R_P, released while preempted)"
abbrev pub locked_number : LockedCell → ℕ
locked_number Released = 0
locked_number Locked = 1
locked_number Preempted = 2
locked_number Rp = 3

-- the step table, and requests [1] and [2]
abbrev pub place_number : Place → ℕ
place_number Rest = 0
place_number Gate = 1
place_number Clear = 2
place_number Swap = 3
place_number Arm = 4
place_number Link = 5
place_number Claim = 6
place_number Spin = 7
place_number Settle = 8
place_number Inside = 9
place_number Poll = 10
place_number Service = 11
place_number Back = 12
place_number Regain = 13
place_number Look = 14
place_number Close = 15
place_number Await = 16
place_number Hand = 17
place_number Fence = 18
place_number Park = 19
place_number Peek = 20
place_number Take = 21
place_number Lift = 22
place_number OldTry = 23
place_number OldPoll = 24
place_number OldService = 25
place_number OldFree = 26
place_number Reread = 27
place_number Lost = 28

-- "What is turned away": 6 to 9, and 11
abbrev pub refusal_number : Refusal → ℕ
refusal_number UnknownEdition = 6
refusal_number ProcessorCount = 7
refusal_number UnknownEvent = 8
refusal_number NoSuchProcessor = 9
refusal_number Unsound = 11

-- a number as an edition: 6 where there is none of that number
abbrev pub NamesEdition : ℕ → Result Edition Refusal → Type 0
NamesEdition k (Ok e) = k ≡ edition_number e
NamesEdition k (Err r) = (r ≡ UnknownEdition) × (editions ≤ k)

-- a number as an event: 8 where there is none of that number
abbrev pub NamesEvent : ℕ → Result Event Refusal → Type 0
NamesEvent k (Ok e) = k ≡ event_number e
NamesEvent k (Err r) = (r ≡ UnknownEvent) × (k ≢ 1) × (k ≢ 2)

-- a number as a place: none where there is none of that number
abbrev pub NamesPlace : ℕ → Result Place NoPlace → Type 0
NamesPlace k (Ok place) = k ≡ place_number place
NamesPlace k (Err _) = places ≤ k
