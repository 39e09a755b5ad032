-- Request [6]: "After any mix of events and undos the state, journal aside, equals the one that the events not undone give from the
-- fresh state." Which events are not undone is read off the schedule, without a journal: they lie on a pile, an undo takes the newest
-- off, and no more than 256 can be taken off one after the other. Whether an event is accepted is asked of the run of those that
-- lie there.
--     survivors      the events not undone, in their order
--     who_in         whose row the 03 line of a call shows
--     walk           the state with its journal after a schedule of events and undos
use Rattle.std.specs.Prelude.{ℕ, Bool, cond, ◌&&◌, List, [], ◌∷◌, ◌++◌, ◌==◌}
use Rattle.lock.specs.declared.LockState.{LockState}
use Rattle.lock.specs.Event.{happens}
use Rattle.lock.specs.Run.{Call, run}
use Rattle.history.specs.declared.History.{History}
use Rattle.history.specs.Journal.{deeper, shallower}
use Rattle.history.specs.Event.{is_undo, goes}

-- the calls not undone, the newest first, and how many of them can be
pub record Pile : Type 0 where
  pub calls : List Call
  pub depth : ℕ

abbrev pub nothing : Pile
nothing = record { calls = []; depth = 0 }

-- one call more
abbrev pub onto : Pile → Call → Pile
onto k c = record { calls = c ∷ k.calls; depth = deeper k.depth }

-- without the newest
abbrev pub but_newest : List Call → List Call
but_newest [] = []
but_newest (c ∷ older) = older

abbrev pub off : Pile → Pile
off k = record { calls = but_newest k.calls; depth = shallower k.depth }

unfoldable pub oldest_first : List Call → List Call
oldest_first [] = []
oldest_first (c ∷ older) = oldest_first older ++ (c ∷ [])

-- "an undo event, 3, whose processor byte is 0"
abbrev pub takes_back : Call → Bool
takes_back c = is_undo c.event && c.processor == 0

-- the lock accepts the call: a step or raise of one of its processors
abbrev pub accepts : LockState → Call → Bool
accepts s c = (happens s c.event c.processor).refusal == 0

-- A call: an undo takes the newest off if it can, an accepted event comes onto the pile, and what is refused leaves it.
unfoldable pub told : LockState → Pile → Call → Pile
told s k c =
    cond (takes_back c) (cond (k.depth == 0) k (off k))
    (cond (accepts (run s (oldest_first k.calls)) c) (onto k c) k)

unfoldable pub piled : LockState → Pile → List Call → Pile
piled s k [] = k
piled s k (c ∷ cs) = piled s (told s k c) cs

-- "the events not undone", of a schedule from the state s, in their order
unfoldable pub survivors : LockState → List Call → List Call
survivors s calls = oldest_first (piled s nothing calls).calls

-- the processor of the last of some calls; 0 for none
unfoldable pub last_of : List Call → ℕ
last_of [] = 0
last_of (c ∷ []) = c.processor
last_of (c ∷ d ∷ later) = last_of (d ∷ later)

-- "an 03 frame for the processor of the undone event": the newest event not undone before the call, where the call is an undo
abbrev pub who_in : LockState → List Call → Call → ℕ
who_in s before c = cond (takes_back c) (last_of (survivors s before)) c.processor

-- the state with its journal after a call, and after a schedule; a refused call changes nothing
unfoldable pub afterward : History → Call → History
afterward h c = (goes h c.event c.processor).state

unfoldable pub walk : History → List Call → History
walk h [] = h
walk h (c ∷ cs) = walk (afterward h c) cs
