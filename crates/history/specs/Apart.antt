-- The words for a loop that keeps the lock's state and the journal apart, so that no call copies the journal: what an event makes of
-- the state, and of the journal's slot, position and depth. That this is the event is proved in proofs/Turning.
use Rattle.std.specs.Prelude.{ℕ, cond, not, ◌==◌, slice_index_or, slice_set, Result, Ok, Err}
use Rattle.lock.specs.declared.LockState.{LockState}
use Rattle.lock.specs.Event.{Answer, carried}
use Rattle.history.specs.declared.Entry.{Entry}
use Rattle.history.specs.declared.Journal.{Journal}
use Rattle.history.specs.declared.Moved.{Moved}
use Rattle.history.specs.declared.Refused.{Refused}
use Rattle.history.specs.Journal.{empty_entry, restored, deeper, shallower, next, previous}
use Rattle.history.specs.Named.{refusal_number}
use Rattle.history.specs.Event.{is_undo}

-- What an event makes of the lock's state: its refusal, 0 for accepted; the processor whose row an 03 line shows; the state.
pub record Move : Type 0 where
  pub refusal : ℕ
  pub processor : ℕ
  pub lock : LockState

-- refused by that number: the byte that was given, and the same state
abbrev pub stays : ℕ → ℕ → LockState → Move
stays number p s = record { refusal = number; processor = p; lock = s }

-- what the code's answer says, to an event with the byte p
abbrev pub told : ℕ → Result (Moved LockState) (Refused LockState) → Move
told p (Ok m) = record { refusal = 0; processor = m.processor; lock = m.state }
told p (Err r) = stays (refusal_number r.refusal) p r.state

-- an undo: 9, then 14, then the way back over the newest entry
unfoldable pub moved_back : LockState → ℕ → Entry → ℕ → Move
moved_back s depth e p =
    cond (not (p == 0)) (stays 9 p s)
    (cond (depth == 0) (stays 14 p s) (record { refusal = 0; processor = e.processor; lock = restored s e }))

-- the lock's answer to a step or raise, which shows the row of the byte that was given
abbrev pub moved_on : ℕ → Answer → Move
moved_on p a = record { refusal = a.refusal; processor = p; lock = a.state }

-- an event on a state that is known to be sound, with a journal that is known to bring back sound states
unfoldable pub moved : LockState → ℕ → Entry → ℕ → ℕ → Move
moved s depth e event p = cond (is_undo event) (moved_back s depth e p) (moved_on p (carried s event p))

-- what stands at `top` afterwards: an undo leaves it
unfoldable pub slot_then : ℕ → Entry → Entry → Entry
slot_then event there made = cond (is_undo event) there made

-- where the next entry goes, and how many can be undone: one back and one less after an undo, else one on and one more
unfoldable pub top_then : ℕ → ℕ → ℕ
top_then event top = cond (is_undo event) (previous top) (next top)

unfoldable pub depth_then : ℕ → ℕ → ℕ
depth_then event depth = cond (is_undo event) (shallower depth) (deeper depth)

-- the journal after an accepted event, for which `made` was made
abbrev pub journal_then : ℕ → Journal → Entry → Journal
journal_then event j made =
    record {
      entries = slice_set j.entries j.top (slot_then event (slice_index_or j.entries j.top empty_entry) made);
      top = top_then event j.top;
      depth = depth_then event j.depth;
    }
