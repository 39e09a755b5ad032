-- Request [6]: an event on a state with its journal. "8 is now given for events other than 1, 2, 3; 9 also for an undo whose byte
-- isn't 0 ..; 11, first as before, also for a journal whose own numbers are out of range; 14, nothing left to undo, after 9; then 11
-- again, where a handed-in journal would bring back an unsound state." So the order for an undo is 11, 8, 9, 14, 11.
use Rattle.std.specs.Prelude.{ℕ, Bool, cond, not, ◌&&◌, ◌==◌, nat_lt, Result, Ok, Err}
use Rattle.lock.specs.declared.LockState.{LockState}
use Rattle.lock.specs.Event.{Answer, fresh, carried}
use Rattle.lock.specs.Sound.{sound}
use Rattle.history.specs.declared.Entry.{Entry}
use Rattle.history.specs.declared.Journal.{Journal}
use Rattle.history.specs.declared.History.{History}
use Rattle.history.specs.declared.Moved.{Moved}
use Rattle.history.specs.declared.Refused.{Refused}
use Rattle.history.specs.Journal.{empty_journal, entry_of, restored, in_range, pushed, newest, popped}
use Rattle.history.specs.Named.{refusal_number}

-- What making the fresh state or an event answers: the refusal's number, 0 for accepted; the processor whose row an 03 line shows; and
-- the state.
pub record Outcome : Type 0 where
  pub refusal : ℕ
  pub processor : ℕ
  pub state : History

-- accepted: the processor whose row the 03 line shows, and the state with its journal
abbrev pub accepted : ℕ → LockState → Journal → Outcome
accepted p s j = record { refusal = 0; processor = p; state = record { lock = s; journal = j } }

-- refused: the same state back, with the byte that was given
abbrev pub refused : ℕ → ℕ → History → Outcome
refused number p h = record { refusal = number; processor = p; state = h }

-- "a definition gives this paper's number and values for each of its cases": what the code's answer to an event with the byte p says
abbrev pub told : ℕ → Result (Moved History) (Refused History) → Outcome
told p (Ok m) = accepted m.processor m.state.lock m.state.journal
told p (Err r) = refused (refusal_number r.refusal) p r.state

-- and its answer where the fresh state is made, which shows no row
abbrev pub told_begun : Result History (Refused History) → Outcome
told_begun (Ok h) = accepted 0 h.lock h.journal
told_begun (Err r) = refused (refusal_number r.refusal) 0 r.state

-- a lock with nothing to undo
abbrev pub unwritten : LockState → History
unwritten s = record { lock = s; journal = empty_journal }

-- the fresh state with an empty journal; 6 and 7 as before
unfoldable pub begun : ℕ → ℕ → Outcome
begun e n = record { refusal = (fresh e n).refusal; processor = 0; state = unwritten (fresh e n).state }

-- "an undo event, 3"
abbrev pub is_undo : ℕ → Bool
is_undo event = event == 3

-- what the first 11 asks for
unfoldable pub is_whole : History → Bool
is_whole h = sound h.lock && in_range h.journal

-- what the second 11 asks for: the entry's own numbers are processors, and it brings back a sound state
unfoldable pub brings_back : LockState → Entry → Bool
brings_back s e = nat_lt e.processor s.n && nat_lt e.neighbour s.n && sound (restored s e)

-- the way back over the newest entry; no entry is written
unfoldable pub stepped_back : History → ℕ → Entry → Outcome
stepped_back h p e =
    cond (brings_back h.lock e) (accepted e.processor (restored h.lock e) (popped h.journal)) (refused 11 p h)

-- "an undo event, 3, whose processor byte is 0"
unfoldable pub undone : History → ℕ → Outcome
undone h p =
    cond (not (p == 0)) (refused 9 p h)
    (cond (h.journal.depth == 0) (refused 14 p h) (stepped_back h p (newest h.journal)))

-- "Each accepted event but an undo goes into the journal, also one that changes nothing": the lock's answer to a step or raise
unfoldable pub recorded : History → ℕ → Answer → Outcome
recorded h p a =
    cond (a.refusal == 0) (accepted p a.state (pushed h.journal (entry_of h.lock p))) (refused a.refusal p h)

-- an event, by its number, with the processor byte p: 11 first, then an undo, or one of the lock's two
unfoldable pub goes : History → ℕ → ℕ → Outcome
goes h event p =
    cond (not (is_whole h)) (refused 11 p h)
    (cond (is_undo event) (undone h p) (recorded h p (carried h.lock event p)))
