-- Document 01, "Frames" and "What is turned away": the whole log of a schedule, byte for byte. One function says what
-- a line makes, and a recursion goes from line to line. The lines' forms are those of frame, the states those of
-- lock.
use Rattle.std.specs.Prelude.{ℕ, zero, suc, ◌+◌, ◌/◌, ◌%◌, Bool, true, false, cond, ◌&&◌, List, [], ◌∷◌, ◌++◌, length, get_or, eqb, ltb}
use Rattle.lock.specs.declared.Row.{Row}
use Rattle.lock.specs.declared.LockState.{LockState}
use Rattle.lock.specs.Event.{Answer}
use Rattle.lock.specs.State.{row}
use Rattle.lock.specs.Event.{fresh, happens, is_step}
use Rattle.frame.specs.Reading.{Told, reads, rest_of}
use Rattle.frame.specs.Writing.{header_line, row_line, count_line, refusal_line}

-- "A schedule is at most 54,009 bytes (6,001 lines)"
abbrev pub longest : ℕ
longest = 54009

-- "high low": a number in two bytes
abbrev pub high : ℕ → ℕ
high k = k / 256 % 256

abbrev pub low : ℕ → ℕ
low k = k % 256

-- "05 refusal high low check: the refusal and its line, first line 1; line 0 for refusal 1"
abbrev pub refused_at : ℕ → ℕ → List ℕ
refused_at refusal line = refusal_line refusal (high line) (low line)

-- "04 high low check: the number of accepted events, at the end"
abbrev pub counted : ℕ → List ℕ
counted accepted = count_line (high accepted) (low accepted)

-- "Marks: 1 flag, 2 guard, 4 this event was an entry, added." "An entry is a step that ends at 9." The row is the one
-- after the event.
unfoldable pub marks_of : Row → ℕ → ℕ
marks_of r event = cond r.flag 1 0 + cond r.guard 2 0 + cond (is_step event && eqb r.place 9) 4 0

unfoldable pub marks : LockState → ℕ → ℕ → ℕ
marks s event p = marks_of (row s p) event

-- "03 processor place L locked next marks check"
unfoldable pub row_shown : ℕ → ℕ → Row → ℕ → List ℕ
row_shown p tail r event = row_line p r.place tail r.locked r.next (marks_of r event)

-- "written after each accepted event, with that processor's own row as it then is"
unfoldable pub shown : LockState → ℕ → ℕ → List ℕ
shown s event p = row_shown p s.tail (row s p) event

-- What one later line makes: whether the schedule goes on after it, what is written, and the next state.
pub record Turn : Type 0 where
  pub goes_on : Bool
  pub written : List ℕ
  pub next : LockState

abbrev pub stopped : LockState → ℕ → ℕ → Turn
stopped s refusal line = record { goes_on = false; written = refused_at refusal line; next = s }

-- the second and third number of a frame: edition and N of line 1, event and processor of a later line
abbrev pub second : Told → ℕ
second t = get_or t.numbers 1 0

abbrev pub third : Told → ℕ
third t = get_or t.numbers 2 0

-- an event as the lock answers it: the row shown, or the refusal
unfoldable pub answered : LockState → ℕ → ℕ → ℕ → Answer → Turn
answered s line event p a =
    cond (eqb a.refusal 0) (record { goes_on = true; written = shown a.state event p; next = a.state })
    (stopped s a.refusal line)

-- a later line as the reader reads it: the event, or the refusal
unfoldable pub followed : LockState → ℕ → Told → Turn
followed s line t =
    cond (eqb t.refusal 0) (answered s line (second t) (third t) (happens s (second t) (third t)))
    (stopped s t.refusal line)

-- the turn of the line that begins the text
unfoldable pub turn_of : LockState → ℕ → List ℕ → Turn
turn_of s line text = followed s line (reads text false)

-- The log from a later line on, where so many events were accepted before: their lines are 2 to accepted + 1. "After
-- the last line the end is no refusal." The fuel bounds the lines; the length of the text is enough.
unfoldable pub log_from : ℕ → LockState → ℕ → List ℕ → List ℕ
log_from zero s accepted text = counted accepted
log_from (suc fuel) s accepted [] = counted accepted
log_from (suc fuel) s accepted (b ∷ text) =
    (turn_of s (accepted + 2) (b ∷ text)).written
    ++ cond (turn_of s (accepted + 2) (b ∷ text)).goes_on
    (log_from fuel (turn_of s (accepted + 2) (b ∷ text)).next (suc accepted) (rest_of (b ∷ text)))
    []

-- line 1 as the lock answers its numbers: request [3]'s "the 01 line as the writer gives it", then the later lines; "If
-- line 1 is refused, 05 is the whole output"
unfoldable pub begun : List ℕ → ℕ → ℕ → List ℕ
begun text edition n =
    let a = fresh edition n in
    cond (eqb a.refusal 0) (header_line edition n ++ log_from (length text) a.state 0 (rest_of text))
    (refused_at a.refusal 1)

unfoldable pub opened : List ℕ → Told → List ℕ
opened text t = cond (eqb t.refusal 0) (begun text (second t) (third t)) (refused_at t.refusal 1)

-- "1 first": the log of a schedule
unfoldable pub log_of : List ℕ → List ℕ
log_of text = cond (ltb longest (length text)) (refused_at 1 0) (opened text (reads text true))
