-- What the bench does with a schedule is a run of lock's Run, as far as the schedule goes: each later line asks for a
-- call, the 03 lines are the rows along the run from the fresh state of line 1, and the end tells the number of calls or
-- the first refusal. So what is proved of every run is proved of what every log shows, also of one that ends in a
-- refusal.
--     EveryLogIsARun        every log: line 1, the rows along the run of the calls heard, the count or the refusal
--     AcceptedLogIsARun     so a log with no refusal is line 1, the rows along its run, the number of its calls
--     RowsFollowTheRun      the row after each call shows the state that the run has then
--     EntryMarkIsAnEntry    the mark 4 is given exactly where the call is an entry
use Rattle.std.specs.Prelude.{ℕ, zero, suc, ◌+◌, ◌*◌, ◌≤◌, ◌<◌, ◌≡◌, ◌↔◌, ◌≢◌, Bool, true, false, cond, ◌&&◌, List, [], ◌∷◌, ◌++◌, length, drop, eqb}
use Rattle.lock.specs.declared.LockState.{LockState}
use Rattle.lock.specs.State.{fresh_state, row}
use Rattle.lock.specs.Event.{fresh, happens}
use Rattle.lock.specs.Run.{Call, after, run, enters}
use Rattle.lock.specs.Claims.{AnyEdition}
use Rattle.frame.specs.Reading.{reads, rest_of}
use Rattle.frame.specs.Writing.{header_line}
use Rattle.bench.specs.Log.{longest, refused_at, counted, marks, shown, second, third, log_of}

-- the call that the later line at the beginning of the text asks for
abbrev pub call_of : List ℕ → Call
call_of text = record { event = second (reads text false); processor = third (reads text false) }

-- the 03 lines along a run: after each call, the row of its processor
unfoldable pub rows_of : LockState → List Call → List ℕ
rows_of s [] = []
rows_of s (c ∷ cs) = shown (after s c) c.event c.processor ++ rows_of (after s c) cs

-- every call of a run is accepted
unfoldable pub are_accepted : LockState → List Call → Bool
are_accepted s [] = true
are_accepted s (c ∷ cs) = eqb (happens s c.event c.processor).refusal 0 && are_accepted (after s c) cs

-- edition and N of line 1
abbrev pub edition_of : List ℕ → ℕ
edition_of text = second (reads text true)

abbrev pub processors_of : List ℕ → ℕ
processors_of text = third (reads text true)

-- the state from which a schedule's run begins
abbrev pub first_state : List ℕ → LockState
first_state text = fresh_state (edition_of text) (processors_of text)

-- the refusal of line 1: the reader's, or else that of the fresh state; 0 for none
abbrev pub first_refusal : List ℕ → ℕ
first_refusal text =
    let read = (reads text true).refusal in
    cond (eqb read 0) (fresh (edition_of text) (processors_of text)).refusal read

-- the refusal of the later line at the beginning of the text, in the state s: the reader's, or else the lock's of the
-- call; 0 for none. "After the last line the end is no refusal."
unfoldable pub line_refusal : LockState → List ℕ → ℕ
line_refusal s [] = 0
line_refusal s (b ∷ text) =
    let c = call_of (b ∷ text) in
    let read = (reads (b ∷ text) false).refusal in
    cond (eqb read 0) (happens s c.event c.processor).refusal read

-- The calls that are heard: those of the lines from a later one on, up to the first line that is refused. The fuel
-- bounds the lines, as in the log.
unfoldable pub heard_from : ℕ → LockState → List ℕ → List Call
heard_from zero s text = []
heard_from (suc fuel) s [] = []
heard_from (suc fuel) s (b ∷ text) =
    let c = call_of (b ∷ text) in
    cond (eqb (line_refusal s (b ∷ text)) 0) (c ∷ heard_from fuel (after s c) (rest_of (b ∷ text))) []

-- the calls that are heard of a schedule, the text behind their lines, and the refusal of the line with which that text
-- begins; 0 at its end
abbrev pub heard_of : List ℕ → List Call
heard_of text = heard_from (length text) (first_state text) (rest_of text)

abbrev pub unheard_of : List ℕ → List ℕ
unheard_of text = drop (9 * length (heard_of text)) (rest_of text)

abbrev pub refusal_of : List ℕ → ℕ
refusal_of text = line_refusal (run (first_state text) (heard_of text)) (unheard_of text)

-- "04 .. the number of accepted events, at the end", or "05 .. the refusal and its line": lines 2 on were accepted
abbrev pub ending : ℕ → ℕ → List ℕ
ending refusal accepted = cond (eqb refusal 0) (counted accepted) (refused_at refusal (accepted + 2))

-- request [3]: "the 01 line as the writer gives it", of the numbers read
abbrev pub first_line : List ℕ → List ℕ
first_line text = header_line (edition_of text) (processors_of text)

-- and what follows it: the rows along the run of the calls that are heard, and the end
abbrev pub later_lines : List ℕ → List ℕ
later_lines text = rows_of (first_state text) (heard_of text) ++ ending (refusal_of text) (length (heard_of text))

-- What the log of any text is, by what is refused first, and what the calls are that are heard.
pub record LogIsARun (text : List ℕ) : Type 0 where
  -- "1 first"
  pub too_long : longest < length text → log_of text ≡ refused_at 1 0
  -- "If line 1 is refused, 05 is the whole output."
  pub line_1_refused : length text ≤ longest → first_refusal text ≢ 0 → log_of text ≡ refused_at (first_refusal text) 1
  -- otherwise the 01 line, "the 03 lines, the 04 line. At the first refusal it prints 05 and stops."
  pub line_1_accepted : length text ≤ longest → first_refusal text ≡ 0 →
      log_of text ≡ first_line text ++ later_lines text
  -- then edition and N are in range, so that the claims on runs speak of this one
  pub in_range : first_refusal text ≡ 0 → AnyEdition (edition_of text) (processors_of text)
  -- every call that is heard is accepted, and has its row of 17 bytes
  pub heard_accepted : are_accepted (first_state text) (heard_of text) ≡ true
  pub row_for_each : length (rows_of (first_state text) (heard_of text)) ≡ 17 * length (heard_of text)
  -- and where there is no refusal, all of the text is heard
  pub to_the_end : refusal_of text ≡ 0 → unheard_of text ≡ []

abbrev pub EveryLogIsARun : Type 0
EveryLogIsARun = (text : List ℕ) → LogIsARun text

-- the calls of all lines from a later one on, refused ones too
unfoldable pub calls_from : ℕ → List ℕ → List Call
calls_from zero text = []
calls_from (suc fuel) [] = []
calls_from (suc fuel) (b ∷ text) = call_of (b ∷ text) ∷ calls_from fuel (rest_of (b ∷ text))

-- those of a schedule
abbrev pub calls_of : List ℕ → List Call
calls_of text = calls_from (length text) (rest_of text)

-- every line from a later one on is read without refusal
unfoldable pub are_read : ℕ → List ℕ → Bool
are_read zero text = true
are_read (suc fuel) [] = true
are_read (suc fuel) (b ∷ text) = eqb (reads (b ∷ text) false).refusal 0 && are_read fuel (rest_of (b ∷ text))

-- no refusal anywhere: not for the length, not at line 1, not at a later line
pub record Accepted (text : List ℕ) : Type 0 where
  pub length_is : length text ≤ longest
  pub line_is : (reads text true).refusal ≡ 0
  pub state_is : (fresh (edition_of text) (processors_of text)).refusal ≡ 0
  pub lines_are : are_read (length text) (rest_of text) ≡ true
  pub calls_are : are_accepted (first_state text) (calls_of text) ≡ true

abbrev pub AcceptedLogIsARun : Type 0
AcceptedLogIsARun =
    (text : List ℕ) → Accepted text →
    log_of text
    ≡ first_line text
    ++ (rows_of (first_state text) (calls_of text) ++ counted (length (calls_of text)))

abbrev pub RowsFollowTheRun : Type 0
RowsFollowTheRun =
    (s : LockState) (before : List Call) (c : Call) →
    rows_of s (before ++ (c ∷ [])) ≡ rows_of s before ++ shown (run s (before ++ (c ∷ []))) c.event c.processor

-- of an accepted call: the marks of its processor's row after it
pub record EntryMark (s : LockState) (c : Call) : Type 0 where
  pub sum : marks (after s c) c.event c.processor
      ≡ cond (row (after s c) c.processor).flag 1 0
      + cond (row (after s c) c.processor).guard 2 0
      + cond (enters s c c.processor) 4 0
  pub given : (4 ≤ marks (after s c) c.event c.processor) ↔ (enters s c c.processor ≡ true)

abbrev pub EntryMarkIsAnEntry : Type 0
EntryMarkIsAnEntry =
    (s : LockState) (c : Call) → (happens s c.event c.processor).refusal ≡ 0 → EntryMark s c
