-- What the bench answers for a lent buffer, and what the buffer holds afterwards. Document 01 leaves open a buffer
-- that is too short for the whole log: it is refused by 10, before anything is written, where it is shorter than a
-- room that goes by the schedule's length alone and that no log of such a schedule exceeds.
use Rattle.std.specs.Prelude.{ℕ, ◌+◌, ◌*◌, ◌/◌, ◌≤◌, ◌≡◌, cond, List, ◌++◌, Result, Ok, Err, length, take, drop, ltb}
use Rattle.frame.specs.declared.NoRoom.{NoRoom}
use Rattle.frame.specs.Writing.{no_room}
use Rattle.bench.specs.Log.{longest, log_of}

-- What the bench answers, in numbers: refusal 10 or 0, and how many bytes of the lent buffer the log fills.
pub record Logged : Type 0 where
  pub refusal : ℕ
  pub length : ℕ

-- "a definition gives this paper's number and values for each of its cases": what the code's answer says
abbrev pub told : Result ℕ NoRoom → Logged
told (Ok size) = record { refusal = 0; length = size }
told (Err _) = record { refusal = no_room; length = 0 }

-- 17 bytes for each whole line, and 11 for the refusal of what follows them; 11 for a schedule that is too long
unfoldable pub room_for : ℕ → ℕ
room_for bytes = cond (ltb longest bytes) 11 (17 * (bytes / 9) + 11)

-- the refusal, 10 or 0, and the number of bytes written
unfoldable pub logged : List ℕ → List ℕ → Logged
logged text out =
    cond (ltb (length out) (room_for (length text))) (record { refusal = 10; length = 0 })
    (record { refusal = 0; length = length (log_of text) })

-- refused: every byte as it was; otherwise the log in the first bytes, and every byte after it as it was
unfoldable pub left : List ℕ → List ℕ → List ℕ
left text out =
    cond (ltb (length out) (room_for (length text))) out (log_of text ++ drop (length (log_of text)) out)

-- the answered number counts bytes of the buffer, so a caller may take that part of it without more ado
abbrev pub Counts : ℕ → List ℕ → Type 0
Counts n buffer = (n ≤ length buffer) × (n ≡ length (take n buffer))
