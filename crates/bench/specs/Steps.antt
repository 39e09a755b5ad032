-- The words in which the contracts of the inner functions say what the definitions of Log say.
--     filled, laid, Fills         bytes in a lent buffer
--     later_log, opened_log       the log of the later lines, and of a schedule that is not too long
--     lines_room                  the room that lines need
--     Turns, Opens                what a later line, and line 1, make of the log, by what the code answers to them
use Rattle.std.specs.Prelude.{ℕ, ◌+◌, ◌*◌, ◌/◌, ◌≤◌, ◌≡◌, true, List, ◌++◌, Result, Ok, Err, length, take, drop}
use Rattle.lock.specs.declared.LockState.{LockState}
use Rattle.lock.specs.Kept.{Whole}
use Rattle.frame.specs.declared.Frame.{Frame}
use Rattle.frame.specs.Reading.{reads, rest_of}
use Rattle.frame.specs.Writing.{header_line}
use Rattle.bench.specs.declared.Refusal.{Refusal}
use Rattle.bench.specs.Named.{number}
use Rattle.bench.specs.Log.{refused_at, shown, Turn, stopped, turn_of, log_from, opened}

-- the bytes in a buffer's first bytes, and every byte after them as it was
abbrev pub filled : List ℕ → List ℕ → List ℕ
filled bytes buffer = bytes ++ drop (length bytes) buffer

-- a line in a buffer from the byte `at` on, and every other byte as it was
abbrev pub laid : ℕ → List ℕ → List ℕ → List ℕ
laid at line buffer = take at buffer ++ (line ++ drop (at + length line) buffer)

-- so many bytes are written, and are these
abbrev pub Fills : List ℕ → ℕ → List ℕ → List ℕ → Type 0
Fills bytes size before after = (size ≡ length bytes) × (after ≡ filled bytes before)

-- the log of the later lines, where none was accepted before
abbrev pub later_log : LockState → List ℕ → List ℕ
later_log s text = log_from (length text) s 0 text

-- the log of a schedule that is not too long
abbrev pub opened_log : List ℕ → List ℕ
opened_log text = opened text (reads text true)

-- the room that lines need: 17 bytes for each whole one, and 11 for the refusal of what follows them
abbrev pub lines_room : List ℕ → ℕ
lines_room text = 17 * (length text / 9) + 11

-- a turn that goes on, with the row of the event's processor
abbrev pub shows : LockState → ℕ → ℕ → Turn
shows s event p = record { goes_on = true; written = shown s event p; next = s }

-- The line at the beginning of the text, whichever it is: its event is accepted, and the next state is sound; or it is refused.
abbrev pub Turns : LockState → List ℕ → LockState → Result Frame Refusal → Type 0
Turns s text next (Ok f) = ((line : ℕ) → turn_of s line text ≡ shows next f.first f.second) × Whole next
Turns s text next (Err refusal) = (line : ℕ) → turn_of s line text ≡ stopped s (number refusal) line

-- Line 1: it has its nine bytes, its state is sound, and the log is the line of its numbers and the log from that state on; or
-- the log is its refusal.
abbrev pub Opens : List ℕ → Result LockState Refusal → Type 0
Opens text (Ok s) =
    (9 ≤ length text) × Whole s × (opened_log text ≡ header_line s.edition s.n ++ later_log s (rest_of text))
Opens text (Err refusal) = opened_log text ≡ refused_at (number refusal) 1
