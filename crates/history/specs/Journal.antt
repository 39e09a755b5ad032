-- Request [6]: "Keep a journal of the last 256 events, all entries empty at the start". What an entry holds and how it leads back;
-- then the ring.
use Rattle.std.specs.Prelude.{ℕ, ◌+◌, ◌-◌, ◌%◌, Bool, false, cond, ◌&&◌, replicate, nat_le, nat_lt, slice_index_or, slice_set}
use Rattle.lock.specs.declared.Row.{Row}
use Rattle.lock.specs.declared.LockState.{LockState}
use Rattle.lock.specs.State.{row}
use Rattle.lock.specs.Touched.{neighbour_of, put_back}
use Rattle.history.specs.declared.Entry.{Entry}
use Rattle.history.specs.declared.Journal.{Journal}

-- "the last 256 events"
abbrev pub most : ℕ
most = 256

-- ---- an entry

-- "all entries empty": every number 0, guard and flag clear
abbrev pub empty_row : Row
empty_row =
    record { next = 0; locked = 0; guard = false; flag = false; place = 0; pred = 0; succ = 0; nx = 0 }

abbrev pub empty_entry : Entry
empty_entry = record { processor = 0; own = empty_row; neighbour = 0; other = empty_row; tail = 0 }

-- What an event of p can change, as it is before the event: p's row, that of the one neighbour, and L.
unfoldable pub entry_of : LockState → ℕ → Entry
entry_of s p =
    let q = neighbour_of (row s p) p in
    record { processor = p; own = row s p; neighbour = q; other = row s q; tail = s.tail }

-- the way back: the entry's rows and L put back, the neighbour's row last
unfoldable pub restored : LockState → Entry → LockState
restored s e = put_back s e.processor e.own e.neighbour e.other e.tail

-- ---- the ring: the next entry goes to `top`, and `depth` entries before it can be undone

unfoldable pub empty_journal : Journal
empty_journal = record { entries = replicate most empty_entry; top = 0; depth = 0 }

-- "a journal whose own numbers are out of range" is not this
unfoldable pub in_range : Journal → Bool
in_range j = nat_lt j.top most && nat_le j.depth most

abbrev pub next : ℕ → ℕ
next at = (at + 1) % most

abbrev pub previous : ℕ → ℕ
previous at = (at + 255) % most

-- one entry can be undone more, up to all of them; and one less
abbrev pub deeper : ℕ → ℕ
deeper depth = cond (nat_lt depth most) (depth + 1) depth

abbrev pub shallower : ℕ → ℕ
shallower depth = depth - 1

-- one entry more; where the ring is full it takes the place of the oldest, which is gone for good
unfoldable pub pushed : Journal → Entry → Journal
pushed j e = record { entries = slice_set j.entries j.top e; top = next j.top; depth = deeper j.depth }

-- the newest entry
unfoldable pub newest : Journal → Entry
newest j = slice_index_or j.entries (previous j.top) empty_entry

-- without it
unfoldable pub popped : Journal → Journal
popped j = record { entries = j.entries; top = previous j.top; depth = shallower j.depth }
