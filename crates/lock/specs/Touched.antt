-- What one event writes: the row of its processor, that of one neighbour, and L. "All that isn't named stays." So whoever keeps these
-- three as they were before an event can take the event back.
--     neighbour_of        the one row beside its own that a step at a place may write
--     put_back            two rows and L put back
--     OneEventTouches     no other row is written; and the two rows and L, put back, give the state before the event
use Rattle.std.specs.Prelude.{ℕ, ◌≡◌, ◌≢◌, Bool, ◌&&◌, cond, leb}
use Rattle.lock.specs.declared.Row.{Row}
use Rattle.lock.specs.declared.LockState.{LockState}
use Rattle.lock.specs.State.{row, put_row, put_tail}
use Rattle.lock.specs.Sound.{wants_succ}
use Rattle.lock.specs.Run.{Call, after}

-- 5 link and 6 claim write to pred's row
abbrev pub writes_pred : ℕ → Bool
writes_pred k = leb 5 k && leb k 6

-- 17 hand to 22 lift write to succ's row, and 27 reads it: the places that want a succ. Every other place has its own row alone.
unfoldable pub neighbour_of : Row → ℕ → ℕ
neighbour_of r p = cond (writes_pred r.place) r.pred (cond (wants_succ r.place) r.succ p)

-- the rows of p and then of q put back, and L
unfoldable pub put_back : LockState → ℕ → Row → ℕ → Row → ℕ → LockState
put_back s p own q other tail = put_tail (put_row (put_row s p own) q other) tail

-- the row beside its own that a call may write, in the state before it
abbrev pub near_in : LockState → Call → ℕ
near_in s c = neighbour_of (row s c.processor) c.processor

-- of a call, accepted or refused, on any state, sound or not
pub record Touches (s : LockState) (c : Call) : Type 0 where
  pub edition : (after s c).edition ≡ s.edition
  pub n : (after s c).n ≡ s.n
  pub others : (q : ℕ) → q ≢ c.processor → q ≢ near_in s c → row (after s c) q ≡ row s q
  pub back :
      put_back (after s c) c.processor (row s c.processor) (near_in s c) (row s (near_in s c)) s.tail ≡ s

abbrev pub OneEventTouches : Type 0
OneEventTouches = (s : LockState) (c : Call) → Touches s c
