-- Document 01, "The state": the limits, a row, the state of one lock, the fresh state, and how one cell of it is replaced.
-- Soundness stands in Sound, the step table in Acts and Table.
use Rattle.std.specs.Prelude.{ℕ, Bool, false, get_or, set, replicate, eqb}
use Rattle.lock.specs.declared.Row.{Row}
use Rattle.lock.specs.declared.LockState.{LockState}

-- "The state of one lock and up to 16 processors"
abbrev pub processors : ℕ
processors = 16

-- "None is written 255 (FF)"
abbrev pub none : ℕ
none = 255

abbrev pub is_none : ℕ → Bool
is_none q = eqb q none

-- "Edition: 0 plain (figure 1, interrupts masked as in figure 3), 1 drawn (figure 5), 2 guarded (figure 5 with the Boolean)";
-- request [1]: 3 old, "the interruptible test-and-set lock of source document 000, figure 4"
abbrev pub plain : ℕ
plain = 0

abbrev pub drawn : ℕ
drawn = 1

abbrev pub guarded : ℕ
guarded = 2

abbrev pub old : ℕ
old = 3

abbrev pub editions : ℕ
editions = 4

abbrev pub is_plain : ℕ → Bool
is_plain e = eqb e plain

abbrev pub is_drawn : ℕ → Bool
is_drawn e = eqb e drawn

abbrev pub is_guarded : ℕ → Bool
is_guarded e = eqb e guarded

abbrev pub is_old : ℕ → Bool
is_old e = eqb e old

-- "locked (0 Released, 1 Locked, 2 Preempted, 3 R_P, released while preempted)"
abbrev pub Released : ℕ
Released = 0

abbrev pub Locked : ℕ
Locked = 1

abbrev pub Preempted : ℕ
Preempted = 2

abbrev pub RP : ℕ
RP = 3

-- "every row next none, locked 0, guard and flag clear, place 0, pred, succ and nx none"
abbrev pub fresh_row : Row
fresh_row =
    record {
      next = none;
      locked = Released;
      guard = false;
      flag = false;
      place = 0;
      pred = none;
      succ = none;
      nx = none;
    }

-- "Fresh: L none, and every row" as above
unfoldable pub fresh_state : ℕ → ℕ → LockState
fresh_state e n = record { edition = e; n = n; tail = none; rows = replicate processors fresh_row }

-- A row with one cell replaced.
abbrev pub with_next : Row → ℕ → Row
with_next r v = record { next = v; locked = r.locked; guard = r.guard; flag = r.flag; place = r.place; pred = r.pred; succ = r.succ; nx = r.nx }

abbrev pub with_locked : Row → ℕ → Row
with_locked r v = record { next = r.next; locked = v; guard = r.guard; flag = r.flag; place = r.place; pred = r.pred; succ = r.succ; nx = r.nx }

abbrev pub with_guard : Row → Bool → Row
with_guard r v = record { next = r.next; locked = r.locked; guard = v; flag = r.flag; place = r.place; pred = r.pred; succ = r.succ; nx = r.nx }

abbrev pub with_flag : Row → Bool → Row
with_flag r v = record { next = r.next; locked = r.locked; guard = r.guard; flag = v; place = r.place; pred = r.pred; succ = r.succ; nx = r.nx }

abbrev pub with_place : Row → ℕ → Row
with_place r v = record { next = r.next; locked = r.locked; guard = r.guard; flag = r.flag; place = v; pred = r.pred; succ = r.succ; nx = r.nx }

abbrev pub with_pred : Row → ℕ → Row
with_pred r v = record { next = r.next; locked = r.locked; guard = r.guard; flag = r.flag; place = r.place; pred = v; succ = r.succ; nx = r.nx }

abbrev pub with_succ : Row → ℕ → Row
with_succ r v = record { next = r.next; locked = r.locked; guard = r.guard; flag = r.flag; place = r.place; pred = r.pred; succ = v; nx = r.nx }

abbrev pub with_nx : Row → ℕ → Row
with_nx r v = record { next = r.next; locked = r.locked; guard = r.guard; flag = r.flag; place = r.place; pred = r.pred; succ = r.succ; nx = v }

-- the row of processor p; a row that is not there is as fresh
unfoldable pub row : LockState → ℕ → Row
row s p = get_or s.rows p fresh_row

-- the row of processor p replaced, all else as it was; a row that is not there is not replaced
unfoldable pub put_row : LockState → ℕ → Row → LockState
put_row s p r = record { edition = s.edition; n = s.n; tail = s.tail; rows = set s.rows p r }

-- L := q
unfoldable pub put_tail : LockState → ℕ → LockState
put_tail s q = record { edition = s.edition; n = s.n; tail = q; rows = s.rows }

-- One cell of processor p's row replaced, all else as it was. Each reads the row anew, so two changes both hold where the two
-- rows are one.
unfoldable pub put_next : LockState → ℕ → ℕ → LockState
put_next s p v = put_row s p (with_next (row s p) v)

unfoldable pub put_locked : LockState → ℕ → ℕ → LockState
put_locked s p v = put_row s p (with_locked (row s p) v)

unfoldable pub put_guard : LockState → ℕ → Bool → LockState
put_guard s p v = put_row s p (with_guard (row s p) v)

unfoldable pub put_flag : LockState → ℕ → Bool → LockState
put_flag s p v = put_row s p (with_flag (row s p) v)

-- "to v": the place
unfoldable pub to : LockState → ℕ → ℕ → LockState
to s p v = put_row s p (with_place (row s p) v)

unfoldable pub put_pred : LockState → ℕ → ℕ → LockState
put_pred s p v = put_row s p (with_pred (row s p) v)

unfoldable pub put_succ : LockState → ℕ → ℕ → LockState
put_succ s p v = put_row s p (with_succ (row s p) v)

unfoldable pub put_nx : LockState → ℕ → ℕ → LockState
put_nx s p v = put_row s p (with_nx (row s p) v)
