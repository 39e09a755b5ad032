-- Document 01, "The step table", and requests [1] and [2]: the act of each place, under its name and with its sentence. s is the
-- state, p the processor that steps; "own" is p's row. Which act a step does is said in Table.
use Rattle.std.specs.Prelude.{ℕ, Bool, true, false, ◌&&◌, cond, eqb}
use Rattle.lock.specs.declared.LockState.{LockState}
use Rattle.lock.specs.State.{none, is_none, is_plain, is_drawn, is_guarded, is_old, Released, Locked, Preempted, RP, row, put_tail, put_next, put_locked, put_guard, put_flag, to, put_pred, put_succ, put_nx}

-- "to 1 (guarded) or 2": the way to the queue
unfoldable pub to_queue : LockState → ℕ → LockState
to_queue s p = to s p (cond (is_guarded s.edition) 1 2)

-- "succ := own next, to 17"
unfoldable pub to_hand : LockState → ℕ → LockState
to_hand s p = to (put_succ s p (row s p).next) p 17

-- the choice of place 22: "nx none: to 0; otherwise succ := nx, to 17"
unfoldable pub onward : LockState → ℕ → LockState
onward s p = cond (is_none (row s p).nx) (to s p 0) (to (put_succ s p (row s p).nx) p 17)

-- "to 22"; "The drawn edition has no place 22: ... the choice of place 22 is made in the same step, without the guard"
unfoldable pub to_lift : LockState → ℕ → LockState
to_lift s p = cond (is_drawn s.edition) (onward s p) (to s p 22)

-- 0 rest: "flag set: clear it, stay. Otherwise to 1 (guarded) or 2"; [1] "flag handling as before, then to 23"
unfoldable pub rest : LockState → ℕ → LockState
rest s p = cond (row s p).flag (put_flag s p false) (cond (is_old s.edition) (to s p 23) (to_queue s p))

-- 1 gate: "own guard set: stay. Otherwise to 2"
unfoldable pub gate : LockState → ℕ → LockState
gate s p = cond (row s p).guard s (to s p 2)

-- 2 clear: "own next := none; to 3"
unfoldable pub clear : LockState → ℕ → LockState
clear s p = to (put_next s p none) p 3

-- 3 swap (the join): "pred := L, L := self; old L none: to 9, otherwise to 4"
unfoldable pub swap : LockState → ℕ → LockState
swap s p = to (put_tail (put_pred s p s.tail) p) p (cond (is_none s.tail) 9 4)

-- 4 arm: "own locked := 1; to 5"
unfoldable pub arm : LockState → ℕ → LockState
arm s p = to (put_locked s p Locked) p 5

-- 5 link: "pred's next := self; to 7 (plain) or 6"
unfoldable pub link : LockState → ℕ → LockState
link s p = to (put_next s (row s p).pred p) p (cond (is_plain s.edition) 7 6)

-- 6 claim: "pred's locked 3: make it 0, to 8. Otherwise to 7"
unfoldable pub claim : LockState → ℕ → LockState
claim s p =
    cond (eqb (row s (row s p).pred).locked RP) (to (put_locked s (row s p).pred Released) p 8) (to s p 7)

-- 7 spin: "own locked 0: to 9. Otherwise stay (plain) or to 10"
unfoldable pub spin : LockState → ℕ → LockState
spin s p = cond (eqb (row s p).locked Released) (to s p 9) (cond (is_plain s.edition) s (to s p 10))

-- 8 settle: "own locked := 0; to 9"
unfoldable pub settle : LockState → ℕ → LockState
settle s p = to (put_locked s p Released) p 9

-- 9 inside: "to 14"; [1] "9 goes to 26"
unfoldable pub inside : LockState → ℕ → LockState
inside s p = to s p (cond (is_old s.edition) 26 14)

-- 10 poll: "flag set and own locked 1: locked := 2, flag clear, to 11. Otherwise to 7"
unfoldable pub poll : LockState → ℕ → LockState
poll s p =
    cond ((row s p).flag && eqb (row s p).locked Locked) (to (put_flag (put_locked s p Preempted) p false) p 11) (to s p 7)

-- 11 service: "to 12"
unfoldable pub service : LockState → ℕ → LockState
service s p = to s p 12

-- 12 back: "own locked 2: make it 1, to 7. Otherwise to 13"
unfoldable pub back : LockState → ℕ → LockState
back s p = cond (eqb (row s p).locked Preempted) (to (put_locked s p Locked) p 7) (to s p 13)

-- 13 regain: "own locked 3: make it 0, to 7. Otherwise to 1 (guarded) or 2"
unfoldable pub regain : LockState → ℕ → LockState
regain s p = cond (eqb (row s p).locked RP) (to (put_locked s p Released) p 7) (to_queue s p)

-- 14 look: "own next none: to 15. Otherwise succ := own next, to 17"
unfoldable pub look : LockState → ℕ → LockState
look s p = cond (is_none (row s p).next) (to s p 15) (to_hand s p)

-- 15 close: "L is self: L := none, to 0. Otherwise to 16"
unfoldable pub close : LockState → ℕ → LockState
close s p = cond (eqb s.tail p) (to (put_tail s none) p 0) (to s p 16)

-- 16 await: "own next none: stay. Otherwise succ := own next, to 17"
unfoldable pub await : LockState → ℕ → LockState
await s p = cond (is_none (row s p).next) s (to_hand s p)

-- 17 hand: "plain: succ's locked := 0, to 0. Others: succ's locked 1: make it 0, to 0; otherwise to 19 (drawn) or 18"
unfoldable pub hand : LockState → ℕ → LockState
hand s p =
    let handed = to (put_locked s (row s p).succ Released) p 0 in
    cond (is_plain s.edition) handed
    (cond (eqb (row s (row s p).succ).locked Locked) handed (to s p (cond (is_drawn s.edition) 19 18)))

-- 18 fence: "succ's guard set; to 19"
unfoldable pub fence : LockState → ℕ → LockState
fence s p = to (put_guard s (row s p).succ true) p 19

-- 19 park: "succ's locked 2: make it 3, to 20. Otherwise nx := succ, to 22"
unfoldable pub park : LockState → ℕ → LockState
park s p =
    cond (eqb (row s (row s p).succ).locked Preempted) (to (put_locked s (row s p).succ RP) p 20)
    (to_lift (put_nx s p (row s p).succ) p)

-- 20 peek: "nx := succ's next; none: to 22, otherwise to 21"
unfoldable pub peek : LockState → ℕ → LockState
peek s p =
    let peeked = (row s (row s p).succ).next in
    cond (is_none peeked) (to_lift (put_nx s p peeked) p) (to (put_nx s p peeked) p 21)

-- 21 take: "succ's locked 3: make it 0, to 22. Otherwise nx := none, to 22"; [2] "for the drawn edition only: a successful take
-- goes to a new place 27"
unfoldable pub take : LockState → ℕ → LockState
take s p =
    cond (eqb (row s (row s p).succ).locked RP)
    (to (put_locked s (row s p).succ Released) p (cond (is_drawn s.edition) 27 22)) (to_lift (put_nx s p none) p)

-- 22 lift: "succ's guard clear; nx none: to 0; otherwise succ := nx, to 17"
unfoldable pub lift : LockState → ℕ → LockState
lift s p = onward (put_guard s (row s p).succ false) p

-- ---- the old boards' lock, edition 3

-- "L none": nobody has the lock
unfoldable pub unheld : LockState → Bool
unheld s = is_none s.tail

-- 23 try: "L none becomes self, to 9; otherwise to 24"
unfoldable pub old_try : LockState → ℕ → LockState
old_try s p = cond (unheld s) (to (put_tail s p) p 9) (to s p 24)

-- 24 poll: "flag set, clear it, to 25; otherwise to 23"
unfoldable pub old_poll : LockState → ℕ → LockState
old_poll s p = cond (row s p).flag (to (put_flag s p false) p 25) (to s p 23)

-- 25 service: "to 23"
unfoldable pub old_service : LockState → ℕ → LockState
old_service s p = to s p 23

-- 26 free: "L := none, to 0"
unfoldable pub old_free : LockState → ℕ → LockState
old_free s p = to (put_tail s none) p 0

-- ---- the second read of the drawn edition

-- 27 reread: "reads succ's next again into nx. None: to place 28, lost ... Otherwise succ := nx, to 17"
unfoldable pub reread : LockState → ℕ → LockState
reread s p =
    let again = (row s (row s p).succ).next in
    cond (is_none again) (to (put_nx s p again) p 28) (to (put_succ (put_nx s p again) p again) p 17)

-- 28 lost: "every step is accepted and changes nothing"
unfoldable pub lost : LockState → ℕ → LockState
lost s p = s
