-- What one event writes (specs/Touched), on any state, sound or not. An act is a chain of writes, each to the processor's own row, to
-- its neighbour's, or to L; whatever the chain, putting the two rows back undoes it.
--     Touched                  such a chain
--     Back, back               what it leaves: the rows with the two put back are the rows before it
--     acts                     the chain of each act, in the order of the places
--     one_event_touches        the claim
--     near_below               in a sound state the neighbour is a processor
use Prim.Native.Nat.{ℕ, ◌≤◌, ◌<◌}
use native.Mathlib.Omega.{arith}
use mathlib.Core.Path.{◌≡◌, refl, sym, ap, subst, ◌∙◌}
use mathlib.Core.Bool.{Bool, true, false, cond, ◌&&◌}
use mathlib.Core.List.{List}
use lib.ListN.{get_or, set}
use lib.Seq.{set-get_or, set-set, set_comm, get_or-set_other}
use lib.Dec.{eqb, leb}
use borrow.Author.Tests.{eqb-true, eqb-false, leb-true, le-leb}
use Rattle.choice.proofs.Tests.{and_left, and_right, and_both, by_test}
use Rattle.lock.specs.declared.Row.{Row}
use Rattle.lock.specs.declared.LockState.{LockState}
use Rattle.lock.specs.State.{is_none, is_plain, is_drawn, is_old, Released, Locked, Preempted, RP, fresh_row, row, put_row, put_tail, put_next, put_locked, put_guard, put_flag, to, put_pred, put_succ, put_nx}
use Rattle.lock.specs.Sound.{places, wants_pred, wants_succ}
use Rattle.lock.specs.Acts as Acts
use Rattle.lock.specs.Table.{Place, place_at, act, stepped}
use Rattle.lock.specs.Event.{raised}
use Rattle.lock.specs.Run.{Call, after}
use Rattle.lock.specs.Kept.{Whole}
use Rattle.lock.specs.Touched.{writes_pred, neighbour_of, put_back, near_in, OneEventTouches}
use Rattle.lock.proofs.Ground.Places.{Each, begin, ◌▹◌, each, place_far, lost_same}
use Rattle.lock.proofs.Ground.Calls.{Kind, idle, raise, step, kind}
use Rattle.lock.proofs.Keeping.Parts.{ready}
use Rattle.lock.proofs.Keeping.Puts.{pred_below, succ_below}

-- made from s by writes to p's row and private cells, to q's next, locked and guard, and to L
pub data Touched (s : LockState) (p q : ℕ) : LockState → Type 0 where
  same : Touched s p q s
  goes : {t : LockState} → Touched s p q t → (k : ℕ) → Touched s p q (to t p k)
  pred : {t : LockState} → Touched s p q t → (v : ℕ) → Touched s p q (put_pred t p v)
  succ : {t : LockState} → Touched s p q t → (v : ℕ) → Touched s p q (put_succ t p v)
  nx : {t : LockState} → Touched s p q t → (v : ℕ) → Touched s p q (put_nx t p v)
  flag : {t : LockState} → Touched s p q t → (v : Bool) → Touched s p q (put_flag t p v)
  next : {t : LockState} → Touched s p q t → (v : ℕ) → Touched s p q (put_next t q v)
  locked : {t : LockState} → Touched s p q t → (v : ℕ) → Touched s p q (put_locked t q v)
  guard : {t : LockState} → Touched s p q t → (v : Bool) → Touched s p q (put_guard t q v)
  tail : {t : LockState} → Touched s p q t → (v : ℕ) → Touched s p q (put_tail t v)

-- ---- what a chain of writes leaves

pub record Back (s : LockState) (p q : ℕ) (t : LockState) : Type 0 where
  pub edition : t.edition ≡ s.edition
  pub n : t.n ≡ s.n
  pub rows : set (set t.rows p (row s p)) q (row s q) ≡ s.rows

-- a write to q's row is lost under the two
overwritten : (l : List Row) (p q : ℕ) (r a b : Row) (same : Bool) → eqb q p ≡ same → set (set (set l q r) p a) q b ≡ set (set l p a) q b
overwritten l p q r a b true e = rw (eqb-true q p e) (rw (set-set l p r a))
overwritten l p q r a b false e = rw (set_comm l q p r a (eqb-false q p e), set-set)

near_back : (s t : LockState) (p q : ℕ) (r : Row) → Back s p q t → Back s p q (put_row t q r)
unfolding put_row
near_back s t p q r b =
    record { edition = b.edition; n = b.n; rows = overwritten t.rows p q r (row s p) (row s q) (eqb q p) refl ∙ b.rows }

own_back : (s t : LockState) (p q : ℕ) (r : Row) → Back s p q t → Back s p q (put_row t p r)
unfolding put_row
own_back s t p q r b = record { edition = b.edition; n = b.n; rows = rw (set-set t.rows p r (row s p)) b.rows }

back : {s : LockState} {p q : ℕ} {t : LockState} → Touched s p q t → Back s p q t
unfolding row put_row put_tail put_next put_locked put_guard put_flag to put_pred put_succ put_nx
back {s} {p} {q} same =
    record {
      edition = refl;
      n = refl;
      rows = rw (set-get_or s.rows p fresh_row) (set-get_or s.rows q fresh_row);
    }
back {s} {p} {q} (goes {t} x k) = own_back s t p q _ (back x)
back {s} {p} {q} (pred {t} x v) = own_back s t p q _ (back x)
back {s} {p} {q} (succ {t} x v) = own_back s t p q _ (back x)
back {s} {p} {q} (nx {t} x v) = own_back s t p q _ (back x)
back {s} {p} {q} (flag {t} x v) = own_back s t p q _ (back x)
back {s} {p} {q} (next {t} x v) = near_back s t p q _ (back x)
back {s} {p} {q} (locked {t} x v) = near_back s t p q _ (back x)
back {s} {p} {q} (guard {t} x v) = near_back s t p q _ (back x)
back (tail x v) = let b = back x in record { edition = b.edition; n = b.n; rows = b.rows }

-- ---- the acts

either : {s x y : LockState} {p q : ℕ} (b : Bool) → Touched s p q x → Touched s p q y → Touched s p q (cond b x y)
either true f g = f
either false f g = g

module _ {s : LockState} {p q : ℕ} where
  queue : {t : LockState} → Touched s p q t → Touched s p q (Acts.to_queue t p)
  unfolding Acts.to_queue
  queue x = goes x _

  hand_on : {t : LockState} → Touched s p q t → Touched s p q (Acts.to_hand t p)
  unfolding Acts.to_hand
  hand_on x = goes (succ x _) _

  onward : {t : LockState} → Touched s p q t → Touched s p q (Acts.onward t p)
  unfolding Acts.onward
  onward {t} x = either (is_none (row t p).nx) (goes x _) (goes (succ x _) _)

  lift_next : {t : LockState} → Touched s p q t → Touched s p q (Acts.to_lift t p)
  unfolding Acts.to_lift
  lift_next {t} x = either (is_drawn t.edition) (onward x) (goes x _)

module _ (s : LockState) (p : ℕ) where
  abbrev own : Row
  own = row s p

  -- the neighbour of one that stands at place m
  abbrev near_at : ℕ → ℕ
  near_at m = cond (writes_pred m) own.pred (cond (wants_succ m) own.succ p)

  acts : Each (λ m. Touched s p (near_at m) (act (place_at m) s p)) places
  unfolding Acts.rest Acts.gate Acts.clear Acts.swap Acts.arm Acts.link Acts.claim Acts.spin Acts.settle Acts.inside Acts.poll
      Acts.service Acts.back Acts.regain Acts.look Acts.close Acts.await Acts.hand Acts.fence Acts.park Acts.peek Acts.take Acts.lift
      Acts.old_try Acts.old_poll Acts.old_service Acts.old_free Acts.reread
  acts =
      begin
      ▹ either own.flag (flag same _) (either (is_old s.edition) (goes same _) (queue same))
      ▹ either own.guard same (goes same _)
      ▹ goes (next same _) _
      ▹ goes (tail (pred same _) _) _
      ▹ goes (locked same _) _
      ▹ goes (next same _) _
      ▹ either (eqb (row s own.pred).locked RP) (goes (locked same _) _) (goes same _)
      ▹ either (eqb own.locked Released) (goes same _) (either (is_plain s.edition) same (goes same _))
      ▹ goes (locked same _) _
      ▹ goes same _
      ▹ either (own.flag && eqb own.locked Locked) (goes (flag (locked same _) _) _) (goes same _)
      ▹ goes same _
      ▹ either (eqb own.locked Preempted) (goes (locked same _) _) (goes same _)
      ▹ either (eqb own.locked RP) (goes (locked same _) _) (queue same)
      ▹ either (is_none own.next) (goes same _) (hand_on same)
      ▹ either (eqb s.tail p) (goes (tail same _) _) (goes same _)
      ▹ either (is_none own.next) same (hand_on same)
      ▹ either (is_plain s.edition) (goes (locked same _) _)
      (either (eqb (row s own.succ).locked Locked) (goes (locked same _) _) (goes same _))
      ▹ goes (guard same _) _
      ▹ either (eqb (row s own.succ).locked Preempted) (goes (locked same _) _) (lift_next (nx same _))
      ▹ either (is_none (row s own.succ).next) (lift_next (nx same _)) (goes (nx same _) _)
      ▹ either (eqb (row s own.succ).locked RP) (goes (locked same _) _) (lift_next (nx same _))
      ▹ onward (guard same _)
      ▹ either (Acts.unheld s) (goes (tail same _) _) (goes same _)
      ▹ either own.flag (goes (flag same _) _) (goes same _)
      ▹ goes same _
      ▹ goes (tail same _) _
      ▹ either (is_none (row s own.succ).next) (goes (nx same _) _) (goes (succ (nx same _) _) _)
      ▹ subst (Touched s p _) (lost_same s p) same

  step_touches : Touched s p (neighbour_of own p) (stepped s p)
  unfolding stepped neighbour_of
  step_touches =
      each (λ m. Touched s p (near_at m) (act (place_at m) s p)) acts
      (λ m far. subst (λ (k : Place). Touched s p (near_at m) (act k s p)) (sym (place_far m far)) same) own.place

-- ---- a call

call_touches : (s : LockState) (c : Call) → Touched s c.processor (near_in s c) (after s c)
unfolding raised
call_touches s c = by (kind s c)
  where
    by : Kind s c → Touched s c.processor (near_in s c) (after s c)
    by (idle e still) = subst (Touched s c.processor (near_in s c)) (sym e) same
    by (raise a e still) = subst (Touched s c.processor (near_in s c)) (sym e) (flag same true)
    by (step a e whose) = subst (Touched s c.processor (near_in s c)) (sym e) (step_touches s c.processor)

pub one_event_touches : OneEventTouches
unfolding put_back put_row put_tail row
one_event_touches s c =
    let p = c.processor in
    let q = near_in s c in
    let b = back (call_touches s c) in
    record {
      edition = b.edition;
      n = b.n;
      others = λ i away far.
          sym (get_or-set_other (after s c).rows p i (row s p) fresh_row away)
          ∙ sym (get_or-set_other (set (after s c).rows p (row s p)) q i (row s q) fresh_row far)
          ∙ ap (λ l. get_or l i fresh_row) b.rows;
      back = λ i. record { edition = b.edition i; n = b.n i; tail = s.tail; rows = b.rows i };
    }

-- ---- the neighbour

-- who writes to pred's row has a pred
writes_wants : (k : ℕ) → writes_pred k ≡ true → wants_pred k ≡ true
writes_wants k h =
    let low : 5 ≤ k = leb-true 5 k (and_left (leb 5 k) (leb k 6) h) in
    and_both (leb 4 k) (leb k 6) (le-leb 4 k (omega arith)) (and_right (leb 5 k) (leb k 6) h)

pub near_below : {s : LockState} {p : ℕ} → Whole s → p < s.n → neighbour_of (row s p) p < s.n
unfolding neighbour_of
near_below {s} {p} w below =
    let x = ready w below in
    let k = (row s p).place in
    by_test (λ q. q < s.n) (writes_pred k) (λ h. pred_below x (writes_wants k h))
    (λ h. by_test (λ q. q < s.n) (wants_succ k) (λ j. succ_below x j) (λ j. below))
