-- The steps that move no ghost: they write only the processor's own row, and what the invariant says of it stays what
-- it was or follows from the test that the step made.
use Prim.Native.Nat.{ℕ, suc, ◌<◌}
use mathlib.Core.Path.{◌≡◌, refl, sym, subst}
use mathlib.Core.Bool.{Bool, true, false, ◌&&◌, ◌||◌}
use mathlib.Core.Logic.{◌≢◌}
use lib.Dec.{eqb}
use lib.ListN.{length}
use borrow.Author.Tests.{eqb-true}
use Rattle.lock.specs.declared.Row.{Row}
use Rattle.lock.specs.declared.LockState.{LockState}
use Rattle.choice.proofs.Tests.{clash, and_right, left_of, by_test, by_either}
use Rattle.lock.specs.State.{none, is_none, is_plain, is_drawn, is_guarded, is_old, Released, Locked, Preempted, RP, row, put_locked, to, put_nx}
use Rattle.lock.specs.Table.{Place, place_at, rest, gate, clear, arm, spin, settle, inside, poll, service, back, regain}
use Rattle.lock.proofs.Ground.Facts.{Role, facts, facts_at, back_role}
use Rattle.lock.proofs.Order.Tickets.{Tickets, is_ordered}
use Rattle.lock.proofs.Ground.Writes.{own_start, own_flag, own_locked, own_next, own_nx, own_to}
use Rattle.lock.proofs.Order.Statement.{Ghost, Away, Lag, Duty, Fencing, Fit, Holds}
use Rattle.lock.proofs.Order.Build.{quiet, free_fit, relock}
use Rattle.lock.specs.Acts as Acts

-- of the ordered editions, the one without a gate is the plain one, and none is the drawn one
ordered_plain : (e : ℕ) → is_ordered e ≡ true → is_guarded e ≡ false → e ≡ 0
ordered_plain e o h = eqb-true e 0 (left_of (is_plain e) (is_guarded e) o h)

pub ordered_drawn : (e : ℕ) → is_ordered e ≡ true → is_drawn e ≡ false
ordered_drawn e o = not_drawn (is_drawn e) refl
  where
    not_drawn : (b : Bool) → is_drawn e ≡ b → is_drawn e ≡ false
    not_drawn true h = clash (rw (eqb-true e 1 h) at o) refl
    not_drawn false h = h

-- in the plain edition no guard is set
clear_guard : {e : ℕ} {A : Type 0} (b : Bool) → (b ≡ true → (e ≢ 0) × A) → e ≡ 0 → b ≡ false
clear_guard true m e = absurd ((m refl).0 e)
clear_guard false m e = refl

module _ (s : LockState) (g : Tickets) (p : ℕ) (v : Holds s g) (room : p < length s.rows) where
  abbrev pub R : Row
  R = row s p

  abbrev pub G : Ghost
  G = v.ghost

  -- what is said of the own row, once the place is known
  pub mine :
      {a : Place} → place_at R.place ≡ a
      → Fit s.edition g G p (facts a) R.locked R.next R.pred R.succ R.nx R.guard
  mine e =
      subst (λ (k : Place). Fit s.edition g G p (facts k) R.locked R.next R.pred R.succ R.nx R.guard) e
      (v.fits p)

  -- a step to another place, own cells as they are
  pub go :
      (k : ℕ) → Fit s.edition g G p (facts_at k) R.locked R.next R.pred R.succ R.nx R.guard
      → Holds (to s p k) g
  go k f = quiet v (own_to (own_start s p room) _) f

  -- the same with a new locked
  go_locked :
      (l k : ℕ) → Fit s.edition g G p (facts_at k) l R.next R.pred R.succ R.nx R.guard
      → Holds (to (put_locked s p l) p k) g
  go_locked l k f = quiet v (own_to (own_locked (own_start s p room) _) _) f

  -- at 2 with the guard clear
  open_fit :
      R.guard ≡ false → eqb R.locked Released ≡ true → Away g G p → ((x : ℕ) → G.fencer x ≢ suc p)
      → Fit s.edition g G p (facts clear) R.locked R.next R.pred R.succ R.nx R.guard
  open_fit unset free away idle =
      record {
        small = (v.fits p).small;
        settles = free;
        duty = away;
        joins = tt;
        blank = tt;
        fencing = idle;
        peeking = (tt, tt);
        shut = λ k. clash k unset;
        fenced = (v.fits p).fenced;
        manned = (v.fits p).manned;
      }

  -- to the queue: out of it, and the gate is there or the guard is clear
  queue_next : eqb R.locked Released ≡ true → Away g G p → ((x : ℕ) → G.fencer x ≢ suc p) → Holds (Acts.to_queue s p) g
  unfolding Acts.to_queue
  queue_next free away idle =
      let f = v.fits p in
      by_test (λ k. Holds (to s p k) g) (is_guarded s.edition)
      (λ h. go _ (free_fit refl f.small free away f.fenced f.manned idle))
      (λ h.
      go _ (open_fit (clear_guard R.guard f.manned (ordered_plain s.edition v.ordered h)) free away idle))

  pub rest_holds : place_at R.place ≡ rest → Holds (Acts.rest s p) g
  unfolding Acts.rest
  rest_holds e =
      by_test (λ t. Holds t g) R.flag
      (λ b. quiet v (own_flag (own_start s p room) _) (v.fits p))
      (λ b.
      by_either (λ t. Holds t g) (is_old s.edition) (go _ (mine e))
      (queue_next (mine e).settles (mine e).duty (mine e).fencing))

  pub gate_holds : place_at R.place ≡ gate → Holds (Acts.gate s p) g
  unfolding Acts.gate
  gate_holds e =
      by_test (λ t. Holds t g) R.guard (λ b. v)
      (λ b. go _ (open_fit b (mine e).settles (mine e).duty (mine e).fencing))

  pub clear_holds : place_at R.place ≡ clear → Holds (Acts.clear s p) g
  unfolding Acts.clear
  clear_holds e =
      let f = mine e in
      quiet v (own_to (own_next (own_start s p room) _) _)
      (record {
        small = f.small;
        settles = f.settles;
        duty = f.duty;
        joins = tt;
        blank = refl;
        fencing = f.fencing;
        peeking = (tt, tt);
        shut = f.shut;
        fenced = λ d. clash (f.shut (f.fenced d).set) refl;
        manned = f.manned;
      })

  pub arm_holds : place_at R.place ≡ arm → Holds (Acts.arm s p) g
  unfolding Acts.arm
  arm_holds e =
      let f = mine e in
      go_locked _ _
      (record {
        small = refl;
        settles = refl;
        duty = f.duty;
        joins = f.joins;
        blank = tt;
        fencing = f.fencing;
        peeking = (tt, tt);
        shut = f.shut;
        fenced = λ d. clash (f.shut (f.fenced d).set) refl;
        manned = f.manned;
      })

  pub spin_holds : place_at R.place ≡ spin → Holds (Acts.spin s p) g
  unfolding Acts.spin
  spin_holds e =
      let f = mine e in
      by_test (λ t. Holds t g) (eqb R.locked Released)
      (λ b. go _ (free_fit refl f.small b (rw b at f.duty) f.fenced f.manned f.fencing))
      (λ b. by_test (λ t. Holds t g) (is_plain s.edition) (λ c. v) (λ c. go _ f))

  pub settle_holds : place_at R.place ≡ settle → Holds (Acts.settle s p) g
  unfolding Acts.settle
  settle_holds e =
      let f = mine e in
      go_locked _ _ (free_fit refl refl refl f.duty (λ d. relock (λ k. refl) (f.fenced d)) f.manned f.fencing)

  pub inside_holds : place_at R.place ≡ inside → Holds (Acts.inside s p) g
  unfolding Acts.inside
  inside_holds e = by_either (λ k. Holds (to s p k) g) (is_old s.edition) (go _ (mine e)) (go _ (mine e))

  -- the own row with its locked known
  locked_as :
      {a : Place} {l : ℕ} → place_at R.place ≡ a → eqb R.locked l ≡ true
      → Fit s.edition g G p (facts a) l R.next R.pred R.succ R.nx R.guard
  locked_as {a} {l} e h =
      subst (λ (z : ℕ). Fit s.edition g G p (facts a) z R.next R.pred R.succ R.nx R.guard)
      (eqb-true R.locked l h) (mine e)

  pub poll_holds : place_at R.place ≡ poll → Holds (Acts.poll s p) g
  unfolding Acts.poll
  poll_holds e =
      by_test (λ t. Holds t g) (R.flag && eqb R.locked Locked)
      (λ b.
      let f = locked_as {l = Locked} e (and_right R.flag (eqb R.locked Locked) b) in
      quiet v (own_to (own_flag (own_locked (own_start s p room) _) _) _)
      (free_fit refl refl refl f.duty (λ d. relock (λ k. clash k refl) (f.fenced d)) f.manned f.fencing))
      (λ b. go _ (mine e))

  pub service_holds : place_at R.place ≡ service → Holds (Acts.service s p) g
  unfolding Acts.service
  service_holds e = go _ (mine e)

  pub back_holds : place_at R.place ≡ back → Holds (Acts.back s p) g
  unfolding Acts.back
  back_holds e =
      by_test (λ t. Holds t g) (eqb R.locked Preempted)
      (λ b.
      let f = locked_as {l = Preempted} e b in
      go_locked _ _ (free_fit refl refl refl f.duty (λ d. relock (λ k. clash k refl) (f.fenced d)) f.manned
      f.fencing))
      (λ b.
      let f = mine e in
      let o = eqb R.locked Released in
      let x = eqb R.locked RP in
      let left : o || x ≡ true = left_of (o || x) (eqb R.locked Preempted) f.settles b in
      go 13
      (free_fit refl f.small left
      (subst (λ (z : Role). Duty z g G p R.next R.succ R.succ) (back_role o x left) f.duty) f.fenced
      f.manned f.fencing))

  pub regain_holds : place_at R.place ≡ regain → Holds (Acts.regain s p) g
  unfolding Acts.regain
  regain_holds e =
      by_test (λ t. Holds t g) (eqb R.locked RP)
      (λ b.
      let f = locked_as {l = RP} e b in
      go_locked _ _ (free_fit refl refl refl f.duty (λ d. relock (λ k. refl) (f.fenced d)) f.manned
      f.fencing))
      (λ b.
      let f = mine e in
      let o : eqb R.locked Released ≡ true = left_of (eqb R.locked Released) (eqb R.locked RP) f.settles b in
      queue_next o (rw o at f.duty) f.fencing)

  -- "to 22": an ordered edition is not the drawn one
  pub lift_next : (t : LockState) → t.edition ≡ s.edition → Holds (to t p 22) g → Holds (Acts.to_lift t p) g
  unfolding Acts.to_lift
  lift_next t e h =
      by_test (λ x. Holds x g) (is_drawn t.edition)
      (λ b. clash b (ordered_drawn t.edition (subst (λ (z : ℕ). is_ordered z ≡ true) (sym e) v.ordered))) (λ b. h)

  -- 20 and 21 without success: nx is none, and p lags on
  pub lag_on :
      Lag g G p R.succ → eqb R.locked Released ≡ true → Fencing true G.fencer p R.succ → (x : ℕ) → is_none x ≡ true
      → Holds (Acts.to_lift (put_nx s p x) p) g
  lag_on d free fe x none =
      let o = own_nx (own_start s p room) x in
      lift_next (put_nx s p x) o.edition
      (quiet v (own_to o _)
      (record {
        small = (v.fits p).small;
        settles = free;
        duty = rw none d;
        joins = tt;
        blank = tt;
        fencing = fe;
        peeking = (tt, λ some other. absurd (some (eqb-true x _ none)));
        shut = λ k. refl;
        fenced = (v.fits p).fenced;
        manned = (v.fits p).manned;
      }))
