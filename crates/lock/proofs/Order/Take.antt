-- Places 20 to 22, of who has parked the lock on a fenced row: it peeks at that row's next, takes the lock back if it
-- is still parked there and goes on to hand it to the next, and lifts the fence.
use Prim.Native.Nat.{ℕ, suc, ◌<◌}
use mathlib.Core.Path.{◌≡◌, refl, sym, ap, subst, ◌∙◌}
use mathlib.Core.Bool.{Bool, true, false, cond}
use mathlib.Core.Logic.{◌≢◌}
use native.Mathlib.Omega.{arith}
use lib.Dec.{eqb}
use lib.ListN.{length}
use borrow.Author.Tests.{eqb-false, ne_eqb}
use Rattle.lock.specs.declared.Row.{Row}
use Rattle.lock.specs.declared.LockState.{LockState}
use Rattle.choice.proofs.Tests.{clash, by_test}
use Rattle.choice.proofs.Numbers.{by_same}
use Rattle.lock.specs.State.{none, is_none, is_drawn, Released, RP, with_guard, row, put_locked, to, put_succ}
use Rattle.lock.specs.Table.{place_at, peek, take, lift}
use Rattle.lock.proofs.Ground.Facts.{lag, facts, facts_at}
use Rattle.lock.proofs.Order.Tickets.{Tickets}
use Rattle.lock.proofs.Ground.Writes.{own_start, Both, both_start, row_there, both_succ, both_to, near_guard, near_locked, own_nx, own_to}
use Rattle.lock.proofs.Order.Roles.{parked_out, parked_settled, peeked_fences}
use Rattle.lock.proofs.Order.Statement.{Ghost, upd, upd_same, upd_other, upd_back, Linked, Rel, Lag, given_map, Fencing, Fenced, Fit, FitRow, Holds}
use Rattle.lock.proofs.Order.Carry.{passed, refenced, refence_books, pass_fit, fenced_same, manned_same, fencing_map, refence, refence_fit, books_pop}
use Rattle.lock.proofs.Order.Near.{served_first, pop_asks, peeked_next, parked_tok_at}
use Rattle.lock.proofs.Order.Build.{own_holds, both_holds, free_fit, relock}
use Rattle.lock.proofs.Order.Quiet.{ordered_drawn, mine, lag_on}
use Rattle.lock.specs.Acts as Acts

module _ (s : LockState) (g : Tickets) (p : ℕ) (v : Holds s g) (room : p < length s.rows) where
  abbrev R : Row
  R = row s p

  abbrev y : ℕ
  y = R.succ

  abbrev Y : Row
  Y = row s y

  abbrev G : Ghost
  G = v.ghost

  -- whom p fences no other fences
  not_mine : G.fencer y ≡ suc p → (q x : ℕ) → q ≢ p → G.fencer x ≡ suc q → x ≢ y
  not_mine on q x a k o = a (let z : suc q ≡ suc p = sym k ∙ ap G.fencer o ∙ on in omega arith)

  pub peek_holds : place_at R.place ≡ peek → Holds (Acts.peek s p) g
  unfolding Acts.peek
  peek_holds e =
      by_test (λ t. Holds t g) (is_none Y.next) (λ h. lag_on s g p v room d f.settles on Y.next h)
      (λ h.
      own_holds v (refenced G G.fencer G.lagged Z)
      (own_to (own_nx (own_start s p room) Y.next) 21)
      (refence_books G.fencer G.lagged Z v.books)
      (record {
        small = f.small;
        settles = f.settles;
        duty = refence g G G.fencer G.lagged Z lag p R.next y y (λ k. (k.fenced, k.parked)) d;
        joins = tt;
        blank = tt;
        fencing = on;
        peeking = ((upd_same G.peeked y Y.next, eqb-false Y.next none h), tt);
        shut = λ k. refl;
        fenced =
            fenced_same G G.fencer G.lagged Z p R.locked R.next R.guard refl refl
            (upd_other G.peeked y Y.next p (λ k. on.1 (sym k))) f.fenced;
        manned = f.manned;
      })
      (λ q a.
      let r = row s q in
      let fq = v.fits q in
      refence_fit g G G.fencer G.lagged Z (λ k. (k.fenced, k.parked)) (λ w. w)
      (λ k.
      let qs : Fencing true G.fencer q r.succ =
      subst (λ b. Fencing b G.fencer q r.succ) (peeked_fences r.place k) fq.fencing in
      upd_other G.peeked y Y.next r.succ (not_mine on.0 q r.succ a qs.0))
      fq.shut (peeked q) fq.manned fq))
    where
      f : Fit s.edition g G p (facts peek) R.locked R.next R.pred R.succ R.nx R.guard
      f = mine s g p v room e

      d : Lag g G p y
      d = f.duty

      on : Fencing true G.fencer p y
      on = f.fencing

      Z : ℕ → ℕ
      Z = upd G.peeked y Y.next

      -- the peeked row keeps its next from now on
      peeked :
          (q : ℕ) → G.fencer q ≢ 0
          → Fenced (G.lagged q) (Z q) (row s q).locked (row s q).next (row s q).guard
      peeked =
          by_same
          (λ q. G.fencer q ≢ 0 → Fenced (G.lagged q) (Z q) (row s q).locked (row s q).next (row s q).guard) y
          (λ k. let w = (v.fits y).fenced k in record {
            set = w.set;
            still = w.still;
            kept = λ n. sym
                (upd_same G.peeked y Y.next);
          })
          (λ q b.
          fenced_same G G.fencer G.lagged Z q (row s q).locked (row s q).next (row s q).guard refl refl
          (upd_other G.peeked y Y.next q b) (v.fits q).fenced)

  -- the lock is taken back: y goes from the front, p hands on to y's next
  taken : (e : place_at R.place ≡ take) → eqb Y.locked RP ≡ true → Holds (to (put_locked s y Released) p 22) g
  taken e h =
      let f = mine s g p v room e in
      let d = f.duty in
      let on = f.fencing in
      let saw = f.peeking.0 in
      let w = parked_tok_at s g v y h in
      let front = (served_first s g v w.0).0 in
      let serve = (served_first s g v w.0).1 in
      let fy = v.fits y in
      let m = Y.place in
      let st = facts_at m in
      let next : Y.next ≡ R.nx = peeked_next s g v p y R.nx on saw.0 saw.1 in
      let c : Linked g G (suc (g.latest y)) Y.next = w.0.queued.chain (λ n. saw.1 (sym next ∙ n)) in
      let next-is : suc (g.latest y) ≡ suc G.gone = ap suc front in
      let done : G.linked (suc G.gone) ≡ true = sym (ap G.linked next-is) ∙ c.done in
      let below = c.below in
      let some : is_none R.nx ≡ false = ne_eqb R.nx none saw.1 in
      both_holds v (passed G (suc G.gone) G.served G.linked p)
      (both_to (near_locked (both_start s p y (λ z. on.1 (sym z)) room w.2) _) _)
      (books_pop _ _ _ v.books (omega arith) (omega arith) (omega arith))
      (record {
        small = f.small;
        settles = f.settles;
        duty =
            rw some
            (record {
              away = λ a b k. d.away (omega arith) b k;
              handing = serve;
              only = refl;
              front = record { below = omega arith; made = sym next ∙ c.made ∙ ap G.who next-is; done = done };
            });
        joins = tt;
        blank = tt;
        fencing = on;
        peeking = (tt, λ some other. saw.0);
        shut = λ k. refl;
        fenced = f.fenced;
        manned = f.manned;
      })
      (record {
        small = refl;
        settles = parked_settled m w.1;
        duty = rw (parked_out m (is_none Y.nx) w.1) (λ a b k. omega arith);
        joins = given_map st.joining (λ b j i x k. j i x (omega arith)) fy.joins;
        blank = fy.blank;
        fencing = fy.fencing;
        peeking = fy.peeking;
        shut = fy.shut;
        fenced = λ z. relock (λ k. refl) (fy.fenced z);
        manned = fy.manned;
      })
      (λ q a b.
      pass_fit g G (suc G.gone) G.served G.linked p (omega arith) (λ i z. z)
      (pop_asks s g v y Y.next p w.0 (λ q next k z. clash (ap G.linked z ∙ done) k.unlinked) q
      (row s q).next
      (cond (facts_at (row s q).place).lifts (row s q).nx (row s q).succ) b)
      (v.fits q))

  pub take_holds : place_at R.place ≡ take → Holds (Acts.take s p) g
  unfolding Acts.take
  take_holds e =
      let f = mine s g p v room e in
      by_test (λ t. Holds t g) (eqb Y.locked RP)
      (λ h.
      by_test (λ k. Holds (to (put_locked s y Released) p k) g) (is_drawn s.edition)
      (λ b. clash b (ordered_drawn s.edition v.ordered)) (λ b. taken e h))
      (λ h. lag_on s g p v room f.duty f.settles f.fencing none refl)

  -- y's guard is clear again: no other fences it
  lifted :
      {t : LockState} {r : Row} → Fencing true G.fencer p y → Both s t p y r (with_guard Y false)
      → FitRow s.edition g (refenced G (upd G.fencer y 0) G.lagged G.peeked) p r
      → Holds t g
  lifted on o own =
      both_holds v (refenced G F G.lagged G.peeked) o (refence_books F G.lagged G.peeked v.books) own
      (other y on.1 false (λ k. clash k refl) (λ k. absurd (k (upd_same G.fencer y 0))) (λ k. clash k refl))
      (λ q a b.
      other q a (row s q).guard (v.fits q).shut
      (fenced_same G F G.lagged G.peeked q (row s q).locked (row s q).next (row s q).guard
      (upd_other G.fencer y 0 q b) refl refl (v.fits q).fenced)
      (manned_same (upd_other G.fencer y 0 q b) (v.fits q).manned))
    where
      F : ℕ → ℕ
      F = upd G.fencer y 0

      -- whoever is not p, with its guard as it is now
      other :
          (q : ℕ) → q ≢ p → (guard : Bool) → (guard ≡ true → (facts_at (row s q).place).opens ≡ true)
          → (F q ≢ 0 → Fenced (G.lagged q) (G.peeked q) (row s q).locked (row s q).next guard)
          → (guard ≡ true → (s.edition ≢ 0) × (F q ≢ 0))
          → FitRow s.edition g (refenced G F G.lagged G.peeked) q (with_guard (row s q) guard)
      other q a guard sh fd mn =
          let x = (row s q).succ in
          refence_fit g G F G.lagged G.peeked
          (λ k. (upd_other G.fencer y 0 x (not_mine on.0 q x a k.fenced) ∙ k.fenced, k.parked))
          (fencing_map (facts_at (row s q).place).fences G.fencer F q x
          (λ b k. upd_other G.fencer y 0 x (not_mine on.0 q x a k) ∙ k)
          (λ x k. upd_back G.fencer y 0 (suc q) x (λ z. omega arith) k))
          (λ k. refl) sh fd mn (v.fits q)

  -- on from the lift, once the guard of the row that p fences is clear
  lift_on : place_at R.place ≡ lift → (t : LockState) → Both s t p y R (with_guard Y false) → Holds (Acts.onward t p) g
  unfolding Acts.onward
  lift_on e t base =
      subst (λ (r : Row). Holds (cond (is_none r.nx) (to t p 0) (to (put_succ t p r.nx) p 17)) g)
      (sym base.own)
      (by_test (λ t. Holds t g) (is_none R.nx)
      (λ h.
      let d : Lag g G p y = rw h at f.duty in
      lifted on (both_to base _)
      (free_fit refl f.small f.settles d.away own_fenced own_manned idle))
      (λ h.
      let d : Rel g G p R.nx = rw h at f.duty in
      lifted on (both_to (both_succ base _) _)
      (free_fit refl f.small f.settles
      (record {
        away = d.away;
        handing = d.handing;
        only = d.only;
        front = record { below = d.front.below; made = d.front.made; done = d.front.done };
      })
      own_fenced own_manned idle)))
    where
      f : Fit s.edition g G p (facts lift) R.locked R.next R.pred R.succ R.nx R.guard
      f = mine s g p v room e

      on : Fencing true G.fencer p y
      on = f.fencing

      apart : p ≢ y
      apart k = on.1 (sym k)

      own_fenced :
          upd G.fencer y 0 p ≢ 0 → Fenced (G.lagged p) (G.peeked p) R.locked R.next R.guard
      own_fenced =
          fenced_same G (upd G.fencer y 0) G.lagged G.peeked p R.locked R.next R.guard
          (upd_other G.fencer y 0 p apart) refl refl f.fenced

      own_manned : R.guard ≡ true → (s.edition ≢ 0) × (upd G.fencer y 0 p ≢ 0)
      own_manned = manned_same (upd_other G.fencer y 0 p apart) f.manned

      -- p fences nobody any more
      idle : (x : ℕ) → upd G.fencer y 0 x ≢ suc p
      idle =
          by_same (λ x. upd G.fencer y 0 x ≢ suc p) y
          (λ k. let z : 0 ≡ suc p = sym (upd_same G.fencer y 0) ∙ k in omega arith)
          (λ x d k. d (on.2 x (sym (upd_other G.fencer y 0 x d) ∙ k)))

  pub lift_holds : place_at R.place ≡ lift → Holds (Acts.lift s p) g
  unfolding Acts.lift
  lift_holds e =
      let on = (mine s g p v room e).fencing in
      lift_on e _ (near_guard (both_start s p _ (λ k. on.1 (sym k)) room (near on)) _)
    where
      -- a fenced row has its guard set, so it is there
      near : Fencing true G.fencer p y → y < length s.rows
      near on =
          row_there s y
          (λ k.
          clash (sym (ap (λ (r : Row). r.guard) k) ∙
          ((v.fits y).fenced (λ n. let z : suc p ≡ 0 = sym on.0 ∙ n in omega arith)).set) refl)
