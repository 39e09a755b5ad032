-- Places 17 and 19: the lock is handed to the heir, or parked on it. Both serve the heir: it has the lock from then on.
use Prim.Native.Nat.{ℕ, suc, ◌<◌}
use mathlib.Core.Path.{◌≡◌, refl, sym, subst, ◌∙◌}
use mathlib.Core.Bool.{true, false, cond}
use mathlib.Core.Logic.{◌≢◌}
use native.Mathlib.Omega.{arith}
use lib.Dec.{eqb}
use lib.ListN.{length}
use borrow.Author.Tests.{eqb-true, ne_eqb}
use Rattle.lock.specs.declared.Row.{Row}
use Rattle.lock.specs.declared.LockState.{LockState}
use Rattle.choice.proofs.Tests.{clash, by_test}
use Rattle.choice.proofs.Numbers.{by_same}
use Rattle.lock.specs.State.{processors, none, is_none, is_plain, is_drawn, Released, Locked, Preempted, RP, row, put_locked, put_nx, to}
use Rattle.lock.specs.Sound.{has_place, sound}
use Rattle.lock.specs.Table.{place_at, hand, park}
use Rattle.lock.proofs.Ground.Facts.{wait, tok, facts_at, facts, settled}
use Rattle.lock.proofs.Order.Tickets.{Tickets}
use Rattle.lock.proofs.Keeping.Parts.{row_has}
use Rattle.lock.proofs.Ground.Writes.{own_start, both_start, both_to, near_locked, own_nx, own_to}
use Rattle.lock.proofs.Order.Roles.{role, preempted_tok, preempted_settled, wait_tok, plain_wait}
use Rattle.lock.proofs.Order.Statement.{Ghost, upd, upd_same, upd_other, Books, Tok, Rel, Fencing, Fit, Holds}
use Rattle.lock.proofs.Order.Carry.{passed, refenced, refence_books, queued_map, Asks, pass_fit, fenced_same, refence, refence_fit}
use Rattle.lock.proofs.Order.Near.{same_join, there_some, heir_waits}
use Rattle.lock.proofs.Order.Build.{both_holds, quiet, free_fit, relock}
use Rattle.lock.proofs.Order.Quiet.{ordered_drawn, mine, go, lift_next}
use Rattle.lock.specs.Acts as Acts

module _ (s : LockState) (g : Tickets) (p : ℕ) (v : Holds s g) (room : p < length s.rows) where
  abbrev R : Row
  R = row s p

  abbrev y : ℕ
  y = R.succ

  abbrev Y : Row
  Y = row s y

  abbrev G : Ghost
  G = v.ghost

  -- the ghost with the heir served
  abbrev H : Ghost
  H = passed G G.gone (suc G.gone) G.linked G.releaser

  serve_asks :
      Rel g G p y → (q next heir : ℕ) → q ≢ p → q ≢ y
      → Asks g G G.gone (suc G.gone) G.linked G.releaser q next heir
  serve_asks d q next heir a b =
      let z = heir_waits s g v p y d in
      let h = d.handing in
      record {
        raws = λ k. let o = k.later in (k.unlinked, o, omega arith);
        waits =
            λ k.
            let low = k.queued.low in
            let ne : g.latest q ≢ G.gone = λ e. b (same_join k.queued z.queued (e ∙ sym z.at)) in
            (low, omega arith);
        toks = λ k. let o = k.first in (k.queued.low, omega arith);
        rels = λ k. absurd (a (k.only ∙ sym d.only));
      }

  serve_books : Rel g G p y → Books g H s.tail
  serve_books d =
      record {
        low = v.books.low;
        least = omega arith;
        most = omega arith;
        known = v.books.known;
        past = v.books.past;
        empty = v.books.empty;
        last = v.books.last;
      }

  -- the heir has the lock
  serve_heir : Rel g G p y → Tok g H y Y.next
  serve_heir d =
      let z = heir_waits s g v p y d in
      let at = z.at in
      record {
        queued = queued_map z.queued refl z.queued.low (omega arith) (λ i b. refl) (λ i b e. e);
        first = omega arith;
      }

  handed : place_at R.place ≡ hand → Y.locked ≡ Locked → Holds (to (put_locked s y Released) p 0) g
  handed e h =
      let f = mine s g p v room e in
      let d = f.duty in
      let z = heir_waits s g v p y d in
      let m = Y.place in
      let st = facts_at m in
      let x = is_none Y.nx in
      let fy = v.fits y in
      let w = wait_tok m x (subst (λ (l : ℕ). role m l x ≡ wait) h z.waiting)
      (subst (λ (l : ℕ). settled st l ≡ true) h fy.settles) in
      both_holds v H
      (both_to (near_locked (both_start s p y z.apart room z.near) _) _)
      (serve_books d) (free_fit refl f.small f.settles d.away f.fenced f.manned f.fencing)
      (record {
        small = refl;
        settles = w.1;
        duty = rw w.0 (serve_heir d);
        joins = fy.joins;
        blank = fy.blank;
        fencing = fy.fencing;
        peeking = fy.peeking;
        shut = fy.shut;
        fenced = λ k. relock (λ b. refl) (fy.fenced k);
        manned = fy.manned;
      })
      (λ q a b.
      pass_fit g G G.gone (suc G.gone) G.linked G.releaser (omega arith) (λ i k. k)
      (serve_asks d q (row s q).next
      (cond (facts_at (row s q).place).lifts (row s q).nx (row s q).succ) a b)
      (v.fits q))

  pub hand_holds : sound s ≡ true → place_at R.place ≡ hand → Holds (Acts.hand s p) g
  unfolding Acts.hand
  hand_holds fit e =
      by_test (λ t. Holds t g) (is_plain s.edition) (λ h. handed e (plain h))
      (λ h.
      by_test (λ t. Holds t g) (eqb Y.locked Locked) (λ b. handed e (eqb-true Y.locked Locked b))
      (λ b.
      by_test (λ k. Holds (to s p k) g) (is_drawn s.edition)
      (λ c. clash c (ordered_drawn s.edition v.ordered))
      (λ c. go s g p v room _ (free_fit refl f.small f.settles f.duty f.fenced f.manned f.fencing))))
    where
      f : Fit s.edition g G p (facts hand) R.locked R.next R.pred R.succ R.nx R.guard
      f = mine s g p v room e

      -- in the plain edition who waits is Locked
      plain : is_plain s.edition ≡ true → Y.locked ≡ Locked
      plain h =
          let z = heir_waits s g v p y f.duty in
          let near : y < processors = subst (λ (n : ℕ). y < n) v.rooms z.near in
          plain_wait Y.place Y.locked (is_none Y.nx) (v.fits y).small
          (subst (λ (e : ℕ). has_place e Y.place ≡ true) (eqb-true s.edition 0 h) (row_has s fit y near)) z.waiting (v.fits y).settles

  -- the lock is parked on the heir: it is served, and p lags
  parked :
      (e : place_at R.place ≡ park) → Y.locked ≡ Preempted → Rel g G p y → Fencing true G.fencer p y
      → Holds (to (put_locked s y RP) p 20) g
  parked e h d on =
      let f = mine s g p v room e in
      let z = heir_waits s g v p y d in
      let m = Y.place in
      let st = facts_at m in
      let x = is_none Y.nx in
      let fy = v.fits y in
      let two : settled st Preempted ≡ true = subst (λ (l : ℕ). settled st l ≡ true) h fy.settles in
      let K = upd G.lagged y true in
      let same : (q : ℕ) → q ≢ y → K q ≡ G.lagged q = λ q b. upd_other G.lagged y true q b in
      both_holds v (refenced H G.fencer K G.peeked)
      (both_to (near_locked (both_start s p y z.apart room z.near) _) _)
      (refence_books G.fencer K G.peeked (serve_books d))
      (record {
        small = f.small;
        settles = f.settles;
        duty = record { away = d.away; fenced = on.0; parked = upd_same G.lagged y true };
        joins = tt;
        blank = tt;
        fencing = on;
        peeking = (tt, tt);
        shut = λ k. refl;
        fenced = fenced_same H G.fencer K G.peeked p R.locked R.next R.guard refl
            (same p z.apart) refl f.fenced;
        manned = f.manned;
      })
      (record {
        small = refl;
        settles = preempted_settled m two;
        duty =
            rw (preempted_tok m x two)
            (refence g H G.fencer K G.peeked tok y Y.next Y.succ (cond st.lifts Y.nx Y.succ)
            (λ k. absurd (k.away z.queued.low z.queued.high z.queued.mine)) (serve_heir d));
        joins = fy.joins;
        blank = fy.blank;
        fencing = fy.fencing;
        peeking = fy.peeking;
        shut = fy.shut;
        fenced = λ k. let w = fy.fenced k in record { set = w.set; still = λ b. refl; kept = w.kept };
        manned = fy.manned;
      })
      (λ q a b.
      let r = row s q in
      refence_fit g H G.fencer K G.peeked (λ k. (k.fenced, more r.succ k.parked)) (λ w. w) (λ k. refl)
      (v.fits q).shut
      (fenced_same H G.fencer K G.peeked q r.locked r.next r.guard refl (same q b) refl
      (v.fits q).fenced) (v.fits q).manned
      (pass_fit g G G.gone (suc G.gone) G.linked G.releaser (omega arith) (λ i k. k)
      (serve_asks d q r.next (cond (facts_at r.place).lifts r.nx r.succ) a b) (v.fits q)))
    where
      more : (q : ℕ) → G.lagged q ≡ true → upd G.lagged y true q ≡ true
      more =
          by_same (λ q. G.lagged q ≡ true → upd G.lagged y true q ≡ true) y (λ k. upd_same G.lagged y true)
          (λ q b k. upd_other G.lagged y true q b ∙ k)

  pub park_holds : place_at R.place ≡ park → Holds (Acts.park s p) g
  unfolding Acts.park
  park_holds e =
      let f = mine s g p v room e in
      let d = f.duty in
      let z = heir_waits s g v p y d in
      let some : is_none y ≡ false = ne_eqb y none (there_some s g v y z.near) in
      by_test (λ t. Holds t g) (eqb Y.locked Preempted) (λ h. parked e (eqb-true Y.locked Preempted h) d f.fencing)
      (λ h.
      let o = own_nx (own_start s p room) y in
      lift_next s g p v room (put_nx s p y) o.edition
      (quiet v (own_to o _)
      (record {
        small = f.small;
        settles = f.settles;
        duty = rw some d;
        joins = tt;
        blank = tt;
        fencing = f.fencing;
        peeking = (tt, λ some other. absurd (other refl));
        shut = λ k. refl;
        fenced = f.fenced;
        manned = f.manned;
      })))
