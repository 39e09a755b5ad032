-- Places 14 to 16: who has the lock goes from the front of the queue, either with a next to hand the lock on to, or
-- closing the queue behind it.
use Prim.Native.Nat.{ℕ, suc, ◌<◌}
use mathlib.Core.Path.{◌≡◌, refl, sym, ap, ◌∙◌}
use mathlib.Core.Bool.{true, false}
use native.Mathlib.Omega.{arith}
use lib.Dec.{eqb}
use lib.ListN.{length}
use borrow.Author.Tests.{eqb-true, eqb-false}
use Rattle.lock.specs.declared.Row.{Row}
use Rattle.lock.specs.declared.LockState.{LockState}
use Rattle.choice.proofs.Tests.{clash, by_test}
use Rattle.lock.specs.State.{none, is_none, row, put_tail, to}
use Rattle.lock.specs.Table.{place_at, inside, look, close, await}
use Rattle.lock.proofs.Ground.Facts.{facts}
use Rattle.lock.proofs.Order.Tickets.{Tickets}
use Rattle.lock.proofs.Ground.Writes.{own_start, own_tail, own_succ, own_to}
use Rattle.lock.proofs.Order.Statement.{Ghost, Fit, Holds}
use Rattle.lock.proofs.Order.Carry.{passed, pass_fit, books_pop}
use Rattle.lock.proofs.Order.Near.{before, served_first, pop_asks, there_some}
use Rattle.lock.proofs.Order.Build.{own_holds, free_fit}
use Rattle.lock.proofs.Order.Quiet.{mine, go}
use Rattle.lock.specs.Acts as Acts

module _ (s : LockState) (g : Tickets) (p : ℕ) (v : Holds s g) (room : p < length s.rows) where
  abbrev R : Row
  R = row s p

  abbrev G : Ghost
  G = v.ghost

  -- what is said of who has entered
  abbrev Holder : Type 0
  Holder = Fit s.edition g G p (facts inside) R.locked R.next R.pred R.succ R.nx R.guard

  hand_next : Holder → is_none R.next ≡ false → Holds (Acts.to_hand s p) g
  unfolding Acts.to_hand
  hand_next f h =
      let d = f.duty in
      let c = d.queued.chain (eqb-false R.next none h) in
      let first = served_first s g v d in
      let front = first.0 in
      let serve = first.1 in
      let below = c.below in
      let next-is : suc (g.latest p) ≡ suc G.gone = ap suc front in
      let done : G.linked (suc G.gone) ≡ true = sym (ap G.linked next-is) ∙ c.done in
      own_holds v (passed G (suc G.gone) G.served G.linked p)
      (own_to (own_succ (own_start s p room) _) _)
      (books_pop _ _ _ v.books (omega arith) (omega arith) (omega arith))
      (free_fit refl f.small f.settles
      (record {
        away = λ a b k. omega arith;
        handing = serve;
        only = refl;
        front = record { below = omega arith; made = c.made ∙ ap G.who next-is; done = done };
      })
      f.fenced f.manned f.fencing)
      (λ q a.
      pass_fit g G (suc G.gone) G.served G.linked p (omega arith) (λ i z. z)
      (pop_asks s g v p R.next p d (λ q next k z. clash (ap G.linked z ∙ done) k.unlinked) q _ _ a)
      (v.fits q))

  pub look_holds : place_at R.place ≡ look → Holds (Acts.look s p) g
  unfolding Acts.look
  look_holds e = by_test (λ t. Holds t g) (is_none R.next) (λ h. go s g p v room _ (mine s g p v room e))
      (λ h. hand_next (mine s g p v room e) h)

  pub await_holds : place_at R.place ≡ await → Holds (Acts.await s p) g
  unfolding Acts.await
  await_holds e = by_test (λ t. Holds t g) (is_none R.next) (λ h. v) (λ h. hand_next (mine s g p v room e) h)

  pub close_holds : place_at R.place ≡ close → Holds (Acts.close s p) g
  unfolding Acts.close
  close_holds e =
      by_test (λ t. Holds t g) (eqb s.tail p) (λ h. closed (eqb-true s.tail p h))
      (λ h. go s g p v room _ (mine s g p v room e))
    where
      closed : s.tail ≡ p → Holds (to (put_tail s none) p 0) g
      closed h =
          let f = mine s g p v room e in
          let d = f.duty in
          let first = served_first s g v d in
          let front = first.0 in
          let serve = first.1 in
          let high = d.queued.high in
          let prior = before G.gone g.count (omega arith) in
          let below = prior.1 in
          let least = prior.2 in
          let i = prior.0 in
          let last : s.tail ≡ G.who i = (v.books.last (λ z. there_some s g v p room (sym h ∙ z))).1 i below in
          let known : g.latest p ≡ i = ap g.latest (sym h ∙ last) ∙ v.books.known i least (omega arith) in
          own_holds v (passed G (suc G.gone) G.served G.linked G.releaser)
          (own_to (own_tail (own_start s p room) none) _)
          (record {
            low = omega arith;
            least = omega arith;
            most = omega arith;
            known = λ i a b. v.books.known i (omega arith) b;
            past = v.books.past;
            empty = λ z. omega arith;
            last = λ z. absurd (z refl);
          })
          (free_fit refl f.small f.settles (λ a b k. omega arith) f.fenced f.manned f.fencing)
          (λ q a.
          pass_fit g G (suc G.gone) G.served G.linked G.releaser (omega arith) (λ i z. z)
          (pop_asks s g v p R.next G.releaser d (λ q next k z. let b = k.queued.high in omega arith) q _ _ a)
          (v.fits q))
