-- Who has peeked, at 21 or 22: succ's next is still what it read, as the fence keeps succ from its clear.
--     at_take, at_lift     succ's next is nx; at 22 where nx is neither none nor succ
--     takes_another        at a successful take nx is neither
--     taken_row            which leaves p at 22, succ and nx as they were
use Prim.Native.Nat.{ℕ, suc, ◌<◌}
use mathlib.Core.Path.{◌≡◌, sym, ap, subst, ◌∙◌}
use mathlib.Core.Bool.{true}
use mathlib.Core.Logic.{◌≢◌}
use native.Mathlib.Omega.{arith}
use lib.Dec.{eqb}
use lib.ListN.{length}
use Rattle.lock.specs.declared.Row.{Row}
use Rattle.lock.specs.declared.LockState.{LockState}
use Rattle.choice.proofs.Tests.{clash, by_test}
use Rattle.lock.specs.State.{none, is_drawn, Released, RP, with_place, row, put_locked, to}
use Rattle.lock.proofs.Ground.Facts.{facts_at}
use Rattle.lock.proofs.Ground.Writes.{both_start, both_to, near_locked}
use Rattle.lock.proofs.Order.Tickets.{Tickets}
use Rattle.lock.proofs.Order.Statement.{Ghost, Fit, Holds}
use Rattle.lock.proofs.Order.Near.{peeked_next, parked_tok_at}
use Rattle.lock.proofs.Order.Quiet.{ordered_drawn}
use Rattle.lock.specs.Acts as Acts

module _ (s : LockState) (g : Tickets) (p : ℕ) (v : Holds s g) where
  abbrev R : Row
  R = row s p

  abbrev y : ℕ
  y = R.succ

  abbrev Y : Row
  Y = row s y

  abbrev G : Ghost
  G = v.ghost

  at : (m : ℕ) → R.place ≡ m → Fit s.edition g G p (facts_at m) R.locked R.next R.pred y R.nx R.guard
  at m e =
      subst (λ m. Fit s.edition g G p (facts_at m) R.locked R.next R.pred y R.nx R.guard) e (v.fits p)

  pub at_take : R.place ≡ 21 → Y.next ≡ R.nx
  at_take e = let f = at 21 e in peeked_next s g v p y R.nx f.fencing f.peeking.0.0 f.peeking.0.1

  pub at_lift : R.place ≡ 22 → R.nx ≢ none → R.nx ≢ y → Y.next ≡ R.nx
  at_lift e some other = let f = at 22 e in peeked_next s g v p y R.nx f.fencing (f.peeking.1 some other) some

  -- it is whoever joined right after succ, which is parked on and so in the queue
  pub takes_another : R.place ≡ 21 → eqb Y.locked RP ≡ true → (R.nx ≢ none) × (R.nx ≢ y)
  takes_another e h =
      let some = (at 21 e).peeking.0.1 in
      let queued = (parked_tok_at s g v y h).0.queued in
      let low = queued.low in
      let behind = queued.chain (λ n. some (sym (at_take e) ∙ n)) in (
        some,
        λ z.
            let made : y ≡ G.who (suc (g.latest y)) = sym z ∙ sym (at_take e) ∙ behind.made in
            let later : g.latest y ≡ suc (g.latest y) =
            ap g.latest made ∙ v.books.known (suc (g.latest y)) (omega arith) behind.below in
            omega arith,
      )

  pub taken_row : p < length s.rows → R.place ≡ 21 → eqb Y.locked RP ≡ true → row (Acts.take s p) p ≡ with_place R 22
  unfolding Acts.take
  taken_row room e h =
      by_test (λ t. row t p ≡ with_place R 22) (eqb Y.locked RP)
      (λ b.
      by_test (λ k. row (to (put_locked s y Released) p k) p ≡ with_place R 22) (is_drawn s.edition)
      (λ d. clash d (ordered_drawn s.edition v.ordered))
      (λ d.
      let apart : p ≢ y = λ z. (at 21 e).fencing.1 (sym z) in
      (both_to (near_locked (both_start s p y apart room (parked_tok_at s g v y h).2) Released) 22).own))
      (λ b. clash h b)
