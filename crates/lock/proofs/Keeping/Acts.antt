-- Soundness is kept, act by act: each act of the step table, done by a p that stands at its place, keeps a whole state
-- whole. Where p goes is a computed test, the `refl` behind `lands`: each edition that has the place has the next one
-- too, and the pred, succ or nx wanted there is the one that the place told of, or the one just put. A neighbour may be
-- p itself: the puts ask only that it is below N. The four ways on that several acts share come first; `acts` has the acts in
-- the order of their places.
use Prim.Native.Nat.{ℕ}
use mathlib.Core.Path.{◌≡◌, refl, ap, subst}
use mathlib.Core.Bool.{true, false, not, ◌&&◌, or-true}
use lib.Dec.{eqb}
use borrow.Author.Tests.{lt-ltb}
use Rattle.lock.specs.declared.LockState.{LockState}
use Rattle.choice.specs.Every.{every}
use Rattle.choice.proofs.Tests.{by_test}
use Rattle.lock.specs.State.{is_none, is_plain, is_drawn, is_guarded, is_old, Released, Locked, Preempted, RP, row, put_row, put_tail, put_next, put_locked, put_guard, to, put_pred, put_succ, put_nx}
use Rattle.lock.specs.Sound.{none_or_below, has_place, places}
use Rattle.lock.specs.Kept.{Whole}
use Rattle.lock.specs.Table.{Place, place_at, act, rest, gate, clear, swap, arm, link, claim, spin, settle, inside, poll, service, back, regain, look, close, await, hand, fence, park, peek, take, lift, old_try, old_poll, old_service, old_free, reread, lost}
use Rattle.lock.proofs.Keeping.Parts.{Known, Ready, standing}
use Rattle.lock.proofs.Keeping.Puts.{next_put, locked_put, guard_put, flag_put, pred_put, succ_put, nx_put, tail_put, also, knowing, forgetting, pred_below, succ_below, suits, own_cells, lands, flag_kept}
use Rattle.lock.proofs.Ground.Places.{Each, begin, ◌▹◌, lost_same}
use Rattle.lock.proofs.Ground.Facts.{number}
use Rattle.lock.specs.Acts as Acts

-- what was known, and that a succ has been put
abbrev succeeded : Known → Known
succeeded k = record { editions = k.editions; pred = k.pred; succ = true; nx = k.nx }

module _ {s : LockState} {p : ℕ} {k : Known} (x : Ready s p k) where
  queue_kept : suits (also k is_guarded) 1 ≡ true → suits k 2 ≡ true → Whole (Acts.to_queue s p)
  unfolding Acts.to_queue
  queue_kept gated ungated =
      by_test (λ v. Whole (to s p v)) (is_guarded s.edition) (λ h. lands _ (knowing x is_guarded h) gated) (λ h. lands _ x ungated)

  hand_on_kept : suits (succeeded k) 17 ≡ true → is_none (row s p).next ≡ false → Whole (Acts.to_hand s p)
  unfolding Acts.to_hand put_succ put_row
  hand_on_kept fits h = lands _ (succ_put x (row s p).next true (own_cells x).next (ap not h)) fits

  onward_kept : suits (succeeded k) 17 ≡ true → Whole (Acts.onward s p)
  unfolding Acts.onward put_succ put_row suits every has_place
  onward_kept fits =
      by_test Whole (is_none (row s p).nx) (λ h. lands _ (forgetting x) refl)
      (λ h. lands _ (succ_put x (row s p).nx true (own_cells x).nx (ap not h)) fits)

  -- p itself, put into a cell
  self_fits : none_or_below s.n p ≡ true
  self_fits = rw (lt-ltb p s.n x.base.below) (or-true (is_none p))

  -- place 22 is the guarded edition's; the drawn edition goes onward at once
  lift_next_kept :
      suits (succeeded k) 17 ≡ true → suits (also k (λ e. not (is_drawn e))) 22 ≡ true → Whole (Acts.to_lift s p)
  unfolding Acts.to_lift
  lift_next_kept on up =
      by_test Whole (is_drawn s.edition) (λ h. onward_kept on)
      (λ h. lands _ (knowing x (λ e. not (is_drawn e)) (ap not h)) up)

-- p stands at the place k, and what that tells is known
abbrev Stands : LockState → ℕ → Place → Type 0
Stands s p k = Ready s p (standing (number k))

module _ {s : LockState} {p : ℕ} (w : Whole s) where
  rest_kept : Stands s p rest → Whole (Acts.rest s p)
  unfolding Acts.rest suits every has_place
  rest_kept x =
      by_test Whole (row s p).flag (λ h. flag_kept false w x.base.below)
      (λ h.
      by_test Whole (is_old s.edition) (λ o. lands _ (knowing x is_old o) refl)
      (λ o. queue_kept (knowing x (λ e. not (is_old e)) (ap not o)) refl refl))

  gate_kept : Stands s p gate → Whole (Acts.gate s p)
  unfolding Acts.gate suits every has_place
  gate_kept x = by_test Whole (row s p).guard (λ h. w) (λ h. lands _ x refl)

  clear_kept : Stands s p clear → Whole (Acts.clear s p)
  unfolding Acts.clear suits every has_place
  clear_kept x = lands _ (next_put x _ _ x.base.below refl) refl

  swap_kept : Stands s p swap → Whole (Acts.swap s p)
  unfolding Acts.swap put_pred put_row suits every has_place
  swap_kept x =
      by_test (λ v. Whole (to (put_tail (put_pred s p s.tail) p) p v)) (is_none s.tail)
      (λ h. lands _ (tail_put (pred_put x s.tail false x.base.tail refl) p (self_fits x)) refl)
      (λ h. lands _ (tail_put (pred_put x s.tail true x.base.tail (ap not h)) p (self_fits x)) refl)

  arm_kept : Stands s p arm → Whole (Acts.arm s p)
  unfolding Acts.arm suits every has_place
  arm_kept x = lands _ (locked_put x _ _ x.base.below refl) refl

  link_kept : Stands s p link → Whole (Acts.link s p)
  unfolding Acts.link put_next put_row suits every has_place
  link_kept x =
      let linked = next_put x _ _ (pred_below x refl) (self_fits x) in
      by_test (λ v. Whole (to (put_next s (row s p).pred p) p v)) (is_plain s.edition) (λ h. lands _ linked refl)
      (λ h. lands _ (knowing linked (λ e. not (is_plain e)) (ap not h)) refl)

  claim_kept : Stands s p claim → Whole (Acts.claim s p)
  unfolding Acts.claim suits every has_place
  claim_kept x =
      by_test Whole (eqb (row s (row s p).pred).locked RP)
      (λ h. lands _ (locked_put x _ _ (pred_below x refl) refl) refl)
      (λ h. lands _ x refl)

  spin_kept : Stands s p spin → Whole (Acts.spin s p)
  unfolding Acts.spin suits every has_place
  spin_kept x =
      by_test Whole (eqb (row s p).locked Released) (λ h. lands _ x refl)
      (λ h.
      by_test Whole (is_plain s.edition) (λ a. w) (λ a. lands _ (knowing x (λ e. not (is_plain e)) (ap not a)) refl))

  settle_kept : Stands s p settle → Whole (Acts.settle s p)
  unfolding Acts.settle suits every has_place
  settle_kept x = lands _ (locked_put x _ _ x.base.below refl) refl

  inside_kept : Stands s p inside → Whole (Acts.inside s p)
  unfolding Acts.inside suits every has_place
  inside_kept x =
      by_test (λ v. Whole (to s p v)) (is_old s.edition) (λ o. lands _ (knowing x is_old o) refl)
      (λ o. lands _ (knowing x (λ e. not (is_old e)) (ap not o)) refl)

  poll_kept : Stands s p poll → Whole (Acts.poll s p)
  unfolding Acts.poll put_locked put_row suits every has_place
  poll_kept x =
      by_test Whole ((row s p).flag && eqb (row s p).locked Locked)
      (λ h. lands _ (flag_put (locked_put x _ _ x.base.below refl) _ _ x.base.below) refl)
      (λ h. lands _ x refl)

  service_kept : Stands s p service → Whole (Acts.service s p)
  unfolding Acts.service suits every has_place
  service_kept x = lands _ x refl

  back_kept : Stands s p back → Whole (Acts.back s p)
  unfolding Acts.back suits every has_place
  back_kept x =
      by_test Whole (eqb (row s p).locked Preempted)
      (λ h. lands _ (locked_put x _ _ x.base.below refl) refl) (λ h. lands _ x refl)

  regain_kept : Stands s p regain → Whole (Acts.regain s p)
  unfolding Acts.regain suits every has_place
  regain_kept x =
      by_test Whole (eqb (row s p).locked RP)
      (λ h. lands _ (locked_put x _ _ x.base.below refl) refl) (λ h. queue_kept x refl refl)

  look_kept : Stands s p look → Whole (Acts.look s p)
  unfolding Acts.look suits every has_place
  look_kept x = by_test Whole (is_none (row s p).next) (λ h. lands _ x refl) (λ h. hand_on_kept x refl h)

  close_kept : Stands s p close → Whole (Acts.close s p)
  unfolding Acts.close suits every has_place
  close_kept x =
      by_test Whole (eqb s.tail p) (λ h. lands _ (tail_put x _ refl) refl) (λ h. lands _ x refl)

  await_kept : Stands s p await → Whole (Acts.await s p)
  unfolding Acts.await suits every has_place
  await_kept x = by_test Whole (is_none (row s p).next) (λ h. w) (λ h. hand_on_kept x refl h)

  hand_kept : Stands s p hand → Whole (Acts.hand s p)
  unfolding Acts.hand suits every has_place
  hand_kept x =
      let handed : Whole (to (put_locked s (row s p).succ Released) p 0) =
      lands _ (locked_put x _ _ (succ_below x refl) refl) refl in
      by_test Whole (is_plain s.edition) (λ a. handed)
      (λ a.
      by_test Whole (eqb (row s (row s p).succ).locked Locked) (λ h. handed)
      (λ h.
      let other = knowing x (λ e. not (is_plain e)) (ap not a) in
      by_test (λ v. Whole (to s p v)) (is_drawn s.edition) (λ d. lands _ other refl)
      (λ d. lands _ (knowing other (λ e. not (is_drawn e)) (ap not d)) refl)))

  fence_kept : Stands s p fence → Whole (Acts.fence s p)
  unfolding Acts.fence suits every has_place
  fence_kept x = let c = own_cells x in lands _ (guard_put x _ _ (search c)) refl

  park_kept : Stands s p park → Whole (Acts.park s p)
  unfolding Acts.park suits every has_place
  park_kept x =
      by_test Whole (eqb (row s (row s p).succ).locked Preempted)
      (λ h. lands _ (locked_put x _ _ (succ_below x refl) refl) refl)
      (λ h. lift_next_kept (nx_put x (row s p).succ false (own_cells x).succ refl) refl refl)

  peek_kept : Stands s p peek → Whole (Acts.peek s p)
  unfolding Acts.peek suits every has_place
  peek_kept x =
      let q = (row s p).succ in
      let fits : none_or_below s.n (row s q).next ≡ true = ((x.base.rows q).cells (succ_below x refl)).next in
      by_test Whole (is_none (row s q).next) (λ h. lift_next_kept (nx_put x (row s q).next false fits refl) refl refl)
      (λ h. lands _ (nx_put x (row s q).next true fits (ap not h)) refl)

  take_kept : Stands s p take → Whole (Acts.take s p)
  unfolding Acts.take put_locked put_row suits every has_place
  take_kept x =
      let took = locked_put x _ _ (succ_below x refl) refl in
      by_test Whole (eqb (row s (row s p).succ).locked RP)
      (λ h.
      by_test (λ v. Whole (to (put_locked s (row s p).succ Released) p v)) (is_drawn s.edition)
      (λ d. lands _ (knowing took is_drawn d) refl) (λ d. lands _ (knowing took (λ e. not (is_drawn e)) (ap not d)) refl))
      (λ h. lift_next_kept (nx_put x _ false refl refl) refl refl)

  lift_kept : Stands s p lift → Whole (Acts.lift s p)
  unfolding Acts.lift suits every has_place
  lift_kept x =
      let c = own_cells x in
      onward_kept {s = put_guard s _ _} (guard_put x _ _ (search c)) refl

  old_try_kept : Stands s p old_try → Whole (Acts.old_try s p)
  unfolding Acts.old_try suits every has_place
  old_try_kept x =
      by_test Whole (Acts.unheld s) (λ h. lands _ (tail_put x p (self_fits x)) refl) (λ h. lands _ x refl)

  old_poll_kept : Stands s p old_poll → Whole (Acts.old_poll s p)
  unfolding Acts.old_poll suits every has_place
  old_poll_kept x =
      by_test Whole (row s p).flag (λ h. lands _ (flag_put x _ _ x.base.below) refl) (λ h. lands _ x refl)

  old_service_kept : Stands s p old_service → Whole (Acts.old_service s p)
  unfolding Acts.old_service suits every has_place
  old_service_kept x = lands _ x refl

  old_free_kept : Stands s p old_free → Whole (Acts.old_free s p)
  unfolding Acts.old_free suits every has_place
  old_free_kept x = lands _ (tail_put x _ refl) refl

  reread_kept : Stands s p reread → Whole (Acts.reread s p)
  unfolding Acts.reread put_nx put_row suits every has_place
  reread_kept x =
      let q = (row s p).succ in
      let fits : none_or_below s.n (row s q).next ≡ true = ((x.base.rows q).cells (succ_below x refl)).next in
      by_test Whole (is_none (row s q).next) (λ h. lands _ (nx_put x (row s q).next false fits refl) refl)
      (λ h. lands _ (succ_put (nx_put x (row s q).next true fits (ap not h)) (row s q).next true fits (ap not h)) refl)

  lost_kept : Stands s p lost → Whole (Acts.lost s p)
  lost_kept x = subst Whole (lost_same s p) w

-- the act of each place
pub acts : {s : LockState} {p : ℕ} → Whole s → Each (λ m. Ready s p (standing m) → Whole (act (place_at m) s p)) places
acts w =
    begin ▹ rest_kept w ▹ gate_kept w ▹ clear_kept w ▹ swap_kept w ▹ arm_kept w ▹ link_kept w ▹ claim_kept w
    ▹ spin_kept w ▹ settle_kept w ▹ inside_kept w ▹ poll_kept w ▹ service_kept w ▹ back_kept w ▹ regain_kept w
    ▹ look_kept w ▹ close_kept w ▹ await_kept w ▹ hand_kept w ▹ fence_kept w ▹ park_kept w ▹ peek_kept w ▹ take_kept w
    ▹ lift_kept w ▹ old_try_kept w ▹ old_poll_kept w ▹ old_service_kept w ▹ old_free_kept w ▹ reread_kept w ▹ lost_kept w
