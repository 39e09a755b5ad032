-- Where each act of the step table leads: `goes` says of any test that passes every place to which the table of places lets an
-- act lead that it passes the place where the act ends. A new row of the step table is a law of its act here.
--     all_of           the test passes each place of a list of numbers
--     goes             a step of p ends where the test passes; the other rows are as Goes says
--     unjoined_leads   where the act of a place leads that is neither the swap nor one of the old boards' lock, by one computed test
use Prim.Native.Nat.{ℕ, suc, ◌<◌}
use mathlib.Core.Path.{◌≡◌, refl, sym, ap, subst, ◌∙◌}
use mathlib.Core.Bool.{Bool, true, false, ◌&&◌, ◌||◌}
use mathlib.Core.List.{List}
use lib.ListN.{length}
use lib.Dec.{eqb}
use borrow.Author.Tests.{eqb-true, eqb-false}
use Rattle.choice.specs.Every.{every}
use Rattle.choice.proofs.Tests.{right_of, implies, implied, by_either, by_test}
use Rattle.lock.specs.State.{is_none, is_plain, is_drawn, is_guarded, is_old, Released, Locked, Preempted, RP, row, put_tail, put_next, put_locked, to, put_pred}
use Rattle.lock.specs.Sound.{is_in, places}
use Rattle.lock.specs.Table.{Place, place_at, act, rest, gate, clear, swap, arm, link, claim, spin, settle, inside, poll, service, back, regain, look, close, await, hand, fence, park, peek, take, lift, old_try, old_poll, old_service, old_free, reread, lost}
use Rattle.lock.proofs.Ground.Places.{Each, begin, ◌▹◌, at_number, lost_same}
use Rattle.lock.proofs.Ground.Sets.{all, in_all}
use Rattle.lock.proofs.Ground.Facts.{Phase, entry, number, normal, phase_at, is_apart, at_facts}
use Rattle.lock.proofs.Waiting.Kept.{Kept, kept_self, kept_tail, kept_next, kept_guard, kept_flag, kept_pred, kept_succ, kept_nx, kept_release, kept_own, kept_locked, Goes, goes_to, stays}
use Rattle.lock.specs.declared.LockState.{LockState}
use Rattle.lock.specs.Acts as Acts

abbrev pub all_of : (Place → Bool) → List ℕ → Bool
all_of ok ms = all (λ m. ok (place_at m)) ms

pub unjoined_leads :
    (from : Phase → Bool) (ok : Place → Bool)
    → every (suc places)
    (λ m. implies (from (phase_at m)) (is_apart (phase_at m) || (eqb (normal m) 3 || all_of ok (entry (place_at m)).leads))) ≡ true
    → (m : ℕ) → from (phase_at m) ≡ true → is_apart (phase_at m) ≡ false → eqb (normal m) 3 ≡ false
    → all_of ok (entry (place_at m)).leads ≡ true
unjoined_leads from ok e m h queue other =
    let led = all_of ok (entry (place_at m)).leads in
    right_of (eqb (normal m) 3) led
    (right_of (is_apart (phase_at m)) (eqb (normal m) 3 || led)
    (implied (from (phase_at m)) (is_apart (phase_at m) || (eqb (normal m) 3 || led))
    (at_facts
    (λ k. implies (from (entry k).phase) (is_apart (entry k).phase || (eqb (number k) 3 || all_of ok (entry k).leads))) e m)
    h) queue) other

module _ (s : LockState) (p : ℕ) (there : p < length s.rows) (ok : Place → Bool) where
  -- the law of the act of a place: p stands there, and the test passes wherever the table lets the act lead
  abbrev At : Place → Type 0
  At k = place_at (row s p).place ≡ k

  abbrev Led : Place → Type 0
  Led k = all_of ok (entry k).leads ≡ true

  -- the table lets k's act lead to v
  abbrev Leads : Place → ℕ → Type 0
  Leads k v = is_in (entry k).leads v ≡ true

  -- after writes that keep, the last one is of the place; or there is none
  ends : {k : Place} → At k → Led k → (v : ℕ) → Leads k v → {x : LockState} → Kept s p x → Goes s p ok (to x p v)
  ends {k} here h v i kept = goes_to v kept there (in_all (λ m. ok (place_at m)) (entry k).leads h v i)

  remains : {k : Place} → At k → Led k → Leads k (number k) → place_at (number k) ≡ k → {x : LockState} → Kept s p x → Goes s p ok x
  remains {k} here h i named kept =
      stays kept (ap ok (here ∙ sym named) ∙ in_all (λ m. ok (place_at m)) (entry k).leads h (number k) i)

  -- the ways on that several acts share
  queue_next : {k : Place} → At k → Led k → Leads k 1 → Leads k 2 → Goes s p ok (Acts.to_queue s p)
  unfolding Acts.to_queue
  queue_next here h i j =
      by_either (λ v. Goes s p ok (to s p v)) (is_guarded s.edition) (ends here h _ i kept_self) (ends here h _ j kept_self)

  hand_next : {k : Place} → At k → Led k → Leads k 17 → Goes s p ok (Acts.to_hand s p)
  unfolding Acts.to_hand
  hand_next here h i = ends here h _ i (kept_succ _ kept_self)

  to_onward : {k : Place} → At k → Led k → (x : LockState) → Kept s p x → Leads k 0 → Leads k 17 → Goes s p ok (Acts.onward x p)
  unfolding Acts.onward
  to_onward here h x kept i j =
      by_either (Goes s p ok) (is_none (row x p).nx) (ends here h _ i kept) (ends here h _ j (kept_succ _ kept))

  lift_next :
      {k : Place} → At k → Led k → (x : LockState) → Kept s p x → Leads k 22 → Leads k 0 → Leads k 17
      → Goes s p ok (Acts.to_lift x p)
  unfolding Acts.to_lift
  lift_next here h x kept l i j =
      by_either (Goes s p ok) (is_drawn x.edition) (to_onward here h x kept i j) (ends here h _ l kept)

  goes_rest : At rest → Led rest → Goes s p ok (Acts.rest s p)
  unfolding Acts.rest
  goes_rest here h =
      by_either (Goes s p ok) (row s p).flag (remains here h refl refl (kept_flag _ _ kept_self))
      (by_either (Goes s p ok) (is_old s.edition) (ends here h _ refl kept_self) (queue_next here h refl refl))

  goes_gate : At gate → Led gate → Goes s p ok (Acts.gate s p)
  unfolding Acts.gate
  goes_gate here h =
      by_either (Goes s p ok) (row s p).guard (remains here h refl refl kept_self) (ends here h _ refl kept_self)

  goes_clear : At clear → Led clear → Goes s p ok (Acts.clear s p)
  unfolding Acts.clear
  goes_clear here h = ends here h _ refl (kept_next _ _ kept_self)

  goes_swap : At swap → Led swap → Goes s p ok (Acts.swap s p)
  unfolding Acts.swap
  goes_swap here h =
      by_either (λ v. Goes s p ok (to (put_tail (put_pred s p s.tail) p) p v)) (is_none s.tail)
      (ends here h _ refl (kept_tail _ (kept_pred _ _ kept_self))) (ends here h _ refl (kept_tail _ (kept_pred _ _ kept_self)))

  goes_arm : At arm → Led arm → Goes s p ok (Acts.arm s p)
  unfolding Acts.arm
  goes_arm here h = ends here h _ refl (kept_own _ kept_self)

  goes_link : At link → Led link → Goes s p ok (Acts.link s p)
  unfolding Acts.link
  goes_link here h =
      by_either (λ v. Goes s p ok (to (put_next s (row s p).pred p) p v)) (is_plain s.edition)
      (ends here h _ refl (kept_next _ _ kept_self)) (ends here h _ refl (kept_next _ _ kept_self))

  goes_claim : At claim → Led claim → Goes s p ok (Acts.claim s p)
  unfolding Acts.claim
  goes_claim here h =
      by_either (Goes s p ok) (eqb (row s (row s p).pred).locked RP) (ends here h _ refl (kept_release _ kept_self))
      (ends here h _ refl kept_self)

  goes_spin : At spin → Led spin → Goes s p ok (Acts.spin s p)
  unfolding Acts.spin
  goes_spin here h =
      by_either (Goes s p ok) (eqb (row s p).locked Released) (ends here h _ refl kept_self)
      (by_either (Goes s p ok) (is_plain s.edition) (remains here h refl refl kept_self) (ends here h _ refl kept_self))

  goes_settle : At settle → Led settle → Goes s p ok (Acts.settle s p)
  unfolding Acts.settle
  goes_settle here h = ends here h _ refl (kept_own _ kept_self)

  goes_inside : At inside → Led inside → Goes s p ok (Acts.inside s p)
  unfolding Acts.inside
  goes_inside here h =
      by_either (λ v. Goes s p ok (to s p v)) (is_old s.edition) (ends here h _ refl kept_self) (ends here h _ refl kept_self)

  goes_poll : At poll → Led poll → Goes s p ok (Acts.poll s p)
  unfolding Acts.poll
  goes_poll here h =
      by_either (Goes s p ok) ((row s p).flag && eqb (row s p).locked Locked)
      (ends here h _ refl (kept_flag _ _ (kept_own _ kept_self))) (ends here h _ refl kept_self)

  goes_service : At service → Led service → Goes s p ok (Acts.service s p)
  unfolding Acts.service
  goes_service here h = ends here h _ refl kept_self

  goes_back : At back → Led back → Goes s p ok (Acts.back s p)
  unfolding Acts.back
  goes_back here h =
      by_either (Goes s p ok) (eqb (row s p).locked Preempted) (ends here h _ refl (kept_own _ kept_self))
      (ends here h _ refl kept_self)

  goes_regain : At regain → Led regain → Goes s p ok (Acts.regain s p)
  unfolding Acts.regain
  goes_regain here h =
      by_either (Goes s p ok) (eqb (row s p).locked RP) (ends here h _ refl (kept_own _ kept_self)) (queue_next here h refl refl)

  goes_look : At look → Led look → Goes s p ok (Acts.look s p)
  unfolding Acts.look
  goes_look here h =
      by_either (Goes s p ok) (is_none (row s p).next) (ends here h _ refl kept_self) (hand_next here h refl)

  goes_close : At close → Led close → Goes s p ok (Acts.close s p)
  unfolding Acts.close
  goes_close here h =
      by_either (Goes s p ok) (eqb s.tail p) (ends here h _ refl (kept_tail _ kept_self)) (ends here h _ refl kept_self)

  goes_await : At await → Led await → Goes s p ok (Acts.await s p)
  unfolding Acts.await
  goes_await here h =
      by_either (Goes s p ok) (is_none (row s p).next) (remains here h refl refl kept_self) (hand_next here h refl)

  goes_hand : At hand → Led hand → Goes s p ok (Acts.hand s p)
  unfolding Acts.hand
  goes_hand here h =
      by_either (Goes s p ok) (is_plain s.edition) (ends here h _ refl (kept_release _ kept_self))
      (by_either (Goes s p ok) (eqb (row s (row s p).succ).locked Locked) (ends here h _ refl (kept_release _ kept_self))
      (by_either (λ v. Goes s p ok (to s p v)) (is_drawn s.edition) (ends here h _ refl kept_self) (ends here h _ refl kept_self)))

  goes_fence : At fence → Led fence → Goes s p ok (Acts.fence s p)
  unfolding Acts.fence
  goes_fence here h = ends here h _ refl (kept_guard _ _ kept_self)

  -- the one write of another's locked that is no release: it was Preempted, so it was not Released
  goes_park : At park → Led park → Goes s p ok (Acts.park s p)
  unfolding Acts.park
  goes_park here h =
      let y = (row s p).succ in
      by_test (Goes s p ok) (eqb (row s y).locked Preempted)
      (λ e.
      ends here h _ refl
      (kept_locked _ _
      (λ z. eqb-false Preempted Released refl (sym (eqb-true (row s y).locked Preempted e) ∙ z)) kept_self))
      (λ e. lift_next here h _ (kept_nx _ kept_self) refl refl refl)

  goes_peek : At peek → Led peek → Goes s p ok (Acts.peek s p)
  unfolding Acts.peek
  goes_peek here h =
      by_either (Goes s p ok) (is_none (row s (row s p).succ).next)
      (lift_next here h _ (kept_nx _ kept_self) refl refl refl) (ends here h _ refl (kept_nx _ kept_self))

  goes_take : At take → Led take → Goes s p ok (Acts.take s p)
  unfolding Acts.take
  goes_take here h =
      by_either (Goes s p ok) (eqb (row s (row s p).succ).locked RP)
      (by_either (λ v. Goes s p ok (to (put_locked s (row s p).succ Released) p v)) (is_drawn s.edition)
      (ends here h _ refl (kept_release _ kept_self)) (ends here h _ refl (kept_release _ kept_self)))
      (lift_next here h _ (kept_nx _ kept_self) refl refl refl)

  goes_lift : At lift → Led lift → Goes s p ok (Acts.lift s p)
  unfolding Acts.lift
  goes_lift here h = to_onward here h _ (kept_guard _ _ kept_self) refl refl

  goes_old_try : At old_try → Led old_try → Goes s p ok (Acts.old_try s p)
  unfolding Acts.old_try
  goes_old_try here h =
      by_either (Goes s p ok) (Acts.unheld s) (ends here h _ refl (kept_tail _ kept_self)) (ends here h _ refl kept_self)

  goes_old_poll : At old_poll → Led old_poll → Goes s p ok (Acts.old_poll s p)
  unfolding Acts.old_poll
  goes_old_poll here h =
      by_either (Goes s p ok) (row s p).flag (ends here h _ refl (kept_flag _ _ kept_self)) (ends here h _ refl kept_self)

  goes_old_service : At old_service → Led old_service → Goes s p ok (Acts.old_service s p)
  unfolding Acts.old_service
  goes_old_service here h = ends here h _ refl kept_self

  goes_old_free : At old_free → Led old_free → Goes s p ok (Acts.old_free s p)
  unfolding Acts.old_free
  goes_old_free here h = ends here h _ refl (kept_tail _ kept_self)

  goes_reread : At reread → Led reread → Goes s p ok (Acts.reread s p)
  unfolding Acts.reread
  goes_reread here h =
      by_either (Goes s p ok) (is_none (row s (row s p).succ).next) (ends here h _ refl (kept_nx _ kept_self))
      (ends here h _ refl (kept_succ _ (kept_nx _ kept_self)))

  goes_lost : At lost → Led lost → Goes s p ok (Acts.lost s p)
  goes_lost here h = subst (Goes s p ok) (lost_same s p) (remains here h refl refl kept_self)

  -- the act of each place
  acts : Each (λ m. At (place_at m) → Led (place_at m) → Goes s p ok (act (place_at m) s p)) places
  acts =
      begin ▹ goes_rest ▹ goes_gate ▹ goes_clear ▹ goes_swap ▹ goes_arm ▹ goes_link ▹ goes_claim ▹ goes_spin ▹ goes_settle
      ▹ goes_inside ▹ goes_poll ▹ goes_service ▹ goes_back ▹ goes_regain ▹ goes_look ▹ goes_close ▹ goes_await ▹ goes_hand
      ▹ goes_fence ▹ goes_park ▹ goes_peek ▹ goes_take ▹ goes_lift ▹ goes_old_try ▹ goes_old_poll ▹ goes_old_service ▹ goes_old_free
      ▹ goes_reread ▹ goes_lost

  pub goes : Led (place_at (row s p).place) → Goes s p ok (act (place_at (row s p).place) s p)
  goes h =
      at_number (λ k. At k → Led k → Goes s p ok (act k s p)) acts (λ here h. remains here h refl refl kept_self)
      (row s p).place refl h
