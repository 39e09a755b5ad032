-- What one call does to one that waits in the queue, or has entered and is spent. The argument on waiting knows a
-- call only by these laws and by Outsiders: it joins, enters, interrupts, or none of that.
--     entered_is_member     who has just entered is a member of the queue
--     entered_is_spent      and spent
--     spent_stays           who is spent makes no entry before its next join
--     joined_waits          who joins and does not enter by that step waits
--     waiter_stays          who waits goes on waiting until it enters or takes an interrupt
--     waiter_is_member      who waits is a member
--     waiter_does_not_join  who waits makes no join
use Prim.Native.Nat.{ℕ}
use mathlib.Core.Path.{◌≡◌, refl, sym, ap, ◌∙◌}
use mathlib.Core.Bool.{Bool, true, false, not, ◌&&◌, ◌||◌, and-false}
use lib.ListN.{length}
use lib.Dec.{eqb, lit<}
use borrow.Author.Tests.{eqb-true, not-true}
use Rattle.lock.specs.declared.LockState.{LockState}
use Rattle.choice.specs.Every.{every}
use Rattle.choice.proofs.Tests.{and_left, and_right, implied, right_of, clash, implies}
use Rattle.lock.specs.State.{processors, row}
use Rattle.lock.specs.Table.{Place, place_at}
use Rattle.lock.specs.Run.{Call, after, steps_of, joins, enters, interrupted}
use Rattle.lock.proofs.Order.Tickets.{is_member}
use Rattle.lock.proofs.Ground.Facts.{Phase, outer, queueing, away, holding, releasing, apart, waits, spent, is_apart, queues, entry, number, normal, phase_at, number_test, at_facts}
use Rattle.lock.proofs.Waiting.Leads.{all_of, unjoined_leads}
use Rattle.lock.proofs.Waiting.Stepping.{Queue, not_apart, by_step, stepping, anywhere, whoever, join_test, entry_test, interrupt_test, no_step_no_entry, joins_steps}

unfoldable pub is_waiting : LockState → ℕ → Bool
is_waiting s p = waits (phase_at (row s p).place)

unfoldable pub is_spent : LockState → ℕ → Bool
is_spent s p = spent (phase_at (row s p).place)

pub entered_is_member : (s : LockState) (c : Call) (q : ℕ) → enters s c q ≡ true → is_member (after s c) q ≡ true
unfolding enters is_member
entered_is_member s c q h =
    ap (λ m. queues (phase_at m) (row (after s c) q).locked)
    (eqb-true (row (after s c) q).place 9 (and_right (steps_of s c q) (eqb (row (after s c) q).place 9) h))

pub entered_is_spent : (s : LockState) (c : Call) (q : ℕ) → enters s c q ≡ true → is_spent (after s c) q ≡ true
unfolding enters is_spent
entered_is_spent s c q h =
    ap (λ m. spent (phase_at m))
    (eqb-true (row (after s c) q).place 9 (and_right (steps_of s c q) (eqb (row (after s c) q).place 9) h))

not_entered :
    (s : LockState) (c : Call) (q : ℕ) → eqb (normal (row (after s c) q).place) 9 ≡ false
    → enters s c q ≡ false
unfolding enters
not_entered s c q h =
    ap (λ b. steps_of s c q && b) (sym (number_test (row (after s c) q).place 9 (lit< tt)) ∙ h) ∙ and-false
    (steps_of s c q)

-- the table's part: from a spent place of a lock with a queue that is not the swap one gets to spent places only, and not inside
abbrev out_of : Place → Bool
out_of j = spent (entry j).phase && not (eqb (number j) 9)

spent_leads :
    (m : ℕ) → spent (phase_at m) ≡ true → is_apart (phase_at m) ≡ false → eqb (normal m) 3 ≡ false
    → all_of out_of (entry (place_at m)).leads ≡ true
unfolding every
spent_leads = unjoined_leads spent out_of refl

pub spent_stays :
    (s : LockState) (c : Call) → Queue s → (q : ℕ) → is_spent s q ≡ true → joins s c q ≡ false
    → (is_spent (after s c) q ≡ true) × (enters s c q ≡ false)
unfolding is_spent
spent_stays s c queue =
    let whole = queue.rows in
    by_step s c (λ still same q h none. (ap (λ m. spent (phase_at m)) (same.places q) ∙ h, no_step_no_entry s c q (still q)))
    (λ k.
    whoever s c whole k
    (λ q. spent (phase_at (row s q).place) ≡ true → joins s c q ≡ false
    → (spent (phase_at (row (after s c) q).place) ≡ true) × (enters s c q ≡ false))
    (λ h none.
    let p : ℕ = c.processor in
    let j : Place = place_at (row (after s c) p).place in
    let gone : out_of j ≡ true =
    (stepping s c whole k out_of (spent_leads (row s p).place h (not_apart s c queue k) (join_test s c whole k false none))).own in (
      and_left (spent (entry j).phase) (not (eqb (number j) 9)) gone,
      not_entered s c p (not-true (eqb (number j) 9) (and_right (spent (entry j).phase) (not (eqb (number j) 9)) gone)),
    ))
    (λ q other idle h none. (
      ap (λ m. spent (phase_at m)) ((anywhere s c whole k).others q other) ∙ h,
      no_step_no_entry s c q idle,
    )))

-- the table's part: from a waiting place one gets inside, from the poll to the service, or to waiting places
abbrev waits_on : Place → Place → Bool
waits_on k j = eqb (number j) 9 || ((eqb (number k) 10 && eqb (number j) 11) || waits (entry j).phase)

waits_leads : (m : ℕ) → waits (phase_at m) ≡ true → all_of (waits_on (place_at m)) (entry (place_at m)).leads ≡ true
unfolding every
waits_leads m h =
    implied (waits (phase_at m)) (all_of (waits_on (place_at m)) (entry (place_at m)).leads)
    (at_facts (λ k. implies (waits (entry k).phase) (all_of (waits_on k) (entry k).leads)) refl m) h

pub waiter_stays : (s : LockState) (c : Call) → length s.rows ≡ processors
    → (q : ℕ) → is_waiting s q ≡ true → enters s c q ≡ false → interrupted s c q ≡ false → is_waiting (after s c) q ≡ true
unfolding is_waiting
waiter_stays s c whole =
    by_step s c (λ still same q h none calm. ap (λ m. waits (phase_at m)) (same.places q) ∙ h)
    (λ k.
    whoever s c whole k
    (λ q. waits (phase_at (row s q).place) ≡ true → enters s c q ≡ false → interrupted s c q ≡ false
    → waits (phase_at (row (after s c) q).place) ≡ true)
    (λ h none calm.
    let here : Place = place_at (row s c.processor).place in
    let j : Place = place_at (row (after s c) c.processor).place in
    right_of (eqb (number here) 10 && eqb (number j) 11) (waits (entry j).phase)
    (right_of (eqb (number j) 9) ((eqb (number here) 10 && eqb (number j) 11) || waits (entry j).phase)
    (stepping s c whole k (waits_on here) (waits_leads (row s c.processor).place h)).own
    (entry_test s c whole k false none)) (interrupt_test s c whole k calm))
    (λ q other idle h none calm. ap (λ m. waits (phase_at m)) ((anywhere s c whole k).others q other) ∙ h))

-- the table's part: the swap leads inside or to a waiting place
abbrev waits_or_in : Place → Bool
waits_or_in j = eqb (number j) 9 || waits (entry j).phase

swap_leads : (m : ℕ) → eqb (normal m) 3 ≡ true → all_of waits_or_in (entry (place_at m)).leads ≡ true
unfolding every
swap_leads m h =
    implied (eqb (normal m) 3) (all_of waits_or_in (entry (place_at m)).leads)
    (at_facts (λ k. implies (eqb (number k) 3) (all_of waits_or_in (entry k).leads)) refl m) h

pub joined_waits : (s : LockState) (c : Call) → length s.rows ≡ processors
    → (q : ℕ) → joins s c q ≡ true → enters s c q ≡ false → is_waiting (after s c) q ≡ true
unfolding is_waiting
joined_waits s c whole =
    by_step s c (λ still same q h none. clash (joins_steps s c q h) (still q))
    (λ k.
    whoever s c whole k
    (λ q. joins s c q ≡ true → enters s c q ≡ false → waits (phase_at (row (after s c) q).place) ≡ true)
    (λ h none.
    let j : Place = place_at (row (after s c) c.processor).place in
    right_of (eqb (number j) 9) (waits (entry j).phase)
    (stepping s c whole k waits_or_in
    (swap_leads (row s c.processor).place (join_test s c whole k true h))).own
    (entry_test s c whole k false none))
    (λ q other idle h none. clash (joins_steps s c q h) idle))

pub waiter_is_member : (s : LockState) (q : ℕ) → is_waiting s q ≡ true → is_member s q ≡ true
unfolding is_waiting is_member
waiter_is_member s q h = waits_queues (phase_at (row s q).place) h
  where
    waits_queues : (f : Phase) → waits f ≡ true → queues f (row s q).locked ≡ true
    waits_queues outer h = h
    waits_queues queueing h = refl
    waits_queues away h = clash h refl
    waits_queues holding h = refl
    waits_queues releasing h = h
    waits_queues apart h = h

pub waiter_does_not_join : (s : LockState) (c : Call) (q : ℕ) → is_waiting s q ≡ true → joins s c q ≡ false
unfolding is_waiting joins every
waiter_does_not_join s c q h =
    let m = (row s q).place in
    ap (λ b. steps_of s c q && b)
    (sym (number_test m 3 (lit< tt))
    ∙ not-true (eqb (normal m) 3)
    (implied (waits (phase_at m)) (not (eqb (normal m) 3))
    (at_facts (λ k. implies (waits (entry k).phase) (not (eqb (number k) 3))) refl m) h))
    ∙ and-false (steps_of s c q)
