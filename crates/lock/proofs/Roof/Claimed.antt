-- The claims of specs/Claims, proved: the argument of Waiting and Inside at the invariants of Order and Exclusion. The claim that
-- calls are a run is proved in Callers.
use Prim.Native.Nat.{ℕ, ◌≤◌}
use native.Mathlib.Omega.{arith}
use mathlib.Core.Path.{◌≡◌, ap, subst}
use mathlib.Core.Bool.{true}
use lib.Dec.{leb}
use borrow.Author.Tests.{leb-true}
use Rattle.choice.proofs.Tests.{clash, and_left, and_right}
use Rattle.lock.specs.State.{fresh_state, row}
use Rattle.lock.specs.Run.{is_inside}
use Rattle.lock.specs.Claims.{NeverTwoInside, NeverTwoInsideAnyEdition, NobodyLaterEnters, OthersEnterOnce, WaitsAtMost, NobodyOvertakes, OnceSinceLastJoin, reached, InsideByEntry, GuardHasItsReleaser}
use Rattle.lock.proofs.Ground.Places.{place_far}
use Rattle.lock.proofs.Ground.Facts.{facts, facts_at, normal, normal_within, by_number}
use Rattle.lock.proofs.Order.Tickets.{no_tickets}
use Rattle.lock.proofs.Waiting.Counting.{tickets_of}
use Rattle.lock.proofs.Exclusion.{Excl, excl_fresh, excl_after, excl_inside}
use Rattle.lock.proofs.Order.Invariant.{Inv, inv_fresh, inv_after, inv_entry, inv_guard}
use Rattle.lock.proofs.Waiting.Stepping as Stepping
use Rattle.lock.proofs.Roof.Inside as Inside
use Rattle.lock.proofs.Waiting.Demand as Demand

pub never_two_inside : NeverTwoInside
never_two_inside = Inside.never_two_inside Excl excl_fresh excl_after excl_inside

pub never_two_inside_any_edition : NeverTwoInsideAnyEdition
never_two_inside_any_edition = Inside.never_two_inside_any_edition Excl excl_fresh excl_after excl_inside

pub nobody_later_enters : NobodyLaterEnters
nobody_later_enters = Demand.nobody_later_enters Inv inv_fresh inv_after inv_entry

pub others_enter_once : OthersEnterOnce
others_enter_once = Demand.others_once Inv inv_fresh inv_after inv_entry

pub waits_at_most : WaitsAtMost
waits_at_most = Demand.waits_at_most Inv inv_fresh inv_after inv_entry

pub nobody_overtakes : NobodyOvertakes
nobody_overtakes = Demand.nobody_overtakes Inv inv_fresh inv_after inv_entry

pub once_since_last_join : OnceSinceLastJoin
once_since_last_join = Demand.once_since_last_join Inv inv_fresh inv_after inv_entry

pub inside_by_entry : InsideByEntry
inside_by_entry e n calls c p h =
    Stepping.inside_by_entry (reached e n calls) c (Demand.rows_reached e n calls) p
    (subst (λ x. is_inside x p ≡ true) (Demand.run_last (fresh_state e n) calls c) h)

-- a place that fences is one of 19 to 22
fences_within : (m : ℕ) → (facts_at m).fences ≡ true → (19 ≤ m) × (m ≤ 22)
fences_within m =
    by_number (λ m. (facts_at m).fences ≡ true → (19 ≤ m) × (m ≤ 22)) m
    (λ within h.
    let same : normal m ≡ m = normal_within m within in
    let low : 19 ≤ normal m = leb-true 19 (normal m) (and_left (leb 19 (normal m)) (leb (normal m) 22) h) in
    let high : normal m ≤ 22 = leb-true (normal m) 22 (and_right (leb 19 (normal m)) (leb (normal m) 22) h) in
    (omega arith, omega arith))
    (λ far h. clash h (ap (λ k. (facts k).fences) (place_far m far)))

pub guard_has_its_releaser : GuardHasItsReleaser
guard_has_its_releaser e n calls q ordered set =
    let s = reached e n calls in
    let v : Inv s (tickets_of (fresh_state e n) no_tickets calls) =
    Demand.inv_run Inv inv_fresh inv_after inv_entry (fresh_state e n) no_tickets calls
    (inv_fresh e n ordered.edition ordered.least ordered.most) in
    let found = inv_guard s (tickets_of (fresh_state e n) no_tickets calls) q v set in
    let at = fences_within (row s found.0).place found.1 in
    record { who = found.0; from = at.0; until = at.1; succ = found.2 }
