-- The second read of next: what specs/Reread says of the guarded edition, of the drawn one, and of place 28.
--     second_read_finds_the_same     from the invariant of Order; who does not step keeps succ and nx
--     second_read_is_sharp           computed: the premise can be met, and the drawn edition reads another
--     lost_changes_nothing, lost_stays_lost, nobody_enters_once_lost       place 28
--     lock_is_lost                   computed: schedules/lost_drawn
use Prim.Native.Nat.{ℕ, ◌≤◌, ◌<◌}
use mathlib.Core.Path.{◌≡◌, refl, sym, ap, subst, ◌∙◌}
use mathlib.Core.Bool.{Bool, true, false, ◌&&◌}
use mathlib.Core.List.{List, [], ◌∷◌, ◌++◌}
use native.Mathlib.Omega.{arith}
use lib.Dec.{eqb}
use lib.ListN.{length}
use borrow.Author.Tests.{eqb-true, lt-leb}
use Rattle.choice.proofs.Tests.{clash, and_left, and_right}
use Rattle.lock.specs.declared.Row.{Row}
use Rattle.lock.specs.declared.LockState.{LockState}
use Rattle.lock.specs.State.{processors, none, drawn, guarded, RP, fresh_state, with_place, row}
use Rattle.lock.specs.Table.{place_at, act, stepped}
use Rattle.lock.specs.Event.{happens}
use Rattle.lock.specs.Run.{Call, after, run, steps_of, enters, is_inside}
use Rattle.lock.specs.Count.{count_in, steps_in, all_entries_in}
use Rattle.lock.specs.Cases.{step, steps, raise}
use Rattle.lock.specs.Claims.{reached}
use Rattle.lock.specs.Reread.{takes, SameAtTake, AtLift, SameAtLift, SameOnceTaken, TakeLeadsToLift, SecondRead, SecondReadFindsTheSame, ReadsAnother, TakenMet, SecondReadIsSharp, lost_before, lost_since, lost_unread, is_lost, LostChangesNothing, LostStaysLost, NobodyEntersOnceLost, LockIsLost}
use Rattle.lock.proofs.Ground.Places.{lost_same}
use Rattle.lock.proofs.Order.Tickets.{no_tickets, is_ordered}
use Rattle.lock.proofs.Order.Invariant.{Inv, inv_fresh, inv_after, inv_entry, inv_at_take, inv_at_lift, inv_taken}
use Rattle.lock.proofs.Exclusion.{Excl, excl_fresh, excl_after, excl_inside, excl_lost}
use Rattle.lock.proofs.Waiting.Kept.{Cells, cells_self, cells_on}
use Rattle.lock.proofs.Waiting.Counting.{tickets_of, count_none, count_no}
use Rattle.lock.proofs.Waiting.Stepping.{by_step, there, whoever, anywhere, rows_stay, unmoved}
use Rattle.lock.proofs.Waiting.Demand as Demand
use Rattle.lock.proofs.Roof.Inside as Inside
use Rattle.lock.proofs.Roof.Opened.{computed}

-- ---- a second read in an ordered edition

-- who does not step in a run keeps its place and its private cells
unmoved_run :
    (s : LockState) (cs : List Call) (p : ℕ) → length s.rows ≡ processors → steps_in s cs p ≡ 0
    → ((row (run s cs) p).place ≡ (row s p).place) × Cells (row s p) (row (run s cs) p)
unfolding run steps_in
unmoved_run s [] p whole h = (refl, cells_self)
unmoved_run s (c ∷ cs) p whole h =
    let none = count_none (λ t d. steps_of t d p) s c cs h in
    let now = unmoved s c p whole none.0 in
    let later = unmoved_run (after s c) cs p (rows_stay s c whole) none.1 in
    (later.0 ∙ now.0, cells_on now.1 later.1)

-- who stands at 22 after a take stays so with its place and its private cells
lift_stays : {r q : Row} → q.place ≡ r.place → Cells r q → AtLift r → AtLift q
lift_stays at cells l =
    record {
      place = at ∙ l.place;
      some = λ z. l.some (sym cells.nx ∙ z);
      other = λ z. l.other (sym cells.nx ∙ z ∙ cells.succ);
    }

module _ (e n : ℕ) (ordered : is_ordered e ≡ true) (some : 1 ≤ n) (many : n ≤ processors) where
  inv : (calls : List Call) → Inv (reached e n calls) (tickets_of (fresh_state e n) no_tickets calls)
  inv calls =
      Demand.inv_run Inv inv_fresh inv_after inv_entry (fresh_state e n) no_tickets calls (inv_fresh e n ordered some many)

  at_take : SameAtTake e n
  at_take calls p at = inv_at_take (reached e n calls) _ p (inv calls) at

  at_lift : SameAtLift e n
  at_lift calls p l = inv_at_lift (reached e n calls) _ p (inv calls) l.place l.some l.other

  take_leads :
      (before : List Call) (take : Call) (p : ℕ) → takes (reached e n before) take p ≡ true
      → AtLift (row (after (reached e n before) take) p)
  unfolding takes
  take_leads before take p h =
      let s = reached e n before in
      let whole = Demand.rows_reached e n before in
      let r = row s p in
      let parked = eqb (row s r.succ).locked RP in
      let at : steps_of s take p && eqb r.place 21 ≡ true = and_left (steps_of s take p && eqb r.place 21) parked h in
      let steps : steps_of s take p ≡ true = and_left (steps_of s take p) (eqb r.place 21) at in
      by_step s take (λ still same. clash steps (still p))
      (λ k.
      let own : take.processor ≡ p = eqb-true take.processor p (sym (k.whose p) ∙ steps) in
      let w = inv_taken s _ p (inv before) (subst (λ q. q < length s.rows) own (there s take whole k))
      (eqb-true r.place 21 (and_right (steps_of s take p) (eqb r.place 21) at))
      (and_right (steps_of s take p && eqb r.place 21) parked h) in
      let led : row (after s take) p ≡ with_place r 22 = ap (λ t. row t p) (k.act ∙ ap (stepped s) own) ∙ w.0 in
      subst AtLift (sym led) (record { place = refl; some = w.1; other = w.2 }))

  leads : TakeLeadsToLift e n
  leads before take since p t =
      let fresh = fresh_state e n in
      let took = after (reached e n before) take in
      let still = unmoved_run took since p (rows_stay (reached e n before) take (Demand.rows_reached e n before))
      (subst (λ x. steps_in x since p ≡ 0) (Demand.run_last fresh before take) t.stands) in
      subst (λ x. AtLift (row x p)) (sym (Demand.run_middle fresh before take since))
      (lift_stays still.0 still.1 (take_leads before take p t.took))

  once_taken : SameOnceTaken e n
  once_taken before take since p t = at_lift (before ++ take ∷ since) p (leads before take since p t)

  second_read_same : SecondRead e n
  second_read_same = record { at_take = at_take; once_taken = once_taken; at_lift = at_lift; leads = leads }

pub second_read_finds_the_same : SecondReadFindsTheSame
second_read_finds_the_same n some many = second_read_same _ n refl some many

-- ---- the premise, and the drawn edition

-- guarded, N 3, as in lost_drawn: 0 takes the lock back from the fenced 1; 1 comes back, and the guard holds it at the gate
abbrev met_before : List Call
met_before = steps 0 4 ++ steps 1 8 ++ steps 2 6 ++ raise 1 ∷ steps 1 1 ++ steps 0 6

met : TakenMet guarded 3
unfolding computed takes steps_in
met =
    record {
      before = met_before;
      take = step 0;
      since = steps 1 4;
      p = 0;
      taken = record { took = refl; stands = refl };
      held = refl;
    }

-- lost_drawn: what 0 peeked is 2, what it will read is none
reads_another : ReadsAnother drawn 3 lost_unread
unfolding computed
reads_another = record { unread = refl; peeked = refl; finds = refl }

drawn_once_taken : SameOnceTaken drawn 3 → ⊥
unfolding computed takes steps_in
drawn_once_taken same =
    let two : none ≡ 2 = same lost_before (step 0) lost_since 0 (record { took = refl; stands = refl }) in omega arith

-- halo_drawn_three, its first calls: 0 has peeked and is slow; 2 has claimed, and 1 has come back and cleared its next
drawn_at_take : SameAtTake drawn 3 → ⊥
unfolding computed
drawn_at_take same =
    let two : none ≡ 2 =
    same (steps 0 3 ++ steps 1 7 ++ steps 2 5 ++ raise 1 ∷ steps 1 1 ++ steps 0 5 ++ steps 2 2 ++ steps 1 4) 0 refl in
    omega arith

pub second_read_is_sharp : SecondReadIsSharp
second_read_is_sharp =
    record {
      met = met;
      drawn_reads_another = reads_another;
      drawn_once_taken = drawn_once_taken;
      drawn_at_take = drawn_at_take;
    }

-- ---- place 28

lost_step : (s : LockState) (p : ℕ) → is_lost s p ≡ true → stepped s p ≡ s
unfolding stepped
lost_step s p h = ap (λ m. act (place_at m) s p) (eqb-true (row s p).place 28 h) ∙ sym (lost_same s p)

pub lost_changes_nothing : LostChangesNothing
unfolding happens
lost_changes_nothing s p fit below h = simp (fit, lt-leb s.n p below, lost_step s p h)

lost_after : (s : LockState) (c : Call) (p : ℕ) → length s.rows ≡ processors → is_lost s p ≡ true → is_lost (after s c) p ≡ true
lost_after s c p whole h =
    by_step s c (λ still same. ap (λ m. eqb m 28) (same.places p) ∙ h)
    (λ k.
    whoever s c whole k (λ q. is_lost s q ≡ true → is_lost (after s c) q ≡ true)
    (λ own. ap (λ t. is_lost t c.processor) (k.act ∙ lost_step s c.processor own) ∙ own)
    (λ q other quiet lost. ap (λ m. eqb m 28) ((anywhere s c whole k).others q other) ∙ lost) p h)

pub lost_stays_lost : LostStaysLost
unfolding run
lost_stays_lost s [] p whole h = h
lost_stays_lost s (c ∷ cs) p whole h = lost_stays_lost (after s c) cs p (rows_stay s c whole) (lost_after s c p whole h)

-- an entry would leave the token with two
lost_no_entry :
    (s : LockState) (c : Call) (p : ℕ) (b : Bool) → Excl s → length s.rows ≡ processors → is_lost s p ≡ true
    → enters s c c.processor ≡ b
    → enters s c c.processor ≡ false
unfolding enters is_inside
lost_no_entry s c p false x whole h e = e
lost_no_entry s c p true x whole h e =
    let q = c.processor in
    let t = after s c in
    let lost = lost_after s c p whole h in
    let in-nine = and_right (steps_of s c q) (eqb (row t q).place 9) e in
    let one : p ≡ q = excl_lost t p q (excl_after s c x) lost in-nine in
    let nine : (row t q).place ≡ 9 = eqb-true (row t q).place 9 in-nine in
    let other : (row t q).place ≡ 28 = ap (λ i. (row t i).place) (sym one) ∙ eqb-true (row t p).place 28 lost in
    absurd (omega arith)

lost_no_entries :
    (s : LockState) (cs : List Call) (p : ℕ) → Excl s → length s.rows ≡ processors → is_lost s p ≡ true
    → all_entries_in s cs ≡ 0
unfolding all_entries_in count_in
lost_no_entries s [] p x whole h = refl
lost_no_entries s (c ∷ cs) p x whole h =
    count_no (λ t d. enters t d d.processor) s c cs (lost_no_entry s c p (enters s c c.processor) x whole h refl)
    ∙ lost_no_entries (after s c) cs p (excl_after s c x) (rows_stay s c whole) (lost_after s c p whole h)

pub nobody_enters_once_lost : NobodyEntersOnceLost
nobody_enters_once_lost e n calls p more range h =
    lost_no_entries (reached e n calls) more p (Inside.excl_reached Excl excl_fresh excl_after excl_inside e n calls range)
    (Demand.rows_reached e n calls) h

pub lock_is_lost : LockIsLost
unfolding computed
lock_is_lost = refl
