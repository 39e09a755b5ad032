-- Who stays in the queue through some calls (StaysIn): it makes no join and no entry, and is a member after each call.
-- Two ways to see it: one that waits and takes no interrupt (queued_waiting), and one that enters at the end without
-- having joined again, whatever interrupts it took (queued_to_entry). And the tickets that the calls give out: a
-- join's is the greatest so far (ticket_joined, ticket_later), and a ticket changes only at an own join
-- (ticket_kept).
use Prim.Native.Nat.{ℕ, suc, ◌≤◌, ◌<◌}
use native.Mathlib.Omega.{arith}
use mathlib.Core.Path.{◌≡◌, refl, sym, ap, ◌∙◌, subst}
use mathlib.Core.Bool.{Bool, true, false, true≢false, cond}
use mathlib.Core.List.{List, [], ◌∷◌, ◌++◌}
use lib.ListN.{length}
use lib.Dec.{eqb}
use borrow.Author.Tests.{eqb-true, eq-eqb}
use Rattle.lock.specs.declared.LockState.{LockState}
use Rattle.lock.specs.State.{processors}
use Rattle.lock.specs.Run.{Call, after, run, joins, enters, interrupted}
use Rattle.lock.specs.Count.{joins_in, entries_in, interrupts_in, between, until_entry}
use Rattle.lock.proofs.Order.Tickets.{Tickets, ticketed, is_member}
use Rattle.lock.proofs.Waiting.Counting.{count_none, until_entry_has_none}
use Rattle.lock.proofs.Waiting.Stepping.{Queue, queue_after, joins_own, rows_stay}
use Rattle.lock.proofs.Waiting.Moves.{is_waiting, is_spent, entered_is_member, entered_is_spent, spent_stays, joined_waits, waiter_stays, waiter_is_member, waiter_does_not_join}
use Rattle.lock.proofs.Waiting.Outsiders.{outsider_stays}

abbrev pub StaysIn : LockState → List Call → ℕ → Type 0
StaysIn s [] p = Unit {0}
StaysIn s (c ∷ cs) p =
    (joins s c p ≡ false) × (enters s c p ≡ false) × (is_member (after s c) p ≡ true) × StaysIn (after s c) cs p

-- ---- one that waits

pub queued_waiting : (s : LockState) (cs : List Call) (p : ℕ) → length s.rows ≡ processors → is_waiting s p ≡ true
    → entries_in s cs p ≡ 0 → interrupts_in s cs p ≡ 0 → StaysIn s cs p
unfolding entries_in interrupts_in
queued_waiting s [] p whole h out calm = tt
queued_waiting s (c ∷ cs) p whole h out calm =
    let none : (enters s c p ≡ false) × (entries_in (after s c) cs p ≡ 0) =
    count_none (λ t d. enters t d p) s c cs out in
    let quiet : (interrupted s c p ≡ false) × (interrupts_in (after s c) cs p ≡ 0) =
    count_none (λ t d. interrupted t d p) s c cs calm in
    let still : is_waiting (after s c) p ≡ true = waiter_stays s c whole p h none.0 quiet.0 in (
      waiter_does_not_join s c p h,
      none.0,
      waiter_is_member (after s c) p still,
      queued_waiting (after s c) cs p (rows_stay s c whole) still none.1 quiet.1,
    )

queued_between_by : (s : LockState) (join : Call) (later : List Call) (p : ℕ) (b : Bool) → enters s join p ≡ b
    → length s.rows ≡ processors → joins s join p ≡ true
    → interrupts_in (after s join) (between s join later p) p ≡ 0 → StaysIn (after s join) (between s join later p) p
unfolding between
queued_between_by s join later p true e whole h calm =
    subst (λ b. StaysIn (after s join) (cond b [] (until_entry (after s join) later p)) p) (sym e) tt
queued_between_by s join later p false e whole h calm =
    let off : cond (enters s join p) [] (until_entry (after s join) later p) ≡ until_entry (after s join) later p =
    ap (λ b. cond b [] (until_entry (after s join) later p)) e in
    subst (λ cs. StaysIn (after s join) cs p) (sym off)
    (queued_waiting (after s join) (until_entry (after s join) later p) p (rows_stay s join whole)
    (joined_waits s join whole p h e)
    (until_entry_has_none (after s join) later p) (subst (λ cs. interrupts_in (after s join) cs p ≡ 0) off calm))

-- between its join and its entry, where it takes no interrupt
pub queued_between :
    (s : LockState) (join : Call) (later : List Call) (p : ℕ) → length s.rows ≡ processors → joins s join p ≡ true
    → interrupts_in (after s join) (between s join later p) p ≡ 0 → StaysIn (after s join) (between s join later p) p
queued_between s join later p whole h calm = queued_between_by s join later p (enters s join p) refl whole h calm

-- ---- one that enters at the end

-- who is spent, or not a member, does not enter without a join
spent_no_entry :
    (s : LockState) (cs : List Call) (entry : Call) (p : ℕ) → Queue s → is_spent s p ≡ true
    → joins_in s (cs ++ entry ∷ []) p ≡ 0 → enters (run s cs) entry p ≡ false
unfolding run joins_in
spent_no_entry s [] entry p whole h none =
    (spent_stays s entry whole p h (count_none (λ t d. joins t d p) s entry [] none).0).1
spent_no_entry s (c ∷ cs) entry p whole h none =
    let unjoined : (joins s c p ≡ false) × (joins_in (after s c) (cs ++ entry ∷ []) p ≡ 0) =
    count_none (λ t d. joins t d p) s c (cs ++ entry ∷ []) none in
    spent_no_entry (after s c) cs entry p (queue_after s c whole) (spent_stays s c whole p h unjoined.0).0
    unjoined.1

outsider_no_entry_by :
    (s : LockState) (entry : Call) (p : ℕ) (b : Bool) → enters s entry p ≡ b → is_member (after s entry) p ≡ false
    → enters s entry p ≡ false
outsider_no_entry_by s entry p true e h = absurd (true≢false (sym (entered_is_member s entry p e) ∙ h))
outsider_no_entry_by s entry p false e h = e

outsider_no_entry :
    (s : LockState) (cs : List Call) (entry : Call) (p : ℕ) → Queue s → is_member s p ≡ false
    → joins_in s (cs ++ entry ∷ []) p ≡ 0 → enters (run s cs) entry p ≡ false
unfolding run joins_in
outsider_no_entry s [] entry p whole h none =
    outsider_no_entry_by s entry p (enters s entry p) refl
    (outsider_stays s entry whole p h (count_none (λ t d. joins t d p) s entry [] none).0)
outsider_no_entry s (c ∷ cs) entry p whole h none =
    let unjoined : (joins s c p ≡ false) × (joins_in (after s c) (cs ++ entry ∷ []) p ≡ 0) =
    count_none (λ t d. joins t d p) s c (cs ++ entry ∷ []) none in
    outsider_no_entry (after s c) cs entry p (queue_after s c whole) (outsider_stays s c whole p h unjoined.0)
    unjoined.1

module _ (s : LockState) (c : Call) (cs : List Call) (entry : Call) (p : ℕ) (whole : Queue s)
    (none : joins_in (after s c) (cs ++ entry ∷ []) p ≡ 0) (entered : enters (run (after s c) cs) entry p ≡ true) where
  not_yet : (b : Bool) → enters s c p ≡ b → enters s c p ≡ false
  not_yet true e =
      absurd
      (true≢false (sym entered ∙ spent_no_entry (after s c) cs entry p (queue_after s c whole)
      (entered_is_spent s c p e) none))
  not_yet false e = e

  still_in : (b : Bool) → is_member (after s c) p ≡ b → is_member (after s c) p ≡ true
  still_in true e = e
  still_in false e =
      absurd (true≢false (sym entered ∙ outsider_no_entry (after s c) cs entry p (queue_after s c whole) e none))

pub queued_to_entry : (s : LockState) (cs : List Call) (entry : Call) (p : ℕ) → Queue s
    → joins_in s (cs ++ entry ∷ []) p ≡ 0 → enters (run s cs) entry p ≡ true → StaysIn s cs p
unfolding run joins_in
queued_to_entry s [] entry p whole none entered = tt
queued_to_entry s (c ∷ cs) entry p whole none entered =
    let unjoined : (joins s c p ≡ false) × (joins_in (after s c) (cs ++ entry ∷ []) p ≡ 0) =
    count_none (λ t d. joins t d p) s c (cs ++ entry ∷ []) none in (
      unjoined.0,
      not_yet s c cs entry p whole unjoined.1 entered (enters s c p) refl,
      still_in s c cs entry p whole unjoined.1 entered (is_member (after s c) p) refl,
      queued_to_entry (after s c) cs entry p (queue_after s c whole) unjoined.1 entered,
    )

-- ---- tickets

module _ (s : LockState) (g : Tickets) (c : Call) where
  ticketed_yes : joins s c c.processor ≡ true
      → ticketed s g c ≡ record {
        count = suc g.count;
        latest = λ q. cond (eqb q c.processor) g.count
            (g.latest q);
      }
  unfolding ticketed
  ticketed_yes e =
      ap
      (λ b. cond b (record {
        count = suc g.count;
        latest = λ q. cond (eqb q c.processor) g.count
            (g.latest q);
      }) g) e

  ticketed_no : joins s c c.processor ≡ false → ticketed s g c ≡ g
  unfolding ticketed
  ticketed_no e =
      ap
      (λ b. cond b (record {
        count = suc g.count;
        latest = λ q. cond (eqb q c.processor) g.count
            (g.latest q);
      }) g) e

  pub ticket_joined :
      (q : ℕ) → joins s c q ≡ true
      → ((ticketed s g c).latest q ≡ g.count) × ((ticketed s g c).count ≡ suc g.count)
  ticket_joined q h =
      let own : c.processor ≡ q = joins_own s c q h in
      let e : joins s c c.processor ≡ true = subst (λ i. joins s c i ≡ true) (sym own) h in (
        ap (λ t. t.latest q) (ticketed_yes e) ∙ ap (λ b. cond b g.count (g.latest q))
            (eq-eqb q c.processor (sym own)),
        ap (λ t. t.count) (ticketed_yes e),
      )

  -- by whether the call is a join, and whether it is q's
  kept_by : (q : ℕ) (a b : Bool) → joins s c c.processor ≡ a → eqb q c.processor ≡ b → joins s c q ≡ false
      → ((ticketed s g c).latest q ≡ g.latest q) × (g.count ≤ (ticketed s g c).count)
  kept_by q false b e f h = (
    ap (λ t. t.latest q) (ticketed_no e),
    let same : (ticketed s g c).count ≡ g.count = ap (λ t. t.count)
        (ticketed_no e) in omega arith,
  )
  kept_by q true true e f h =
      absurd (true≢false (sym e ∙ ap (λ i. joins s c i) (sym (eqb-true q c.processor f)) ∙ h))
  kept_by q true false e f h = (
    ap (λ t. t.latest q) (ticketed_yes e) ∙ ap (λ b. cond b g.count (g.latest q)) f,
    let more : (ticketed s g c).count ≡ suc g.count = ap (λ t. t.count) (ticketed_yes e) in omega arith,
  )

  pub ticket_kept :
      (q : ℕ) → joins s c q ≡ false → ((ticketed s g c).latest q ≡ g.latest q) × (g.count ≤ (ticketed s g c).count)
  ticket_kept q h = kept_by q (joins s c c.processor) (eqb q c.processor) refl refl h

  later_by : (q k : ℕ) (b : Bool) → joins s c q ≡ b → k < g.count → k < g.latest q → k < (ticketed s g c).latest q
  later_by q k true e h l = let new : (ticketed s g c).latest q ≡ g.count = (ticket_joined q e).0 in omega arith
  later_by q k false e h l = let old : (ticketed s g c).latest q ≡ g.latest q = (ticket_kept q e).0 in omega arith

  -- a ticket later than k stays so
  pub ticket_later : (q k : ℕ) → k < g.count → k < g.latest q → k < (ticketed s g c).latest q
  ticket_later q k h l = later_by q k (joins s c q) refl h l
