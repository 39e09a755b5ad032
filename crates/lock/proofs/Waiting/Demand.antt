-- Demand 3 from the invariant: the claims of specs/Claims, given an invariant of states and tickets that holds at
-- fresh, is kept by every call, and says that who enters holds the smallest ticket of all members. In order: a run
-- keeps the invariant; the ticket of a join; the order as a number of a call; the demand's three claims; the order
-- and once with interrupts.
use Prim.Native.Nat.{ℕ, suc, ◌-◌, ◌≤◌, ◌<◌}
use native.Mathlib.Omega.{arith}
use mathlib.Core.Path.{◌≡◌, refl, sym, ap, ◌∙◌, subst}
use mathlib.Core.Bool.{Bool, true, false, true≢false}
use mathlib.Core.List.{List, [], ◌∷◌, ◌++◌, append_assoc}
use lib.ListN.{length}
use Rattle.lock.specs.declared.LockState.{LockState}
use Rattle.lock.specs.State.{processors, is_old, fresh_state}
use Rattle.lock.specs.Run.{Call, after, run, joins, enters}
use Rattle.lock.specs.Count.{joins_in, entries_in, interrupts_in, all_entries_in, latest_join}
use Rattle.lock.specs.Claims.{reached, Ordered, Waits, waited, NobodyLaterEnters, OthersEnterOnce, WaitsAtMost, LastJoin, NobodyOvertakes, OnceSinceLastJoin}
use Rattle.lock.proofs.Order.Tickets.{Tickets, no_tickets, ticketed, is_member, is_ordered, ordered_queue}
use Rattle.lock.proofs.Waiting.Counting.{run_append, tickets_of, count_no, latest_without_joins, latest_within}
use Rattle.lock.proofs.Waiting.Stepping.{Queue, queue_after, rows_stay, size_after, joins_own, joins_below}
use Rattle.lock.proofs.Waiting.Staying.{StaysIn, queued_between, queued_to_entry, ticket_joined}
use Rattle.lock.proofs.Waiting.Standing.{Standing, nobody_behind_enters, others_enter_once, entries_at_most, queued_no_entry_at}

-- ---- a run keeps the rows and N

pub rows_run : (s : LockState) (cs : List Call) → length s.rows ≡ processors → length (run s cs).rows ≡ processors
unfolding run
rows_run s [] h = h
rows_run s (c ∷ cs) h = rows_run (after s c) cs (rows_stay s c h)

pub size_run : (s : LockState) (cs : List Call) → length s.rows ≡ processors → (run s cs).n ≡ s.n
unfolding run
size_run s [] h = refl
size_run s (c ∷ cs) h = size_run (after s c) cs (rows_stay s c h) ∙ size_after s c h

fresh_rows : (e n : ℕ) → length (fresh_state e n).rows ≡ processors
unfolding fresh_state
fresh_rows e n = refl

fresh_size : (e n : ℕ) → (fresh_state e n).n ≡ n
unfolding fresh_state
fresh_size e n = refl

fresh_edition : (e n : ℕ) → (fresh_state e n).edition ≡ e
unfolding fresh_state
fresh_edition e n = refl

-- one call at the end, and one in the middle
pub run_last : (s : LockState) (cs : List Call) (c : Call) → run s (cs ++ c ∷ []) ≡ after (run s cs) c
unfolding run
run_last s cs c = run_append s cs (c ∷ [])

pub run_middle :
    (s : LockState) (cs : List Call) (c : Call) (ds : List Call) → run s (cs ++ c ∷ ds) ≡ run (after (run s cs) c) ds
unfolding run
run_middle s cs c ds = run_append s cs (c ∷ ds)

-- the join is p's, so it is no other's
join_of_one :
    (s : LockState) (c : Call) (p q : ℕ) (b : Bool) → joins s c q ≡ b → joins s c p ≡ true → (q ≡ p → ⊥)
    → joins s c q ≡ false
join_of_one s c p q true e h other = absurd (other (sym (joins_own s c q e) ∙ joins_own s c p h))
join_of_one s c p q false e h other = e

-- q has made no join since the call `join`, which is p's: so its latest join has a smaller number
latest_before :
    (s : LockState) (before : List Call) (join : Call) (seen : List Call) (entry : Call) (q : ℕ)
    → joins (run s before) join q ≡ false
    → joins_in (after (run s before) join) (seen ++ entry ∷ []) q ≡ 0
    → latest_join s (before ++ join ∷ seen ++ entry ∷ []) q < suc (length before)
unfolding joins_in
latest_before s before join seen entry q other none =
    let within : latest_join s before q ≤ length before = latest_within s before q in
    let same : latest_join s (before ++ join ∷ seen ++ entry ∷ []) q ≡ latest_join s before q =
    ap (λ cs. latest_join s cs q) (append_assoc before (join ∷ seen) (entry ∷ []))
    ∙ latest_without_joins s before (join ∷ (seen ++ entry ∷ [])) q
    (count_no (λ t d. joins t d q) (run s before) join (seen ++ entry ∷ []) other ∙ none) in
    omega arith

-- the state after the calls `before` and the join, and the tickets then
abbrev joined_state : ℕ → ℕ → List Call → Call → LockState
joined_state e n before join = after (reached e n before) join

abbrev tickets_before : ℕ → ℕ → List Call → Tickets
tickets_before e n before = tickets_of (fresh_state e n) no_tickets before

abbrev tickets_joined : ℕ → ℕ → List Call → Call → Tickets
tickets_joined e n before join = ticketed (reached e n before) (tickets_before e n before) join

pub rows_reached : (e n : ℕ) (before : List Call) → length (reached e n before).rows ≡ processors
rows_reached e n before = rows_run (fresh_state e n) before (fresh_rows e n)

-- an edition that is not that of the old boards has a queue
queue_run : (s : LockState) (cs : List Call) → Queue s → Queue (run s cs)
unfolding run
queue_run s [] h = h
queue_run s (c ∷ cs) h = queue_run (after s c) cs (queue_after s c h)

pub queue_reached : (e n : ℕ) (before : List Call) → is_old e ≡ false → Queue (reached e n before)
queue_reached e n before other =
    queue_run (fresh_state e n) before
    (record { rows = fresh_rows e n; edition = ap is_old (fresh_edition e n) ∙ other })

queue_joined : (e n : ℕ) (before : List Call) (join : Call) → Ordered e n → Queue (joined_state e n before join)
queue_joined e n before join ordered =
    queue_after (reached e n before) join (queue_reached e n before (ordered_queue e ordered.edition))

size_joined : (e n : ℕ) (before : List Call) (join : Call) → (joined_state e n before join).n ≡ n
size_joined e n before join =
    size_after (reached e n before) join (rows_reached e n before)
    ∙ size_run (fresh_state e n) before (fresh_rows e n) ∙ fresh_size e n

-- where p waits without an interrupt, and up to an entry after its last join, it is queued
waiter_queued :
    (e n : ℕ) (before : List Call) (join : Call) (later : List Call) (p : ℕ) → Waits e n before join later p
    → StaysIn (joined_state e n before join) (waited e n before join later p) p
waiter_queued e n before join later p w =
    queued_between (reached e n before) join later p (rows_reached e n before) w.joined
    (subst (λ s. interrupts_in s (waited e n before join later p) p ≡ 0) (run_last (fresh_state e n) before join)
    w.uninterrupted)

last_join_queued :
    (e n : ℕ) (before : List Call) (join : Call) (wait : List Call) (entry : Call) (p : ℕ)
    → LastJoin e n before join wait entry p
    → StaysIn (joined_state e n before join) wait p
last_join_queued e n before join wait entry p l =
    queued_to_entry (joined_state e n before join) wait entry p
    (queue_joined e n before join l.ordered)
    (subst (λ s. joins_in s (wait ++ entry ∷ []) p ≡ 0) (run_last (fresh_state e n) before join) l.last)
    (subst (λ s. enters s entry p ≡ true) (run_middle (fresh_state e n) before join wait) l.entered)

module _
    (Inv : LockState → Tickets → Type 0)
    (inv_fresh : (e n : ℕ) → is_ordered e ≡ true → 1 ≤ n → n ≤ processors → Inv (fresh_state e n) no_tickets)
    (inv_after : (s : LockState) (g : Tickets) (c : Call) → Inv s g → Inv (after s c) (ticketed s g c))
    (inv_entry :
    (s : LockState) (g : Tickets) (c : Call) (e q : ℕ) → Inv s g → enters s c e ≡ true → is_member (after s c) q ≡ true
    → (q ≡ e → ⊥) → (ticketed s g c).latest e < (ticketed s g c).latest q) where
  pub inv_run : (s : LockState) (g : Tickets) (cs : List Call) → Inv s g → Inv (run s cs) (tickets_of s g cs)
  unfolding run tickets_of
  inv_run s g [] h = h
  inv_run s g (c ∷ cs) h = inv_run (after s c) (ticketed s g c) cs (inv_after s g c h)

  -- p has joined, after the calls `before` of an ordered edition
  module _
      (e n : ℕ) (before : List Call) (join : Call) (p : ℕ)
      (ordered : Ordered e n) (joined : joins (reached e n before) join p ≡ true) where
    standing :
        Standing Inv inv_after inv_entry (joined_state e n before join) (tickets_joined e n before join) p
        (tickets_before e n before).count
    standing =
        let inv : Inv (reached e n before) (tickets_before e n before) =
        inv_run (fresh_state e n) no_tickets before
        (inv_fresh e n ordered.edition ordered.least ordered.most) in
        let new :
        ((tickets_joined e n before join).latest p ≡ (tickets_before e n before).count)
        × ((tickets_joined e n before join).count ≡ suc (tickets_before e n before).count) =
        ticket_joined (reached e n before) (tickets_before e n before) join p joined in
        record {
          inv = inv_after (reached e n before) (tickets_before e n before) join inv;
          whole = queue_joined e n before join ordered;
          ticket = new.0;
          taken = omega (arith, new.1);
        }

    -- while p is queued: the order, at most once, and the bound
    order :
        (seen : List Call) (entry : Call) (unseen : List Call) (q : ℕ)
        → StaysIn (joined_state e n before join) (seen ++ entry ∷ unseen) p
        → enters (reached e n (before ++ join ∷ seen)) entry q ≡ true
        → latest_join (fresh_state e n) (before ++ join ∷ seen ++ entry ∷ []) q < suc (length before)
    order seen entry unseen q queued entered =
        let there : enters (run (joined_state e n before join) seen) entry q ≡ true =
        subst (λ s. enters s entry q ≡ true) (run_middle (fresh_state e n) before join seen) entered in
        let waits : enters (run (joined_state e n before join) seen) entry p ≡ false =
        queued_no_entry_at (joined_state e n before join) seen entry unseen p queued in
        let other : joins (reached e n before) join q ≡ false =
        join_of_one (reached e n before) join p q (joins (reached e n before) join q) refl joined
        (λ f. true≢false (sym there ∙ ap (λ i. enters (run (joined_state e n before join) seen) entry i) f ∙ waits)) in
        latest_before (fresh_state e n) before join seen entry q other
        (nobody_behind_enters Inv inv_after inv_entry (joined_state e n before join)
        (tickets_joined e n before join) seen entry unseen p
        (tickets_before e n before).count q standing queued there)

    once :
        (wait : List Call) (q : ℕ) → StaysIn (joined_state e n before join) wait p
        → entries_in (reached e n (before ++ join ∷ [])) wait q ≤ 1
    once wait q queued =
        subst (λ s. entries_in s wait q ≤ 1) (sym (run_last (fresh_state e n) before join))
        (others_enter_once Inv inv_after inv_entry (joined_state e n before join) (tickets_joined e n before join) wait p
        (tickets_before e n before).count q standing queued)

    bound :
        (wait : List Call) → StaysIn (joined_state e n before join) wait p
        → all_entries_in (reached e n (before ++ join ∷ [])) wait ≤ n - 1
    bound wait queued =
        let below : p < (joined_state e n before join).n =
        subst (λ m. p < m) (sym (size_after (reached e n before) join (rows_reached e n before)))
        (joins_below (reached e n before) join p joined) in
        subst (λ s. all_entries_in s wait ≤ n - 1) (sym (run_last (fresh_state e n) before join))
        (subst (λ m. all_entries_in (joined_state e n before join) wait ≤ m - 1) (size_joined e n before join)
        (entries_at_most Inv inv_after inv_entry (joined_state e n before join) (tickets_joined e n before join) wait p
        (tickets_before e n before).count standing queued below))

  pub nobody_later_enters : NobodyLaterEnters
  nobody_later_enters e n before join later p w seen entry unseen q split entered =
      order e n before join p w.ordered w.joined seen entry unseen q
      (subst (λ cs. StaysIn (joined_state e n before join) cs p) split (waiter_queued e n before join later p w)) entered

  pub others_once : OthersEnterOnce
  others_once e n before join later p w q other =
      once e n before join p w.ordered w.joined (waited e n before join later p) q
      (waiter_queued e n before join later p w)

  pub waits_at_most : WaitsAtMost
  waits_at_most e n before join later p w =
      bound e n before join p w.ordered w.joined (waited e n before join later p)
      (waiter_queued e n before join later p w)

  pub nobody_overtakes : NobodyOvertakes
  nobody_overtakes e n before join wait entry p l seen other unseen q split entered =
      order e n before join p l.ordered l.joined seen other unseen q
      (subst (λ cs. StaysIn (joined_state e n before join) cs p) split
      (last_join_queued e n before join wait entry p l)) entered

  pub once_since_last_join : OnceSinceLastJoin
  once_since_last_join e n before join wait entry p l q =
      once e n before join p l.ordered l.joined wait q (last_join_queued e n before join wait entry p l)
