-- The argument. p stands in the queue with ticket k. By the invariant whoever enters has the smallest ticket of all
-- members, so who holds a later ticket than k does not enter while p is queued (behind_never_enters). From that:
--     nobody_behind_enters     whoever enters has made no join since p's
--     others_enter_once        every other processor enters at most once: after an entry it is spent, and its next join is behind p
--     entries_at_most          so there are at most N - 1 entries
-- The invariant and its two laws are parameters here; proofs/Claimed gives them.
use Prim.Native.Nat.{ℕ, suc, ◌-◌, ◌≤◌, ◌<◌}
use native.Mathlib.Omega.{arith}
use mathlib.Core.Path.{◌≡◌, refl, sym, ap, ◌∙◌, subst}
use mathlib.Core.Bool.{Bool, true, false, true≢false}
use mathlib.Core.List.{List, [], ◌∷◌, ◌++◌}
use lib.ListN.{length}
use Rattle.lock.specs.declared.LockState.{LockState}
use Rattle.lock.specs.State.{processors}
use Rattle.lock.specs.Run.{Call, after, run, joins, enters}
use Rattle.lock.specs.Count.{count_in, joins_in, entries_in, all_entries_in}
use Rattle.lock.proofs.Order.Tickets.{Tickets, ticketed, is_member}
use Rattle.lock.proofs.Waiting.Counting.{count_yes, count_no, count_grows, count_there, total, total_mono, total_raised, total_bound}
use Rattle.lock.proofs.Waiting.Stepping.{Queue, queue_after, rows_stay, size_after, enters_below}
use Rattle.lock.proofs.Waiting.Moves.{is_spent, entered_is_spent, spent_stays}
use Rattle.lock.proofs.Waiting.Staying.{StaysIn, ticket_joined, ticket_kept, ticket_later}

-- the entries of the whole run are those of the processors below N, added up
module _ (n : ℕ) where
  entries_total_by : (s : LockState) (c : Call) (cs : List Call) (b : Bool) → enters s c c.processor ≡ b → s.n ≡ n
      → all_entries_in (after s c) cs ≤ total n (entries_in (after s c) cs) → all_entries_in s (c ∷ cs) ≤ total n
      (entries_in s (c ∷ cs))
  unfolding all_entries_in entries_in
  entries_total_by s c cs true e size h =
      let more : all_entries_in s (c ∷ cs) ≡ suc (all_entries_in (after s c) cs) =
      count_yes (λ t d. enters t d d.processor) s c cs e in
      let own : entries_in s (c ∷ cs) c.processor ≡ suc (entries_in (after s c) cs c.processor) =
      count_yes (λ t d. enters t d c.processor) s c cs e in
      let up : total n (entries_in (after s c) cs) < total n (entries_in s (c ∷ cs)) =
      total_raised n (entries_in (after s c) cs) (entries_in s (c ∷ cs)) c.processor
      (λ q. count_grows (λ t d. enters t d q) s c cs) (omega arith)
      (subst (λ m. c.processor < m) size (enters_below s c c.processor e)) in
      omega arith
  entries_total_by s c cs false e size h =
      let same : all_entries_in s (c ∷ cs) ≡ all_entries_in (after s c) cs =
      count_no (λ t d. enters t d d.processor) s c cs e in
      let up : total n (entries_in (after s c) cs) ≤ total n (entries_in s (c ∷ cs)) =
      total_mono n (entries_in (after s c) cs) (entries_in s (c ∷ cs))
      (λ q. count_grows (λ t d. enters t d q) s c cs) in
      omega arith

  entries_total :
      (s : LockState) (cs : List Call) → length s.rows ≡ processors → s.n ≡ n
      → all_entries_in s cs ≤ total n (entries_in s cs)
  unfolding all_entries_in count_in
  entries_total s [] whole size = omega arith
  entries_total s (c ∷ cs) whole size =
      entries_total_by s c cs (enters s c c.processor) refl size
      (entries_total (after s c) cs (rows_stay s c whole) (size_after s c whole ∙ size))

-- while p is queued it does not enter
pub queued_no_entry : (s : LockState) (cs : List Call) (p : ℕ) → StaysIn s cs p → entries_in s cs p ≡ 0
unfolding entries_in count_in
queued_no_entry s [] p h = refl
queued_no_entry s (c ∷ cs) p h = count_no (λ t d. enters t d p) s c cs h.1 ∙ queued_no_entry (after s c) cs p h.3

pub queued_no_entry_at :
    (s : LockState) (seen : List Call) (c : Call) (unseen : List Call) (p : ℕ) → StaysIn s (seen ++ c ∷ unseen) p
    → enters (run s seen) c p ≡ false
unfolding run
queued_no_entry_at s [] c unseen p h = h.1
queued_no_entry_at s (d ∷ seen) c unseen p h = queued_no_entry_at (after s d) seen c unseen p h.3

module _
    (Inv : LockState → Tickets → Type 0)
    (inv_after : (s : LockState) (g : Tickets) (c : Call) → Inv s g → Inv (after s c) (ticketed s g c))
    (inv_entry :
    (s : LockState) (g : Tickets) (c : Call) (e q : ℕ) → Inv s g → enters s c e ≡ true → is_member (after s c) q ≡ true
    → (q ≡ e → ⊥) → (ticketed s g c).latest e < (ticketed s g c).latest q) where
  -- p holds ticket k, which has been given out
  pub record Standing (s : LockState) (g : Tickets) (p k : ℕ) : Type 0 where
    pub inv : Inv s g
    pub whole : Queue s
    pub ticket : g.latest p ≡ k
    pub taken : k < g.count

  standing_after :
      (s : LockState) (g : Tickets) (c : Call) (p k : ℕ) → Standing s g p k → joins s c p ≡ false
      → Standing (after s c) (ticketed s g c) p k
  standing_after s g c p k h none =
      let kept : ((ticketed s g c).latest p ≡ g.latest p) × (g.count ≤ (ticketed s g c).count) =
      ticket_kept s g c p none in
      record {
        inv = inv_after s g c h.inv;
        whole = queue_after s c h.whole;
        ticket = kept.0 ∙ h.ticket;
        taken = omega (arith, kept.1, h.taken);
      }

  -- whoever enters by a call after which p is a member has an earlier ticket
  earlier :
      (s : LockState) (g : Tickets) (c : Call) (cs : List Call) (p k q : ℕ) → Standing s g p k → StaysIn s (c ∷ cs) p
      → enters s c q ≡ true → (ticketed s g c).latest q < k
  earlier s g c cs p k q h w e =
      let before : (ticketed s g c).latest q < (ticketed s g c).latest p =
      inv_entry s g c q p h.inv e w.2 (λ f. true≢false (sym e ∙ ap (λ i. enters s c i) (sym f) ∙ w.1)) in
      let kept : (ticketed s g c).latest p ≡ g.latest p = (ticket_kept s g c p w.0).0 in
      let is : g.latest p ≡ k = h.ticket in
      omega arith

  behind_by :
      (s : LockState) (g : Tickets) (c : Call) (cs : List Call) (p k q : ℕ) (b : Bool) → enters s c q ≡ b
      → Standing s g p k → StaysIn s (c ∷ cs) p
      → k < (ticketed s g c).latest q → entries_in (after s c) cs q ≡ 0 → entries_in s (c ∷ cs) q ≡ 0
  unfolding entries_in
  behind_by s g c cs p k q true e h w l rec =
      let before : (ticketed s g c).latest q < k = earlier s g c cs p k q h w e in
      absurd (omega arith)
  behind_by s g c cs p k q false e h w l rec = count_no (λ t d. enters t d q) s c cs e ∙ rec

  behind_never_enters :
      (s : LockState) (g : Tickets) (cs : List Call) (p k q : ℕ) → Standing s g p k → StaysIn s cs p → k < g.latest q
      → entries_in s cs q ≡ 0
  unfolding entries_in count_in
  behind_never_enters s g [] p k q h w l = refl
  behind_never_enters s g (c ∷ cs) p k q h w l =
      let later : k < (ticketed s g c).latest q = ticket_later s g c q k h.taken l in
      behind_by s g c cs p k q (enters s c q) refl h w later
      (behind_never_enters (after s c) (ticketed s g c) cs p k q (standing_after s g c p k h w.0) w.3 later)

  -- after an own join q is behind p, and does not enter by that very call either
  joined_never_enters :
      (s : LockState) (g : Tickets) (c : Call) (cs : List Call) (p k q : ℕ) → Standing s g p k → StaysIn s (c ∷ cs) p
      → joins s c q ≡ true → entries_in s (c ∷ cs) q ≡ 0
  joined_never_enters s g c cs p k q h w e =
      let new : (ticketed s g c).latest q ≡ g.count = (ticket_joined s g c q e).0 in
      let given : k < g.count = h.taken in
      let later : k < (ticketed s g c).latest q = omega arith in
      behind_by s g c cs p k q (enters s c q) refl h w later
      (behind_never_enters (after s c) (ticketed s g c) cs p k q (standing_after s g c p k h w.0) w.3 later)

  -- ---- order

  nobody_by :
      (s : LockState) (g : Tickets) (c : Call) (rest : List Call) (cs : List Call) (p k q : ℕ) (b : Bool)
      → joins s c q ≡ b
      → Standing s g p k → StaysIn s (c ∷ cs) p → 1 ≤ entries_in s (c ∷ cs) q → joins_in (after s c) rest q ≡ 0
      → joins_in s (c ∷ rest) q ≡ 0
  unfolding joins_in
  nobody_by s g c rest cs p k q true e h w there rec =
      let none : entries_in s (c ∷ cs) q ≡ 0 = joined_never_enters s g c cs p k q h w e in
      absurd (omega arith)
  nobody_by s g c rest cs p k q false e h w there rec = count_no (λ t d. joins t d q) s c rest e ∙ rec

  pub nobody_behind_enters :
      (s : LockState) (g : Tickets) (seen : List Call) (c : Call) (unseen : List Call) (p k q : ℕ) → Standing s g p k
      → StaysIn s (seen ++ c ∷ unseen) p → enters (run s seen) c q ≡ true → joins_in s (seen ++ c ∷ []) q ≡ 0
  unfolding run joins_in count_in entries_in
  nobody_behind_enters s g [] c unseen p k q h w e =
      nobody_by s g c [] unseen p k q (joins s c q) refl h w (count_there (λ t d. enters t d q) s [] c unseen e) refl
  nobody_behind_enters s g (d ∷ seen) c unseen p k q h w e =
      nobody_by s g d (seen ++ c ∷ []) (seen ++ c ∷ unseen) p k q (joins s d q) refl h w
      (count_there (λ t b. enters t b q) s (d ∷ seen) c unseen e)
      (nobody_behind_enters (after s d) (ticketed s g d) seen c unseen p k q (standing_after s g d p k h w.0)
      w.3 e)

  -- ---- at most once

  spent_by :
      (s : LockState) (g : Tickets) (c : Call) (cs : List Call) (p k q : ℕ) (b : Bool) → joins s c q ≡ b
      → Standing s g p k → StaysIn s (c ∷ cs) p
      → is_spent s q ≡ true → (is_spent (after s c) q ≡ true → entries_in (after s c) cs q ≡ 0)
      → entries_in s (c ∷ cs) q ≡ 0
  unfolding entries_in
  spent_by s g c cs p k q true e h w out rec = joined_never_enters s g c cs p k q h w e
  spent_by s g c cs p k q false e h w out rec =
      let on : (is_spent (after s c) q ≡ true) × (enters s c q ≡ false) = spent_stays s c h.whole q out e in
      count_no (λ t d. enters t d q) s c cs on.1 ∙ rec on.0

  spent_never_enters :
      (s : LockState) (g : Tickets) (cs : List Call) (p k q : ℕ) → Standing s g p k → StaysIn s cs p → is_spent s q ≡ true
      → entries_in s cs q ≡ 0
  unfolding entries_in count_in
  spent_never_enters s g [] p k q h w out = refl
  spent_never_enters s g (c ∷ cs) p k q h w out =
      spent_by s g c cs p k q (joins s c q) refl h w out
      (λ on. spent_never_enters (after s c) (ticketed s g c) cs p k q (standing_after s g c p k h w.0) w.3 on)

  once_by :
      (s : LockState) (g : Tickets) (c : Call) (cs : List Call) (p k q : ℕ) (b : Bool) → enters s c q ≡ b
      → Standing s g p k → StaysIn s (c ∷ cs) p
      → entries_in (after s c) cs q ≤ 1 → entries_in s (c ∷ cs) q ≤ 1
  unfolding entries_in
  once_by s g c cs p k q true e h w rec =
      let more : entries_in s (c ∷ cs) q ≡ suc (entries_in (after s c) cs q) = count_yes (λ t d. enters t d q) s c cs e in
      let none : entries_in (after s c) cs q ≡ 0 =
      spent_never_enters (after s c) (ticketed s g c) cs p k q (standing_after s g c p k h w.0) w.3
      (entered_is_spent s c q e) in
      omega arith
  once_by s g c cs p k q false e h w rec = subst (λ m. m ≤ 1) (sym (count_no (λ t d. enters t d q) s c cs e)) rec

  pub others_enter_once :
      (s : LockState) (g : Tickets) (cs : List Call) (p k q : ℕ) → Standing s g p k → StaysIn s cs p
      → entries_in s cs q ≤ 1
  unfolding entries_in count_in
  others_enter_once s g [] p k q h w = omega arith
  others_enter_once s g (c ∷ cs) p k q h w =
      once_by s g c cs p k q (enters s c q) refl h w
      (others_enter_once (after s c) (ticketed s g c) cs p k q (standing_after s g c p k h w.0) w.3)

  -- ---- the bound

  pub entries_at_most :
      (s : LockState) (g : Tickets) (cs : List Call) (p k : ℕ) → Standing s g p k → StaysIn s cs p → p < s.n
      → all_entries_in s cs ≤ s.n - 1
  entries_at_most s g cs p k h w below =
      let sum : all_entries_in s cs ≤ total s.n (entries_in s cs) = entries_total s.n s cs h.whole.rows refl in
      let bound : total s.n (entries_in s cs) ≤ s.n - 1 =
      total_bound s.n (entries_in s cs) p (λ q. others_enter_once s g cs p k q h w)
      (queued_no_entry s cs p w) below in
      omega arith
