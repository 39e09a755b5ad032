-- The invariant behind demand 3, put together. Statement says what it is; the acts' files show that each act keeps
-- it; here it holds in the fresh state, after every call, and says who enters first.
--     inv_fresh        the fresh state of an ordered edition meets it
--     inv_after        every call keeps it, refused ones too
--     inv_entry        who enters has the earliest latest join of all in the queue
--     inv_guard        a set guard has its releaser
--     inv_at_take, inv_at_lift, inv_taken      who has peeked still has in nx what it read
use Prim.Native.Nat.{ℕ, zero, suc, ◌<◌, ◌≤◌}
use mathlib.Core.Path.{◌≡◌, refl, sym, ap, subst, ◌∙◌}
use mathlib.Core.Bool.{Bool, true, false, cond, ◌||◌, or-true}
use mathlib.Core.Logic.{◌≢◌}
use native.Mathlib.Omega.{arith}
use lib.Dec.{eqb, lit<}
use lib.ListN.{length}
use borrow.Author.Tests.{eqb-true}
use Rattle.lock.specs.declared.LockState.{LockState}
use Rattle.choice.proofs.Tests.{clash, and_right}
use Rattle.lock.specs.State.{processors, none, is_none, plain, guarded, is_plain, is_guarded, RP, fresh_state, with_place, row}
use Rattle.lock.specs.Sound.{places, has_place, sound}
use Rattle.lock.specs.Table.{Place, place_at, act, stepped, swap, inside}
use Rattle.lock.specs.Event.{raised}
use Rattle.lock.specs.Run.{Call, after, enters, steps_of}
use Rattle.lock.proofs.Order.Tickets.{Tickets, no_tickets, ticketed, joined, step_tickets, by_call, is_member, is_ordered}
use Rattle.lock.proofs.Ground.Writes.{own_start, fresh_row_there, own_flag}
use Rattle.lock.proofs.Ground.Places.{Each, begin, ◌▹◌, at_number}
use Rattle.lock.proofs.Ground.Calls.{Accepted}
use Rattle.lock.proofs.Ground.Facts.{Role, out, raw, wait, tok, rel, lag, number, normal, facts, facts_at, number_test}
use Rattle.lock.proofs.Ground.Editions.{has_normal}
use Rattle.lock.proofs.Keeping.Parts.{row_room, row_has}
use Rattle.lock.proofs.Order.Roles.{role, is_queued, swap_place, member_queued}
use Rattle.lock.proofs.Order.Statement.{Ghost, Queued, Tok, Duty, Fencing, Fit, Holds}
use Rattle.lock.proofs.Order.Near.{same_join, served_first}
use Rattle.lock.proofs.Order.Build.{quiet, free_fit}
use Rattle.lock.proofs.Order.Quiet.{rest_holds, gate_holds, clear_holds, arm_holds, spin_holds, settle_holds, inside_holds, poll_holds, service_holds, back_holds, regain_holds}
use Rattle.lock.proofs.Order.Join.{swap_holds}
use Rattle.lock.proofs.Order.Link.{link_holds, claim_holds}
use Rattle.lock.proofs.Order.Leave.{look_holds, await_holds, close_holds}
use Rattle.lock.proofs.Order.Hand.{hand_holds, park_holds}
use Rattle.lock.proofs.Order.Fence.{fence_holds}
use Rattle.lock.proofs.Order.Take.{peek_holds, take_holds, lift_holds}
use Rattle.lock.proofs.Order.Peeked.{at_take, at_lift, takes_another, taken_row}
use Rattle.lock.specs.Acts as Acts

pub Inv : LockState → Tickets → Type 0
Inv s g = Holds s g

-- nobody has joined, nobody is fenced
abbrev start : Ghost
start =
    record {
      gone = 0;
      served = 0;
      who = λ i. 0;
      linked = λ i. false;
      releaser = 0;
      fencer = λ y. 0;
      lagged = λ y. false;
      peeked = λ y. none;
    }

pub inv_fresh : (e n : ℕ) → is_ordered e ≡ true → 1 ≤ n → n ≤ processors → Inv (fresh_state e n) no_tickets
unfolding Inv fresh_state
inv_fresh e n ordered some many =
    record {
      rooms = refl;
      ordered = ordered;
      ghost = start;
      books =
          record {
            low = omega arith;
            least = omega arith;
            most = omega arith;
            known = λ i a b. absurd (omega arith);
            past = λ q. omega arith;
            empty = λ z. refl;
            last = λ z. absurd (z refl);
          };
      fits = λ q. rw (fresh_row_there e n q)
          (free_fit refl refl refl (λ a b c. omega arith) (λ z. absurd (z refl)) (λ z. clash z refl)
          (λ x z. omega arith));
    }

-- the ordered editions' places
abbrev ordered_have : ℕ → Bool
ordered_have k = has_place plain k || has_place guarded k

ordered_has : (e k : ℕ) → is_ordered e ≡ true → has_place e k ≡ true → ordered_have k ≡ true
ordered_has e k o h = by (is_plain e) (is_guarded e) refl refl o
  where
    by : (a b : Bool) → is_plain e ≡ a → is_guarded e ≡ b → a || b ≡ true → ordered_have k ≡ true
    by true b f g o = rw (subst (λ (e : ℕ). has_place e k ≡ true) (eqb-true e plain f) h) refl
    by false true f g o = rw (subst (λ (e : ℕ). has_place e k ≡ true) (eqb-true e guarded g) h) (or-true (has_place plain k))
    by false false f g o = clash o refl

-- the act of each place
module _ (s : LockState) (g : Tickets) (p : ℕ) (v : Holds s g) (room : p < length s.rows) (fit : sound s ≡ true) where
  -- who stands at a place that is not the swap makes no join, so the tickets stay
  still :
      {k : Place} → (facts k).swaps ≡ false
      → (place_at (row s p).place ≡ k → Holds (act k s p) g)
      → place_at (row s p).place ≡ k → Holds (act k s p) (step_tickets s g p)
  still {k} h law e =
      subst (λ b. Holds (act k s p) (cond b (joined g p) g))
      (sym (sym (number_test (row s p).place 3 (lit< tt)) ∙ ap (λ j. (facts j).swaps) e ∙ h)) (law e)

  joining : place_at (row s p).place ≡ swap → Holds (Acts.swap s p) (step_tickets s g p)
  joining e =
      subst (λ b. Holds (Acts.swap s p) (cond b (joined g p) g)) (sym (swap_place (row s p).place e))
      (swap_holds s g p v room e)

  -- nobody stands at a place that the ordered editions lack
  lacked : {k : Place} → ordered_have (number k) ≡ false → place_at (row s p).place ≡ k → Holds (act k s p) g
  lacked none e =
      let rooms = v.rooms in
      let m = (row s p).place in
      clash (ordered_has s.edition (normal m) v.ordered (has_normal s.edition m (row_has s fit p (omega arith))))
      (ap (λ k. ordered_have (number k)) e ∙ none)

  acts : Each (λ m. place_at (row s p).place ≡ place_at m → Holds (act (place_at m) s p) (step_tickets s g p)) places
  unfolding has_place
  acts =
      begin ▹ still refl (rest_holds s g p v room) ▹ still refl (gate_holds s g p v room)
      ▹ still refl (clear_holds s g p v room) ▹ joining ▹ still refl (arm_holds s g p v room)
      ▹ still refl (link_holds s g p v room) ▹ still refl (claim_holds s g p v room)
      ▹ still refl (spin_holds s g p v room) ▹ still refl (settle_holds s g p v room)
      ▹ still refl (inside_holds s g p v room) ▹ still refl (poll_holds s g p v room)
      ▹ still refl (service_holds s g p v room) ▹ still refl (back_holds s g p v room)
      ▹ still refl (regain_holds s g p v room) ▹ still refl (look_holds s g p v room)
      ▹ still refl (close_holds s g p v room) ▹ still refl (await_holds s g p v room)
      ▹ still refl (hand_holds s g p v room fit) ▹ still refl (λ e. fence_holds s g p v room e fit)
      ▹ still refl (park_holds s g p v room) ▹ still refl (peek_holds s g p v room)
      ▹ still refl (take_holds s g p v room) ▹ still refl (lift_holds s g p v room)
      ▹ still refl (lacked refl) ▹ still refl (lacked refl) ▹ still refl (lacked refl) ▹ still refl (lacked refl)
      ▹ still refl (lacked refl) ▹ still refl (lacked refl)

  stepped_holds : Holds (stepped s p) (step_tickets s g p)
  unfolding stepped
  stepped_holds =
      at_number (λ k. place_at (row s p).place ≡ k → Holds (act k s p) (step_tickets s g p)) acts (still refl (λ e. v))
      (row s p).place refl

pub inv_after : (s : LockState) (g : Tickets) (c : Call) → Inv s g → Inv (after s c) (ticketed s g c)
unfolding Inv raised
inv_after s g c v =
    let p = c.processor in
    by_call Holds s g c v (λ a. stepped_holds s g p v (room a) a.fit)
    (λ a. quiet v (own_flag (own_start s p (room a)) _) (v.fits p))
  where
    room : Accepted s c → c.processor < length s.rows
    room a = row_room s a.fit v.rooms a.below

-- who has a queued role is in the queue
in_queue :
    {g : Tickets} {G : Ghost} (ρ : Role) (q next succ heir : ℕ) → is_queued ρ ≡ true → Duty ρ g G q next succ heir
    → Queued g G q next
in_queue out q next succ heir e d = clash e refl
in_queue raw q next succ heir e d = d.queued
in_queue wait q next succ heir e d = d.queued
in_queue tok q next succ heir e d = d.queued
in_queue rel q next succ heir e d = clash e refl
in_queue lag q next succ heir e d = clash e refl

member_in_queue :
    (s : LockState) (g : Tickets) (q : ℕ) (v : Holds s g) → is_member s q ≡ true
    → Queued g v.ghost q (row s q).next
unfolding is_member
member_in_queue s g q v m =
    let r = row s q in
    in_queue (role r.place r.locked (is_none r.nx)) q r.next r.succ
    (cond (facts_at r.place).lifts r.nx r.succ)
    (member_queued r.place r.locked (is_none r.nx) (v.fits q).small m)
    (v.fits q).duty

-- who is inside has the earliest number of all in the queue
inside_first :
    (s : LockState) (g : Tickets) (e q : ℕ) → Holds s g → eqb (row s e).place 9 ≡ true → is_member s q ≡ true → q ≢ e
    → g.latest e < g.latest q
inside_first s g e q v h m d =
    let G = v.ghost in
    let r = row s e in
    let f : Fit s.edition g G e (facts inside) r.locked r.next r.pred r.succ r.nx r.guard =
    subst (λ (m : ℕ). Fit s.edition g G e (facts_at m) r.locked r.next r.pred r.succ r.nx r.guard)
    (eqb-true r.place 9 h) (v.fits e) in
    let t : Tok g G e r.next = f.duty in
    let w = member_in_queue s g q v m in
    let front = (served_first s g v t).0 in
    let low = w.low in
    let ne : g.latest q ≢ g.latest e = λ z. d (same_join w t.queued z) in
    omega arith

pub inv_entry :
    (s : LockState) (g : Tickets) (c : Call) (e q : ℕ) → Inv s g → enters s c e ≡ true → is_member (after s c) q ≡ true
    → (q ≡ e → ⊥) → (ticketed s g c).latest e < (ticketed s g c).latest q
unfolding Inv enters
inv_entry s g c e q v h m d =
    inside_first (after s c) (ticketed s g c) e q (inv_after s g c v)
    (and_right (steps_of s c e) (eqb (row (after s c) e).place 9) h) m d

-- a set guard has its releaser: the one that fences the row
pub inv_guard :
    (s : LockState) (g : Tickets) (q : ℕ) → Inv s g → (row s q).guard ≡ true
    → (p : ℕ) × ((facts_at (row s p).place).fences ≡ true) × ((row s p).succ ≡ q)
unfolding Inv
inv_guard s g q v h = by (v.ghost.fencer q) refl
  where
    on :
        (p : ℕ) (b : Bool) → (facts_at (row s p).place).fences ≡ b
        → Fencing b v.ghost.fencer p (row s p).succ → v.ghost.fencer q ≡ suc p
        → ((facts_at (row s p).place).fences ≡ true) × ((row s p).succ ≡ q)
    on p true e w z = (e, sym (w.2 q z))
    on p false e w z = absurd (w q z)

    by :
        (m : ℕ) → v.ghost.fencer q ≡ m
        → (p : ℕ) × ((facts_at (row s p).place).fences ≡ true) × ((row s p).succ ≡ q)
    by zero z = absurd (((v.fits q).manned h).1 z)
    by (suc p) z =
        let both : ((facts_at (row s p).place).fences ≡ true) × ((row s p).succ ≡ q) =
        on p (facts_at (row s p).place).fences refl (v.fits p).fencing z in
        (p, both.0, both.1)

-- who has peeked: a second read of succ's next would find nx
pub inv_at_take :
    (s : LockState) (g : Tickets) (p : ℕ) → Inv s g → (row s p).place ≡ 21
    → (row s (row s p).succ).next ≡ (row s p).nx
unfolding Inv
inv_at_take s g p v e = at_take s g p v e

pub inv_at_lift :
    (s : LockState) (g : Tickets) (p : ℕ) → Inv s g → (row s p).place ≡ 22 → (row s p).nx ≢ none
    → (row s p).nx ≢ (row s p).succ
    → (row s (row s p).succ).next ≡ (row s p).nx
unfolding Inv
inv_at_lift s g p v e some other = at_lift s g p v e some other

-- a successful take leads to a 22 of that kind
pub inv_taken :
    (s : LockState) (g : Tickets) (p : ℕ) → Inv s g → p < length s.rows → (row s p).place ≡ 21
    → eqb (row s (row s p).succ).locked RP ≡ true
    → (row (stepped s p) p ≡ with_place (row s p) 22) × ((row s p).nx ≢ none) × ((row s p).nx ≢ (row s p).succ)
unfolding Inv stepped
inv_taken s g p v room e h =
    let other = takes_another s g p v e h in
    (ap (λ m. row (act (place_at m) s p) p) e ∙ taken_row s g p v room e h, other.0, other.1)
