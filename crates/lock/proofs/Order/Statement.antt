-- The invariant behind demand 3: the lock refines a ticket lock. Joins are numbered; the queue is always a contiguous
-- run of numbers, from gone up to count, and only the one at the front is served. Every clause speaks of one row,
-- through ghosts that name who made a join and who fences a row.
--     Ghost            what the proof remembers beside the tickets
--     upd, upd_same, upd_other, upd_back       a function changed at one number
--     Books            what holds of tickets, ghost and tail alone
--     Linked           x made join i, which is linked and still in the queue
--     Queued, Away     to be in the queue, and not to be in it
--     Raw, Wait, Tok, Rel, Lag, Duty           what is said of a row by its role
--     given, given_map                         what is said only where a test holds
--     Fencing, Fenced  who fences, and what a fence on a row keeps
--     Peeking, peeking_map     who has peeked at the row that it fences
--     Fit, FitRow      all that is said of a row
--     Holds            the invariant of a state
use Prim.Native.Nat.{ℕ, suc, ◌<◌, ◌≤◌}
use mathlib.Core.Path.{◌≡◌, refl, sym, ap, ◌∙◌}
use mathlib.Core.Bool.{Bool, true, false, cond, ◌||◌}
use mathlib.Core.Logic.{◌≢◌}
use lib.Dec.{eqb, leb}
use lib.ListN.{length}
use borrow.Author.Tests.{eqb-true, eqb-false, eq-eqb, ne_eqb}
use Rattle.lock.specs.declared.Row.{Row}
use Rattle.lock.specs.declared.LockState.{LockState}
use Rattle.lock.specs.State.{processors, none, is_none, row}
use Rattle.lock.proofs.Ground.Facts.{Role, out, raw, wait, tok, rel, lag, Facts, facts_at, is_left, settled}
use Rattle.lock.proofs.Order.Tickets.{Tickets, is_ordered}

pub record Ghost : Type 0 where
  -- how many joins have gone from the front of the queue
  pub gone : ℕ
  -- how many have been given the lock: as many, or one more
  pub served : ℕ
  -- who made join i
  pub who : ℕ → ℕ
  -- join i is linked: the row before it names it
  pub linked : ℕ → Bool
  -- who has the lock and is handing it on, if anybody
  pub releaser : ℕ
  -- who fences row y, one more than the processor, or 0
  pub fencer : ℕ → ℕ
  -- the fencer of y has parked the lock on it
  pub lagged : ℕ → Bool
  -- what the fencer of y has read as y's next, or none
  pub peeked : ℕ → ℕ

-- a function changed at one number
abbrev pub upd : {A : Type 0} → (ℕ → A) → ℕ → A → ℕ → A
upd f y v q = cond (eqb q y) v (f q)

pub upd_same : {A : Type 0} (f : ℕ → A) (y : ℕ) (v : A) → upd f y v y ≡ v
upd_same f y v = rw (eq-eqb y y refl)

pub upd_other : {A : Type 0} (f : ℕ → A) (y : ℕ) (v : A) (q : ℕ) → q ≢ y → upd f y v q ≡ f q
upd_other f y v q d = rw (ne_eqb q y d)

-- a value other than the new one was there before
pub upd_back : (f : ℕ → ℕ) (y v q x : ℕ) → v ≢ q → upd f y v x ≡ q → f x ≡ q
upd_back f y v q x d e = by_test (eqb x y) refl
  where
    by_test : (b : Bool) → eqb x y ≡ b → f x ≡ q
    by_test true t = absurd (d (sym (upd_same f y v) ∙ ap (upd f y v) (sym (eqb-true x y t)) ∙ e))
    by_test false t = sym (upd_other f y v x (eqb-false x y t)) ∙ e

-- t is the tail
pub record Books (g : Tickets) (G : Ghost) (t : ℕ) : Type 0 where
  -- one goes only after it has joined, and one at most is served before the next goes
  pub low : G.gone ≤ g.count
  pub least : G.gone ≤ G.served
  pub most : G.served ≤ suc G.gone
  -- each join still in the queue is its maker's latest
  pub known : (i : ℕ) → G.gone ≤ i → i < g.count → g.latest (G.who i) ≡ i
  pub past : (q : ℕ) → g.latest q ≤ g.count
  -- no tail: nobody is in the queue; otherwise the tail made the last join
  pub empty : t ≡ none → G.gone ≡ g.count
  pub last : t ≢ none → (G.gone < g.count) × ((i : ℕ) → suc i ≡ g.count → t ≡ G.who i)

-- x made join i, which is linked and still in the queue
pub record Linked (g : Tickets) (G : Ghost) (i x : ℕ) : Type 0 where
  pub below : i < g.count
  pub made : x ≡ G.who i
  pub done : G.linked i ≡ true

-- q stands in the queue; whom its next names stands right behind it
pub record Queued (g : Tickets) (G : Ghost) (q next : ℕ) : Type 0 where
  pub low : G.gone ≤ g.latest q
  pub high : g.latest q < g.count
  pub mine : G.who (g.latest q) ≡ q
  pub chain : next ≢ none → Linked g G (suc (g.latest q)) next

-- q's latest join is no longer in the queue
abbrev pub Away : Tickets → Ghost → ℕ → Type 0
Away g G q = G.gone ≤ g.latest q → g.latest q < g.count → G.who (g.latest q) ≡ q → ⊥

-- joined, and not yet named by the row before it: somebody is before it
pub record Raw (g : Tickets) (G : Ghost) (q next : ℕ) : Type 0 where
  pub queued : Queued g G q next
  pub unlinked : G.linked (g.latest q) ≡ false
  pub later : G.gone < g.latest q
  pub behind : G.served ≤ g.latest q

-- linked, and not yet given the lock
pub record Wait (g : Tickets) (G : Ghost) (q next : ℕ) : Type 0 where
  pub queued : Queued g G q next
  pub done : G.linked (g.latest q) ≡ true
  pub behind : G.served ≤ g.latest q

-- given the lock, so at the front
pub record Tok (g : Tickets) (G : Ghost) (q next : ℕ) : Type 0 where
  pub queued : Queued g G q next
  pub first : g.latest q < G.served

-- has the lock, out of the queue, and hands it on to the front, which is linked; only one does
pub record Rel (g : Tickets) (G : Ghost) (q heir : ℕ) : Type 0 where
  pub away : Away g G q
  pub handing : G.served ≡ G.gone
  pub only : q ≡ G.releaser
  pub front : Linked g G G.gone heir

-- has parked the lock on its succ, which it fences
pub record Lag (g : Tickets) (G : Ghost) (q succ : ℕ) : Type 0 where
  pub away : Away g G q
  pub fenced : G.fencer succ ≡ suc q
  pub parked : G.lagged succ ≡ true

abbrev pub Duty : Role → Tickets → Ghost → (q next succ heir : ℕ) → Type 0
Duty out g G q next succ heir = Away g G q
Duty raw g G q next succ heir = Raw g G q next
Duty wait g G q next succ heir = Wait g G q next
Duty tok g G q next succ heir = Tok g G q next
Duty rel g G q next succ heir = Rel g G q heir
Duty lag g G q next succ heir = Lag g G q succ

-- said only where the test holds
abbrev pub given : Bool → Type 0 → Type 0
given true A = A
given false A = Unit {0}

pub given_map : (b : Bool) {A B : Type 0} → (b ≡ true → A → B) → given b A → given b B
given_map true f a = f refl a
given_map false f a = tt

-- who fences does so to its succ, another row, and to no other; who does not fence does so to none
abbrev pub Fencing : Bool → (ℕ → ℕ) → (q succ : ℕ) → Type 0
Fencing true F q succ = (F succ ≡ suc q) × (succ ≢ q) × ((x : ℕ) → F x ≡ suc q → x ≡ succ)
Fencing false F q succ = (x : ℕ) → F x ≢ suc q

-- of a fenced row: its guard is set; parked on, it is not Locked or Preempted; once peeked at, its next stays
pub record Fenced (lagged : Bool) (peeked l next : ℕ) (guard : Bool) : Type 0 where
  pub set : guard ≡ true
  pub still : lagged ≡ true → is_left l ≡ true
  pub kept : peeked ≢ none → next ≡ peeked

-- z is what was peeked at succ's next, and nx has it: at 21, and still at 22 unless nx is none or the succ itself
abbrev pub Peeking : (takes lifts : Bool) → (z succ nx : ℕ) → Type 0
Peeking takes lifts z succ nx = given takes ((z ≡ nx) × (nx ≢ none)) × given lifts (nx ≢ none → nx ≢ succ → z ≡ nx)

pub peeking_map :
    (takes lifts : Bool) {z w : ℕ} (succ nx : ℕ) → (takes || lifts ≡ true → w ≡ z) → Peeking takes lifts z succ nx
    → Peeking takes lifts w succ nx
peeking_map true lifts succ nx same k =
    ((same refl ∙ k.0.0, k.0.1), given_map lifts (λ b u some other. same refl ∙ u some other) k.1)
peeking_map false lifts succ nx same k = (tt, given_map lifts (λ b u some other. same b ∙ u some other) k.1)

-- e is the edition, q the processor, then the facts of its place and its row's cells; the heir is nx at 22, otherwise succ
pub record Fit (e : ℕ) (g : Tickets) (G : Ghost) (q : ℕ) (st : Facts) (l next pred succ nx : ℕ) (guard : Bool) : Type 0 where
  -- locked by place
  pub small : leb l 3 ≡ true
  pub settles : settled st l ≡ true
  -- the queue, by role
  pub duty : Duty (st.role l (is_none nx)) g G q next succ (cond st.lifts nx succ)
  -- 4 to 6: the pred made the join before
  pub joins : given st.joining ((i : ℕ) → suc i ≡ g.latest q → G.gone ≤ i → pred ≡ G.who i)
  -- 3: the next is none
  pub blank : given st.swaps (next ≡ none)
  -- 19 to 22: the succ is fenced
  pub fencing : Fencing st.fences G.fencer q succ
  -- 21 and 22: nx is what was peeked at
  pub peeking : Peeking st.takes st.lifts (G.peeked succ) succ nx
  -- a set guard: not at 2 to 5, not in the plain edition, and somebody fences the row
  pub shut : guard ≡ true → st.opens ≡ true
  pub manned : guard ≡ true → (e ≢ 0) × (G.fencer q ≢ 0)
  -- what a fence on this row keeps
  pub fenced : G.fencer q ≢ 0 → Fenced (G.lagged q) (G.peeked q) l next guard

abbrev pub FitRow : ℕ → Tickets → Ghost → ℕ → Row → Type 0
FitRow e g G q r = Fit e g G q (facts_at r.place) r.locked r.next r.pred r.succ r.nx r.guard

pub record Holds (s : LockState) (g : Tickets) : Type 0 where
  pub rooms : length s.rows ≡ processors
  pub ordered : is_ordered s.edition ≡ true
  pub ghost : Ghost
  pub books : Books g ghost s.tail
  pub fits : (q : ℕ) → FitRow s.edition g ghost q (row s q)
