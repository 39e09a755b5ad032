-- What is known of a neighbour: of who made a join that is still in the queue, of the heir of who hands the lock on,
-- of a row on which the lock is parked.
--     same_join        two in the queue with one number are one
--     before           the join before a later one
--     duty_as          what is said of a row, its role known
--     served_first     who is served is at the front, and only it
--     pop_asks         what is asked of the others when it goes from the front
--     maker            who made a join that is still in the queue stands in it
--     heir_waits       the heir of who hands on waits at the front
--     parked_tok_at    a row with R_P has the lock, at the front
use Prim.Native.Nat.{ℕ, zero, suc, ◌<◌, ◌≤◌}
use mathlib.Core.Path.{◌≡◌, refl, sym, ap, subst, ◌∙◌}
use mathlib.Core.Bool.{true, cond}
use mathlib.Core.Logic.{◌≢◌}
use native.Mathlib.Omega.{arith}
use lib.Dec.{eqb}
use lib.ListN.{length}
use borrow.Author.Tests.{eqb-true}
use Rattle.lock.specs.declared.Row.{Row}
use Rattle.lock.specs.declared.LockState.{LockState}
use Rattle.choice.proofs.Tests.{clash}
use Rattle.lock.specs.State.{none, is_none, RP, row}
use Rattle.lock.proofs.Ground.Facts.{Role, out, raw, wait, tok, rel, lag, facts_at, settled}
use Rattle.lock.proofs.Order.Tickets.{Tickets}
use Rattle.lock.proofs.Ground.Writes.{row_there, some_row}
use Rattle.lock.proofs.Order.Roles.{role, is_queued, parked_tok}
use Rattle.lock.proofs.Order.Statement.{Ghost, Queued, Raw, Wait, Tok, Rel, Duty, Fencing, Fit, Holds}
use Rattle.lock.proofs.Order.Carry.{Asks, owner}

pub same_join :
    {g : Tickets} {G : Ghost} {q x a b : ℕ} → Queued g G q a → Queued g G x b → g.latest q ≡ g.latest x → q ≡ x
same_join {G = G} v w e = sym v.mine ∙ ap G.who e ∙ w.mine

pub before : (a m : ℕ) → a < m → (i : ℕ) × (suc i ≡ m) × (a ≤ i)
before a zero h = absurd (omega arith)
before a (suc i) h = (i, refl, omega arith)

-- the role of a row
abbrev pub role_row : Row → Role
role_row r = role r.place r.locked (is_none r.nx)

-- at the front, linked and not served: it waits
waits :
    {g : Tickets} {G : Ghost} (ρ : Role) (q next succ heir : ℕ) → is_queued ρ ≡ true → g.latest q ≡ G.gone
    → G.linked G.gone ≡ true
    → G.served ≡ G.gone → Duty ρ g G q next succ heir → (ρ ≡ wait) × Wait g G q next
waits out q next succ heir u e l h d = clash u refl
waits {G = G} raw q next succ heir u e l h d = clash (ap G.linked e ∙ l) d.unlinked
waits wait q next succ heir u e l h d = (refl, d)
waits tok q next succ heir u e l h d = absurd (let f = d.first in omega arith)
waits rel q next succ heir u e l h d = clash u refl
waits lag q next succ heir u e l h d = clash u refl

module _ (s : LockState) (g : Tickets) (v : Holds s g) where
  -- what is said of q, its role known
  pub duty_as :
      (q : ℕ) {ρ : Role} → role_row (row s q) ≡ ρ
      → Duty ρ g v.ghost q (row s q).next (row s q).succ
      (cond (facts_at (row s q).place).lifts (row s q).nx (row s q).succ)
  duty_as q e =
      let r = row s q in
      subst (λ (ρ : Role). Duty ρ g v.ghost q r.next r.succ
      (cond (facts_at r.place).lifts r.nx r.succ)) e
      (v.fits q).duty

  -- who is served is at the front
  pub served_first :
      {q next : ℕ} → Tok g v.ghost q next
      → (g.latest q ≡ v.ghost.gone) × (v.ghost.served ≡ suc v.ghost.gone)
  served_first w =
      let low = w.queued.low in
      let first = w.first in
      let most = v.books.most in
      (omega arith, omega arith)

  -- what is asked of the others when x, who has the lock, goes from the front: no raw one stands right behind it
  pub pop_asks :
      (x behind r : ℕ) → Tok g v.ghost x behind
      → ((q next : ℕ) → Raw g v.ghost q next → g.latest q ≢ suc v.ghost.gone) → (q next heir : ℕ) → q ≢ x
      → Asks g v.ghost (suc v.ghost.gone) v.ghost.served v.ghost.linked r q next heir
  pop_asks x behind r d linked q next heir ne =
      let G = v.ghost in
      let first = served_first d in
      let front = first.0 in
      let serve = first.1 in
      record {
        raws =
            λ k.
            let o = k.later in
            let b = k.behind in
            let z : g.latest q ≢ suc G.gone = linked q next k in
            (k.unlinked, omega arith, b);
        waits = λ k. let b = k.behind in (omega arith, b);
        toks = λ k. absurd (ne (same_join k.queued d.queued ((served_first k).0 ∙ sym front)));
        rels = λ k. absurd (let o = k.handing in omega arith);
      }

  pub queued_there : (y : ℕ) → is_queued (role_row (row s y)) ≡ true → y < length s.rows
  queued_there y u = row_there s y (λ e. clash (subst (λ (r : Row). is_queued (role_row r) ≡ true) e u) refl)

  pub there_some : (y : ℕ) → y < length s.rows → y ≢ none
  there_some y h = some_row s y v.rooms h

  pub maker :
      (y i : ℕ) → y ≡ v.ghost.who i → v.ghost.gone ≤ i → i < g.count
      → (g.latest y ≡ i) × Queued g v.ghost y (row s y).next × (is_queued (role_row (row s y)) ≡ true)
  maker y i e a b =
      let G = v.ghost in
      let k : g.latest y ≡ i = ap g.latest e ∙ v.books.known i a b in
      let r = row s y in
      let w =
      owner (role_row r) y r.next r.succ (cond (facts_at r.place).lifts r.nx r.succ) (rw k a)
      (rw k b)
      (ap G.who k ∙ sym e) (v.fits y).duty in
      (k, w.0, w.1)

  pub record Heir (p y : ℕ) : Type 0 where
    pub at : g.latest y ≡ v.ghost.gone
    pub queued : Queued g v.ghost y (row s y).next
    pub waiting : role_row (row s y) ≡ wait
    pub apart : p ≢ y
    pub near : y < length s.rows

  pub heir_waits : (p y : ℕ) → Rel g v.ghost p y → Heir p y
  heir_waits p y d =
      let G = v.ghost in
      let w = maker y G.gone d.front.made (omega arith) d.front.below in
      let r = row s y in
      let z =
      waits (role_row r) y r.next r.succ (cond (facts_at r.place).lifts r.nx r.succ) w.2 w.0
      d.front.done
      d.handing (v.fits y).duty in
      record {
        at = w.0;
        queued = w.1;
        waiting = z.0;
        apart =
            λ e.
            d.away (rw e w.1.low) (rw e w.1.high) (rw e w.1.mine);
        near = queued_there y w.2;
      }

  -- the row that p fences keeps the next that p has read
  pub peeked_next :
      (p y z : ℕ) → Fencing true v.ghost.fencer p y → v.ghost.peeked y ≡ z → z ≢ none → (row s y).next ≡ z
  peeked_next p y z on e some =
      let fenced : v.ghost.fencer y ≢ 0 = λ n. let k : suc p ≡ 0 = sym on.0 ∙ n in omega arith in
      ((v.fits y).fenced fenced).kept (λ n. some (sym e ∙ n)) ∙ e

  pub parked_tok_at :
      (y : ℕ) → eqb (row s y).locked RP ≡ true
      → Tok g v.ghost y (row s y).next × (settled (facts_at (row s y).place) RP ≡ true) × (y < length s.rows)
  parked_tok_at y h =
      let G = v.ghost in
      let r = row s y in
      let m = r.place in
      let st = facts_at m in
      let f : Fit s.edition g G y st RP r.next r.pred r.succ r.nx r.guard
      = subst (λ (z : ℕ). Fit s.edition g G y st z r.next r.pred r.succ r.nx r.guard)
      (eqb-true r.locked RP h) (v.fits y) in
      let ρ : role m RP (is_none r.nx) ≡ tok = parked_tok m (is_none r.nx) f.settles in (
        subst (λ (z : Role). Duty z g G y r.next r.succ (cond st.lifts r.nx r.succ)) ρ f.duty,
        f.settles,
        row_there s y (λ e. clash (subst (λ (r : Row). eqb r.locked RP ≡ true) e h) refl),
      )
