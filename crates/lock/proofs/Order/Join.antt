-- The join, place 3: the next number goes to p. With no tail the queue was empty and p is served at once; otherwise p
-- stands raw behind the tail, which its pred names.
--     join_fit         what is said of every other row stays
--     swap_holds       the act
use Prim.Native.Nat.{ℕ, suc, ◌<◌, ◌≤◌}
use mathlib.Core.Path.{◌≡◌, refl, sym, ap, ◌∙◌}
use mathlib.Core.Bool.{Bool, true, false, cond}
use mathlib.Core.Logic.{◌≢◌}
use native.Mathlib.Omega.{arith}
use lib.Dec.{eqb}
use lib.ListN.{length}
use borrow.Author.Tests.{eqb-true, eqb-false}
use Rattle.lock.specs.declared.Row.{Row}
use Rattle.lock.specs.declared.LockState.{LockState}
use Rattle.choice.proofs.Numbers.{by_same}
use Rattle.choice.proofs.Tests.{by_test}
use Rattle.lock.specs.State.{none, is_none, row, put_tail, to, put_pred}
use Rattle.lock.specs.Table.{place_at, swap}
use Rattle.lock.proofs.Ground.Facts.{Role, out, raw, wait, tok, rel, lag, Facts, facts}
use Rattle.lock.proofs.Order.Tickets.{Tickets, joined}
use Rattle.lock.proofs.Ground.Writes.{own_start, own_tail, some_row, own_pred, own_to}
use Rattle.lock.proofs.Order.Statement.{Ghost, upd, upd_same, upd_other, Books, Queued, Away, Duty, given_map, Fit, Holds}
use Rattle.lock.proofs.Order.Carry.{moved, queued_map}
use Rattle.lock.proofs.Order.Build.{own_holds, free_fit}
use Rattle.lock.proofs.Order.Quiet.{mine}
use Rattle.lock.specs.Acts as Acts

-- the ghost after p's join, u served
abbrev entered : Tickets → Ghost → (p u : ℕ) → Ghost
entered g G p u = moved G G.gone u (upd G.who g.count p) (upd G.linked g.count false) G.releaser

module _ (g : Tickets) (G : Ghost) (p u : ℕ) (past : (q : ℕ) → g.latest q ≤ g.count) (serves : G.gone < g.count → u ≡ G.served) where
  abbrev h : Tickets
  h = joined g p

  abbrev H : Ghost
  H = entered g G p u

  who_same : (i : ℕ) → i < g.count → H.who i ≡ G.who i
  who_same i b = upd_other G.who g.count p i (omega arith)

  linked_same : (i : ℕ) → i < g.count → H.linked i ≡ G.linked i
  linked_same i b = upd_other G.linked g.count false i (omega arith)

  module _ (q : ℕ) (d : q ≢ p) where
    same : h.latest q ≡ g.latest q
    same = upd_other g.latest p g.count q d

    still_away : Away g G q → Away h H q
    still_away away x y z = go (eqb (g.latest q) g.count) refl
      where
        go : (b : Bool) → eqb (g.latest q) g.count ≡ b → ⊥
        go true e =
            d (sym z ∙ ap H.who (same ∙ eqb-true (g.latest q) g.count e) ∙ upd_same G.who g.count p)
        go false e =
            let ne : g.latest q ≢ g.count = eqb-false (g.latest q) g.count e in
            let le = past q in
            let low : G.gone ≤ g.latest q = rw same at x in
            let high : g.latest q < g.count = omega arith in
            away low high (sym (ap H.who same ∙ who_same (g.latest q) high) ∙ z)

    still_queued : {next : ℕ} → Queued g G q next → Queued h H q next
    still_queued v = queued_map v same v.low (omega arith) who_same (λ i b t. linked_same i b ∙ t)

    join_duty : (ρ : Role) (next succ heir : ℕ) → Duty ρ g G q next succ heir → Duty ρ h H q next succ heir
    join_duty out next succ heir w = still_away w
    join_duty raw next succ heir w =
        let high = w.queued.high in
        let low = w.queued.low in
        let z = serves (omega arith) in
        record {
          queued = still_queued w.queued;
          unlinked = ap H.linked same ∙ linked_same (g.latest q) high ∙ w.unlinked;
          later = rw same w.later;
          behind = rw (same, z) w.behind;
        }
    join_duty wait next succ heir w =
        let high = w.queued.high in
        let low = w.queued.low in
        let z = serves (omega arith) in
        record {
          queued = still_queued w.queued;
          done = ap H.linked same ∙ linked_same (g.latest q) high ∙ w.done;
          behind = rw (same, z) w.behind;
        }
    join_duty tok next succ heir w =
        let high = w.queued.high in
        let low = w.queued.low in
        let z = serves (omega arith) in
        record { queued = still_queued w.queued; first = rw (same, z) w.first }
    join_duty rel next succ heir w =
        let b = w.front.below in
        record {
          away = still_away w.away;
          handing = serves b ∙ w.handing;
          only = w.only;
          front =
              record {
                below = omega arith;
                made = w.front.made ∙ sym (who_same G.gone b);
                done = linked_same G.gone b ∙ w.front.done;
              };
        }
    join_duty lag next succ heir w = record { away = still_away w.away; fenced = w.fenced; parked = w.parked }

    pub join_fit :
        {e : ℕ} {st : Facts} {l next pred succ nx : ℕ} {guard : Bool} → Fit e g G q st l next pred succ nx guard
        → Fit e h H q st l next pred succ nx guard
    join_fit {st = st} {l = l} {next = next} {succ = succ} {nx = nx} f =
        record {
          small = f.small;
          settles = f.settles;
          duty = join_duty (st.role l (is_none nx)) next succ (cond st.lifts nx succ) f.duty;
          joins =
              given_map st.joining
              (λ b j i x y.
              let le = past q in
              let at : suc i ≡ g.latest q = x ∙ same in
              j i at y ∙ sym (who_same i (omega arith)))
              f.joins;
          blank = f.blank;
          fencing = f.fencing;
          peeking = f.peeking;
          shut = f.shut;
          fenced = f.fenced;
          manned = f.manned;
        }

module _ (s : LockState) (g : Tickets) (p : ℕ) (v : Holds s g) (room : p < length s.rows) where
  pub there : p ≢ none
  there = some_row s p v.rooms room

  -- a join that p did not make yet: it is another's
  made_by_another : Away g v.ghost p → (i : ℕ) → v.ghost.gone ≤ i → i < g.count → v.ghost.who i ≢ p
  made_by_another away i a b e =
      let k : g.latest (v.ghost.who i) ≡ i = v.books.known i a b in
      let m : g.latest p ≡ i = sym (ap g.latest e) ∙ k in
      away (rw m a) (rw m b) (ap v.ghost.who m ∙ e)

  join_books :
      (u : ℕ) → Away g v.ghost p → v.ghost.gone ≤ u → u ≤ suc v.ghost.gone
      → Books (joined g p) (entered g v.ghost p u) p
  join_books u away least most =
      let G = v.ghost in
      let b = v.books in
      record {
        low = let l = b.low in omega arith;
        least = least;
        most = most;
        known =
            λ i x y.
            by_same (λ i. G.gone ≤ i → i < suc g.count → (joined g p).latest ((entered g G p u).who i) ≡ i)
            g.count
            (λ x y. ap (joined g p).latest (upd_same G.who g.count p) ∙ upd_same g.latest p g.count)
            (λ i d x y.
            let c : i < g.count = omega arith in
            ap (joined g p).latest (upd_other G.who g.count p i d)
            ∙ upd_other g.latest p g.count (G.who i) (made_by_another away i x c) ∙ b.known i x c)
            i x y;
        past =
            by_same (λ q. (joined g p).latest q ≤ suc g.count) p
            (rw (upd_same g.latest p g.count) (omega arith))
            (λ q d. rw (upd_other g.latest p g.count q d) (let l = b.past q in omega arith));
        empty = λ e. absurd (there e);
        last =
            λ d. (
              let l = b.low in omega arith,
              λ i e.
                  let at : i ≡ g.count = omega arith in
                  sym (ap (entered g G p u).who at ∙ upd_same G.who g.count p),
            );
      }

  -- p's own place in the queue
  join_queued :
      (u next : ℕ) → v.ghost.gone ≤ g.count → next ≡ none → Queued (joined g p) (entered g v.ghost p u) p next
  join_queued u next low blank =
      let me : (joined g p).latest p ≡ g.count = upd_same g.latest p g.count in
      record {
        low = rw me low;
        high = rw me (omega arith);
        mine = ap (entered g v.ghost p u).who me ∙ upd_same v.ghost.who g.count p;
        chain = λ d. absurd (d blank);
      }

  pub swap_holds : place_at (row s p).place ≡ swap → Holds (Acts.swap s p) (joined g p)
  unfolding Acts.swap
  swap_holds e =
      by_test (λ k. Holds (to (put_tail (put_pred s p s.tail) p) p k) (joined g p)) (is_none s.tail) alone behind
    where
      G : Ghost
      G = v.ghost

      r : Row
      r = row s p

      f : Fit s.edition g G p (facts swap) r.locked r.next r.pred r.succ r.nx r.guard
      f = mine s g p v room e

      me : (joined g p).latest p ≡ g.count
      me = upd_same g.latest p g.count

      alone : is_none s.tail ≡ true → Holds (to (put_tail (put_pred s p s.tail) p) p 9) (joined g p)
      alone t =
          let u = suc g.count in
          let empty : G.gone ≡ g.count = v.books.empty (eqb-true s.tail none t) in
          own_holds v (entered g G p u)
          (own_to (own_tail (own_pred (own_start s p room) _) p) _)
          (join_books u f.duty (omega arith) (omega arith))
          (free_fit refl f.small f.settles
          (record { queued = join_queued u r.next v.books.low f.blank; first = rw me (omega arith) })
          f.fenced f.manned f.fencing)
          (λ q d. join_fit g G p u v.books.past (λ z. absurd (omega arith)) q d (v.fits q))

      behind : is_none s.tail ≡ false → Holds (to (put_tail (put_pred s p s.tail) p) p 4) (joined g p)
      behind t =
          let u = G.served in
          let last = v.books.last (eqb-false s.tail none t) in
          let some : G.gone < g.count = last.0 in
          let least = v.books.least in
          let most = v.books.most in
          own_holds v (entered g G p u)
          (own_to (own_tail (own_pred (own_start s p room) _) p) _)
          (join_books u f.duty least most)
          (record {
            small = f.small;
            settles = f.settles;
            duty =
                record {
                  queued = join_queued u r.next v.books.low f.blank;
                  unlinked = ap (entered g G p u).linked me ∙ upd_same G.linked g.count false;
                  later = rw me some;
                  behind = rw me (omega arith);
                };
            joins =
                λ i x y.
                let at : suc i ≡ g.count = x ∙ me in
                last.1 i at ∙ sym (who_same g G p u v.books.past (λ z. refl) i (omega arith));
            blank = tt;
            fencing = f.fencing;
            peeking = (tt, tt);
            shut = f.shut;
            fenced = f.fenced;
            manned = f.manned;
          })
          (λ q d. join_fit g G p u v.books.past (λ z. refl) q d (v.fits q))
