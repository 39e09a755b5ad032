-- Places 5 and 6. The link makes p known to the row before it: p is raw no longer. The claim finds the lock parked on
-- the row before it: that one goes from the front, and p is served in its place.
use Prim.Native.Nat.{ℕ, suc, ◌<◌, ◌≤◌}
use mathlib.Core.Path.{◌≡◌, refl, sym, ap, subst, ◌∙◌}
use mathlib.Core.Bool.{Bool, true, false, cond}
use mathlib.Core.Logic.{◌≢◌}
use native.Mathlib.Omega.{arith}
use lib.Dec.{eqb, leb}
use lib.ListN.{length}
use borrow.Author.Tests.{eqb-true, not-true}
use Rattle.lock.specs.declared.Row.{Row}
use Rattle.lock.specs.declared.LockState.{LockState}
use Rattle.choice.proofs.Tests.{clash, and_left, by_test, by_either}
use Rattle.choice.proofs.Numbers.{by_same}
use Rattle.lock.specs.State.{is_none, is_plain, Released, Locked, RP, with_next, row, put_next, put_locked, to}
use Rattle.lock.specs.Table.{place_at, link, claim}
use Rattle.lock.proofs.Ground.Facts.{Role, out, raw, wait, tok, rel, lag, facts, facts_at}
use Rattle.lock.proofs.Order.Tickets.{Tickets}
use Rattle.lock.proofs.Ground.Writes.{both_start, both_to, near_locked, near_next}
use Rattle.lock.proofs.Order.Roles.{is_queued, parked_out, parked_settled, queued_joined}
use Rattle.lock.proofs.Order.Statement.{Ghost, upd, upd_same, upd_other, Queued, Raw, Wait, Tok, Duty, given_map, Fenced, Fit, FitRow, Holds}
use Rattle.lock.proofs.Order.Carry.{passed, queued_map, Asks, pass, pass_fit, books_pop}
use Rattle.lock.proofs.Order.Near.{same_join, before, role_row, served_first, maker, queued_there, parked_tok_at}
use Rattle.lock.proofs.Order.Build.{both_holds, free_fit, relock}
use Rattle.lock.proofs.Order.Quiet.{mine, go}
use Rattle.lock.specs.Acts as Acts

-- another next, with what is to be said of it
chain_duty :
    {g : Tickets} {G : Ghost} (ρ : Role) (q next new succ heir : ℕ) → Queued g G q new → Duty ρ g G q next succ heir
    → Duty ρ g G q new succ heir
chain_duty out q next new succ heir u d = d
chain_duty raw q next new succ heir u d = record { queued = u; unlinked = d.unlinked; later = d.later; behind = d.behind }
chain_duty wait q next new succ heir u d = record { queued = u; done = d.done; behind = d.behind }
chain_duty tok q next new succ heir u d = record { queued = u; first = d.first }
chain_duty rel q next new succ heir u d = d
chain_duty lag q next new succ heir u d = d

module _ (s : LockState) (g : Tickets) (p : ℕ) (v : Holds s g) (room : p < length s.rows) where
  abbrev R : Row
  R = row s p

  abbrev G : Ghost
  G = v.ghost

  -- the ghost with p's join linked
  abbrev H : Ghost
  H = passed G G.gone G.served (upd G.linked (g.latest p) true) G.releaser

  linked_more : (i : ℕ) → G.linked i ≡ true → H.linked i ≡ true
  linked_more i e =
      by_same (λ i. G.linked i ≡ true → H.linked i ≡ true) (g.latest p)
      (λ e. upd_same G.linked (g.latest p) true)
      (λ i d e. upd_other G.linked (g.latest p) true i d ∙ e) i e

  link_asks :
      Raw g G p R.next → (q next heir : ℕ) → q ≢ p
      → Asks g G G.gone G.served H.linked G.releaser q next heir
  link_asks d q next heir ne =
      record {
        raws =
            λ w. (
              upd_other G.linked (g.latest p) true (g.latest q) (λ e. ne (same_join w.queued d.queued e))
                  ∙ w.unlinked,
              w.later,
              w.behind,
            );
        waits = λ w. (w.queued.low, w.behind);
        toks = λ w. (w.queued.low, w.first);
        rels =
            λ w. (
              w.handing,
              w.only,
              record { below = w.front.below; made = w.front.made; done = linked_more G.gone w.front.done },
            );
      }

  pub link_holds : place_at R.place ≡ link → Holds (Acts.link s p) g
  unfolding Acts.link
  link_holds e =
      by_either (λ k. Holds (to (put_next s y p) p k) g) (is_plain s.edition)
      (own _ (free_fit refl refl refl waiting fenced f.manned f.fencing))
      (own _
      (record {
        small = refl;
        settles = refl;
        duty = waiting;
        joins = f.joins;
        blank = tt;
        fencing = f.fencing;
        peeking = (tt, tt);
        shut = λ k. refl;
        fenced = fenced;
        manned = f.manned;
      }))
    where
      f : Fit s.edition g G p (facts link) R.locked R.next R.pred R.succ R.nx R.guard
      f = mine s g p v room e

      locked : R.locked ≡ Locked
      locked = eqb-true R.locked Locked (and_left (eqb R.locked Locked) (leb R.locked Locked) f.settles)

      d : Raw g G p R.next
      d =
          subst (λ (l : ℕ). Duty ((facts link).role l (is_none R.nx)) g G p R.next R.succ R.succ) locked
          f.duty

      prior : (i : ℕ) × (suc i ≡ g.latest p) × (G.gone ≤ i)
      prior = before G.gone (g.latest p) d.later

      y : ℕ
      y = R.pred

      at : (g.latest y ≡ prior.0) × Queued g G y (row s y).next × (is_queued (role_row (row s y)) ≡ true)
      at =
          maker s g v y prior.0 (f.joins prior.0 prior.1 prior.2) prior.2
          (let a = prior.1 in let b = d.queued.high in omega arith)

      next_join : suc (g.latest y) ≡ g.latest p
      next_join = ap suc at.0 ∙ prior.1

      apart : p ≢ y
      apart z = let a : g.latest p ≡ g.latest y = ap g.latest z in let b = next_join in omega arith

      waiting : Wait g H p R.next
      waiting =
          record {
            queued = queued_map d.queued refl d.queued.low (omega arith) (λ i b. refl) (λ i b. linked_more i);
            done = upd_same G.linked (g.latest p) true;
            behind = d.behind;
          }

      -- y's next is now p, which stands right behind it
      chained : Queued g H y p
      chained =
          record {
            low = at.1.low;
            high = at.1.high;
            mine = at.1.mine;
            chain =
                λ z.
                record {
                  below = rw next_join d.queued.high;
                  made = sym (ap G.who next_join ∙ d.queued.mine);
                  done = ap H.linked next_join ∙ upd_same G.linked (g.latest p) true;
                };
          }

      near : FitRow s.edition g H y (with_next (row s y) p)
      near =
          let r = row s y in
          let m = r.place in
          let st = facts_at m in
          let h = v.fits y in
          let heir = cond st.lifts r.nx r.succ in
          record {
            small = h.small;
            settles = h.settles;
            duty =
                chain_duty (role_row r) y r.next p r.succ heir chained
                (pass g G G.gone G.served H.linked G.releaser (omega arith) linked_more (role_row r) y
                r.next r.succ heir
                (link_asks d y r.next heir (λ z. apart (sym z))) h.duty);
            joins = h.joins;
            blank = rw (not-true st.swaps (queued_joined m r.locked (is_none r.nx) h.small at.2)) tt;
            fencing = h.fencing;
            peeking = h.peeking;
            shut = h.shut;
            fenced =
                λ z.
                let w = h.fenced z in
                record {
                  set = w.set;
                  still = w.still;
                  kept =
                      λ k.
                      clash (sym (ap G.linked next_join) ∙ (at.1.chain (λ n. k (sym (w.kept k) ∙ n))).done)
                      d.unlinked;
                };
            manned = h.manned;
          }

      own :
          (k : ℕ) → Fit s.edition g H p (facts_at k) Locked R.next R.pred R.succ R.nx R.guard
          → Holds (to (put_next s y p) p k) g
      own k z =
          both_holds v H
          (both_to (near_next (both_start s p y apart room (queued_there s g v y at.2)) _) _)
          (record {
            low = v.books.low;
            least = v.books.least;
            most = v.books.most;
            known = v.books.known;
            past = v.books.past;
            empty = v.books.empty;
            last = v.books.last;
          })
          (subst (λ (l : ℕ). Fit s.edition g H p (facts_at k) l R.next R.pred R.succ R.nx R.guard)
          (sym locked) z) near
          (λ q a b.
          pass_fit g G G.gone G.served H.linked G.releaser (omega arith) linked_more
          (link_asks d q (row s q).next
          (cond (facts_at (row s q).place).lifts (row s q).nx (row s q).succ) a)
          (v.fits q))

      fenced : G.fencer p ≢ 0 → Fenced (G.lagged p) (G.peeked p) Locked R.next R.guard
      fenced z = clash (f.shut (f.fenced z).set) refl

  pub claim_holds : place_at R.place ≡ claim → Holds (Acts.claim s p) g
  unfolding Acts.claim
  claim_holds e =
      by_test (λ t. Holds t g) (eqb (row s R.pred).locked RP) claimed
      (λ h. go s g p v room _ (free_fit refl f.small f.settles f.duty f.fenced f.manned f.fencing))
    where
      f : Fit s.edition g G p (facts claim) R.locked R.next R.pred R.succ R.nx R.guard
      f = mine s g p v room e

      y : ℕ
      y = R.pred

      -- p waits: otherwise it would be y, whose locked does not fit place 6
      waiting : eqb (row s y).locked RP ≡ true → Wait g G p R.next
      waiting h = by_locked (eqb R.locked Released) refl
        where
          by_locked : (b : Bool) → eqb R.locked Released ≡ b → Wait g G p R.next
          by_locked true z =
              let d : Tok g G p R.next = rw z at f.duty in
              let w = parked_tok_at s g v y h in
              let same : y ≡ p = same_join w.0.queued d.queued
              ((served_first s g v w.0).0 ∙ sym (served_first s g v d).0) in
              clash (subst (λ (q : ℕ). eqb (row s q).locked RP ≡ true) same h) (rw (eqb-true R.locked Released z) refl)
          by_locked false z = rw z at f.duty

      claimed : eqb (row s y).locked RP ≡ true → Holds (to (put_locked s y Released) p 8) g
      claimed h =
          let d = waiting h in
          let w = parked_tok_at s g v y h in
          let first = served_first s g v w.0 in
          let behind = d.behind in
          let front = first.0 in
          let serve = first.1 in
          let prior = before G.gone (g.latest p) (omega arith) in
          let below = prior.1 in
          let high = d.queued.high in
          let least = prior.2 in
          let at = maker s g v y prior.0 (f.joins prior.0 prior.1 prior.2) prior.2 (omega arith) in
          let back = at.0 in
          let mine-is : g.latest p ≡ suc G.gone = omega arith in
          let apart : p ≢ y = λ z. let a : g.latest p ≡ g.latest y = ap g.latest z in omega arith in
          let r = row s y in
          let m = r.place in
          let st = facts_at m in
          let fy = v.fits y in
          both_holds v (passed G (suc G.gone) (suc G.served) G.linked G.releaser)
          (both_to (near_locked (both_start s p y apart room w.2) _) _)
          (books_pop _ _ _ v.books (omega arith) (omega arith) (omega arith))
          (free_fit refl f.small f.settles
          (record {
            queued = queued_map d.queued refl (omega arith) (omega arith) (λ i b. refl) (λ i b z. z);
            first = omega arith;
          })
          f.fenced f.manned f.fencing)
          (record {
            small = refl;
            settles = parked_settled m w.1;
            duty = rw (parked_out m (is_none r.nx) w.1) (λ a b c. omega arith);
            joins = given_map st.joining (λ b j i x k. j i x (omega arith)) fy.joins;
            blank = fy.blank;
            fencing = fy.fencing;
            peeking = fy.peeking;
            shut = fy.shut;
            fenced = λ z. relock (λ k. refl) (fy.fenced z);
            manned = fy.manned;
          })
          (λ q a b.
          pass_fit g G (suc G.gone) (suc G.served) G.linked G.releaser (omega arith) (λ i z. z)
          (record {
            raws =
                λ k.
                let o = k.behind in
                let ne : g.latest q ≢ g.latest p = λ z. a (same_join k.queued d.queued z) in
                (k.unlinked, omega arith, omega arith);
            waits =
                λ k.
                let o = k.behind in
                let ne : g.latest q ≢ g.latest p = λ z. a (same_join k.queued d.queued z) in
                (omega arith, omega arith);
            toks = λ k. absurd (b (same_join k.queued w.0.queued ((served_first s g v k).0 ∙ sym front)));
            rels = λ k. absurd (let o = k.handing in omega arith);
          })
          (v.fits q))
