-- Mutual exclusion, the acts that move no token from row to row: each keeps the statement that at most one bears the
-- token. The token is made at 3 and 23 where the tail is none, and goes at 15 and 26 together with the tail.
use Prim.Native.Nat.{ℕ, ◌<◌}
use mathlib.Core.Path.{◌≡◌, refl, sym, ap, subst, ◌∙◌}
use mathlib.Core.Bool.{Bool, true, false, ◌&&◌, cond}
use mathlib.Core.Logic.{◌≢◌}
use lib.Dec.{eqb}
use lib.ListN.{length}
use borrow.Author.Tests.{eqb-true}
use Rattle.lock.specs.declared.Row.{Row}
use Rattle.lock.specs.declared.LockState.{LockState}
use Rattle.choice.proofs.Tests.{clash, left_of, by_test, by_either}
use Rattle.lock.specs.State.{none, is_none, is_plain, is_guarded, is_old, Released, Locked, Preempted, RP, with_next, with_guard, row, put_row, put_tail, put_next, put_locked, put_guard, put_flag, to, put_pred}
use Rattle.lock.specs.Table.{Place, place_at, rest, gate, clear, swap, arm, link, spin, settle, inside, poll, service, back, regain, look, close, await, fence, old_try, old_poll, old_service, old_free, reread, lost}
use Rattle.lock.proofs.Ground.Rows.{rows_put}
use Rattle.lock.proofs.Ground.Places.{lost_same}
use Rattle.lock.proofs.Ground.Writes.{Own, own_start, own_tail, own_all, put_all, some_row, own_flag, own_locked, own_next, own_pred, own_succ, own_nx, own_to}
use Rattle.lock.proofs.Ground.Facts.{Facts, raw, wait, tok, facts, facts_at, is_bearer, bears, is_left, back_role}
use Rattle.lock.proofs.Exclusion.Token.{Sole, SoleRow, bears_row, Excl, quiet, blind}
use Rattle.lock.specs.Acts as Acts

-- a row that is in order and bears no more than before
pub still :
    {h t q : ℕ} {a b : Facts} {l m : ℕ} {x y : Bool} → Sole h t q a l x → b.locks m ≡ true
    → (bears b m y ≡ true → bears a l x ≡ true)
    → Sole h t q b m y
still f e g = record { settled = e; one = λ u. f.one (g u) }

-- once linked, who is Released bears the token, as before
linked_bears : (b : Bool) → is_bearer (cond b tok wait) ≡ true → is_bearer (cond b tok raw) ≡ true
linked_bears true u = u
linked_bears false u = u

module _ (s : LockState) (p : ℕ) (x : Excl s) (room : p < length s.rows) where
  abbrev R : Row
  R = row s p

  -- what is said of p at a place with its own locked and nx
  abbrev pub Own-at : ℕ → ℕ → Place → Type 0
  Own-at h t a = Sole h t p (facts a) R.locked (is_none R.nx)

  pub at : {a : Place} → place_at R.place ≡ a → {h t : ℕ} → SoleRow h t p R → Own-at h t a
  at e {h} {t} f = subst (Own-at h t) e f

  -- a step to another place, own cells as they are
  pub go :
      (k : ℕ) {a : Place} → place_at R.place ≡ a
      → ((h t : ℕ) → Own-at h t a → Sole h t p (facts_at k) R.locked (is_none R.nx))
      → Excl (to s p k)
  go k e mine = quiet x (own_to (own_start s p room) _) (λ h t f. mine h t (at e f))

  -- the same with a new locked
  go_locked :
      (v k : ℕ) {a : Place} → place_at R.place ≡ a
      → ((h t : ℕ) → Own-at h t a → Sole h t p (facts_at k) v (is_none R.nx))
      → Excl (to (put_locked s p v) p k)
  go_locked v k e mine =
      quiet x (own_to (own_locked (own_start s p room) _) _)
      (λ h t f. mine h t (at e f))

  -- to the queue, nothing borne
  queue_next : {a : Place} → place_at R.place ≡ a → eqb R.locked Released ≡ true → Excl (Acts.to_queue s p)
  unfolding Acts.to_queue
  queue_next e free =
      by_either (λ k. Excl (to s p k)) (is_guarded s.edition)
      (go _ e (λ h t f. record { settled = free; one = λ u. clash u refl }))
      (go _ e (λ h t f. record { settled = free; one = λ u. clash u refl }))

  -- what is said of the own row, once the place is known
  pub mine : {a : Place} → place_at R.place ≡ a → Own-at x.bearer s.tail a
  mine e = at e (x.rows p)

  pub settled : {a : Place} → place_at R.place ≡ a → (facts a).locks R.locked ≡ true
  settled e = (mine e).settled

  pub rest_excl : place_at R.place ≡ rest → Excl (Acts.rest s p)
  unfolding Acts.rest put_flag
  rest_excl e =
      by_test Excl R.flag (λ g. blind p _ (λ h t q f. f) x)
      (λ g. by_either Excl (is_old s.edition) (go _ e (λ h t f. still f f.settled (λ u. u))) (queue_next e (settled e)))

  pub gate_excl : place_at R.place ≡ gate → Excl (Acts.gate s p)
  unfolding Acts.gate
  gate_excl e = by_test Excl R.guard (λ g. x) (λ g. go _ e (λ h t f. still f f.settled (λ u. u)))

  pub clear_excl : place_at R.place ≡ clear → Excl (Acts.clear s p)
  unfolding Acts.clear
  clear_excl e =
      quiet x (own_to (own_next (own_start s p room) _) _)
      (λ h t f. let f = at e f in still f f.settled (λ u. u))

  pub arm_excl : place_at R.place ≡ arm → Excl (Acts.arm s p)
  unfolding Acts.arm
  arm_excl e = go_locked _ _ e (λ h t f. still f refl (λ u. u))

  pub spin_excl : place_at R.place ≡ spin → Excl (Acts.spin s p)
  unfolding Acts.spin
  spin_excl e =
      by_test Excl (eqb R.locked Released) (λ g. go _ e (λ h t f. still f g (λ u. rw g refl)))
      (λ g. by_test Excl (is_plain s.edition) (λ b. x) (λ b. go _ e (λ h t f. f)))

  pub settle_excl : place_at R.place ≡ settle → Excl (Acts.settle s p)
  unfolding Acts.settle
  settle_excl e = go_locked _ _ e (λ h t f. still f refl (λ u. u))

  pub inside_excl : place_at R.place ≡ inside → Excl (Acts.inside s p)
  unfolding Acts.inside
  inside_excl e =
      by_either (λ k. Excl (to s p k)) (is_old s.edition) (go _ e (λ h t f. still f f.settled (λ u. u))) (go _ e (λ h t f. f))

  pub poll_excl : place_at R.place ≡ poll → Excl (Acts.poll s p)
  unfolding Acts.poll
  poll_excl e =
      by_test Excl (R.flag && eqb R.locked Locked)
      (λ g.
      quiet x (own_to (own_flag (own_locked (own_start s p room) _) _) _)
      (λ h t f. let f = at e f in still f refl (λ u. clash u refl)))
      (λ g. go _ e (λ h t f. f))

  pub service_excl : place_at R.place ≡ service → Excl (Acts.service s p)
  unfolding Acts.service
  service_excl e = go _ e (λ h t f. f)

  pub back_excl : place_at R.place ≡ back → Excl (Acts.back s p)
  unfolding Acts.back
  back_excl e =
      by_test Excl (eqb R.locked Preempted) (λ g. go_locked _ _ e (λ h t f. still f refl (λ u. clash u refl)))
      (λ g. go _ e (λ h t f.
      let left = left_of (is_left R.locked) (eqb R.locked Preempted) f.settled g in
      still f left (λ u. ap is_bearer (back_role (eqb R.locked Released) (eqb R.locked RP) left) ∙ u)))

  pub regain_excl : place_at R.place ≡ regain → Excl (Acts.regain s p)
  unfolding Acts.regain
  regain_excl e =
      by_test Excl (eqb R.locked RP) (λ g. go_locked _ _ e (λ h t f. still f refl (λ u. rw (eqb-true R.locked RP g) refl)))
      (λ g. queue_next e (left_of (eqb R.locked Released) (eqb R.locked RP) (settled e) g))

  -- who holds the token goes to hand it on
  hand_next : {a : Place} → place_at R.place ≡ a → facts a ≡ facts inside → Excl (Acts.to_hand s p)
  unfolding Acts.to_hand
  hand_next e holds =
      quiet x (own_to (own_succ (own_start s p room) _) _)
      (λ h t f.
      let f : Own-at h t inside = subst (λ (z : Facts). Sole h t p z R.locked (is_none R.nx)) holds (at e f) in
      still f f.settled (λ u. u))

  pub look_excl : place_at R.place ≡ look → Excl (Acts.look s p)
  unfolding Acts.look
  look_excl e = by_test Excl (is_none R.next) (λ g. go _ e (λ h t f. f)) (λ g. hand_next e refl)

  pub await_excl : place_at R.place ≡ await → Excl (Acts.await s p)
  unfolding Acts.await
  await_excl e = by_test Excl (is_none R.next) (λ g. x) (λ g. hand_next e refl)

  -- a processor is not the none mark
  there : p ≢ none
  there = some_row s p x.rooms room

  -- a step that writes the tail too: h is the bearer, z the tail then
  retail :
      (h : ℕ) {t : LockState} {r : Row} {z : ℕ} → Own s t p r z → SoleRow h z p r
      → ((q : ℕ) → q ≢ p → bears_row (row s q) ≡ true → (q ≡ h) × (z ≢ none)) → Excl t
  retail h {t} {z = z} o own others =
      record {
        rooms = o.rooms ∙ x.rooms;
        bearer = h;
        rows =
            subst (λ (v : ℕ). (q : ℕ) → SoleRow h v q (row t q)) (sym o.tail)
            (own_all (SoleRow h z) o own (λ q d. record { settled = (x.rows q).settled; one = others q d }));
      }

  -- where the tail is none nobody bears the token
  unborne : is_none s.tail ≡ true → (q : ℕ) → bears_row (row s q) ≡ true → ⊥
  unborne g q u = ((x.rows q).one u).1 (eqb-true s.tail none g)

  pub swap_excl : place_at R.place ≡ swap → Excl (Acts.swap s p)
  unfolding Acts.swap
  swap_excl e =
      by_test (λ k. Excl (to (put_tail (put_pred s p s.tail) p) p k)) (is_none s.tail)
      (λ g.
      retail p (own_to (own_tail (own_pred (own_start s p room) _) _) _)
      (record { settled = settled e; one = λ u. (refl, there) })
      (λ q d. λ u. absurd (unborne g q u)))
      (λ g.
      retail x.bearer (own_to (own_tail (own_pred (own_start s p room) _) _) _)
      (record { settled = settled e; one = λ u. clash u refl }) (λ q d. λ u. (((x.rows q).one u).0, there)))

  pub old_try_excl : place_at R.place ≡ old_try → Excl (Acts.old_try s p)
  unfolding Acts.old_try Acts.unheld
  old_try_excl e =
      by_test Excl (Acts.unheld s)
      (λ g.
      retail p (own_to (own_tail (own_start s p room) _) _)
      (record { settled = settled e; one = λ u. (refl, there) }) (λ q d. λ u. absurd (unborne g q u)))
      (λ g. go _ e (λ h t f. still f f.settled (λ u. u)))

  pub old_poll_excl : place_at R.place ≡ old_poll → Excl (Acts.old_poll s p)
  unfolding Acts.old_poll
  old_poll_excl e =
      by_test Excl R.flag
      (λ g.
      quiet x (own_to (own_flag (own_start s p room) _) _) (λ h t f. let f = at e f in still f f.settled (λ u. u)))
      (λ g. go _ e (λ h t f. still f f.settled (λ u. u)))

  pub old_service_excl : place_at R.place ≡ old_service → Excl (Acts.old_service s p)
  unfolding Acts.old_service
  old_service_excl e = go _ e (λ h t f. still f f.settled (λ u. u))

  -- the token goes together with the tail
  lets_go : {a : Place} → place_at R.place ≡ a → facts a ≡ facts inside → Excl (to (put_tail s none) p 0)
  lets_go e holds =
      let f : Own-at x.bearer s.tail inside =
      subst (λ (z : Facts). Sole x.bearer s.tail p z R.locked (is_none R.nx)) holds (mine e) in
      retail p (own_to (own_tail (own_start s p room) _) _)
      (record { settled = f.settled; one = λ u. clash u refl })
      (λ q d. λ u. absurd (d (((x.rows q).one u).0 ∙ sym (f.one refl).0)))

  pub close_excl : place_at R.place ≡ close → Excl (Acts.close s p)
  unfolding Acts.close
  close_excl e = by_test Excl (eqb s.tail p) (λ g. lets_go e refl) (λ g. go _ e (λ h t f. f))

  pub old_free_excl : place_at R.place ≡ old_free → Excl (Acts.old_free s p)
  unfolding Acts.old_free
  old_free_excl e = lets_go e refl

  -- who rereads has the token, and keeps it whatever it finds
  pub reread_excl : place_at R.place ≡ reread → Excl (Acts.reread s p)
  unfolding Acts.reread
  reread_excl e =
      by_test Excl (is_none (row s R.succ).next)
      (λ g.
      quiet x (own_to (own_nx (own_start s p room) _) _)
      (λ h t f. let f = at e f in still f f.settled (λ u. u)))
      (λ g.
      quiet x (own_to (own_succ (own_nx (own_start s p room) _) _) _)
      (λ h t f. let f = at e f in still f f.settled (λ u. u)))

  pub lost_excl : place_at R.place ≡ lost → Excl (Acts.lost s p)
  lost_excl e = subst Excl (lost_same s p) x

-- a write of a next or of a guard, anybody's, is nothing to the token; it leaves p's place, and p its room
pub record Aside (s t : LockState) (p : ℕ) : Type 0 where
  pub excl : Excl s → Excl t
  pub place : (row t p).place ≡ (row s p).place
  pub room : p < length s.rows → p < length t.rows

aside :
    {s : LockState} {p : ℕ} (y : ℕ) (r : Row) → ((h tail q : ℕ) → SoleRow h tail q (row s y) → SoleRow h tail q r)
    → r.place ≡ (row s y).place
    → Aside s (put_row s y r) p
aside {s} {p} y r same place =
    record {
      excl = blind y r same;
      place = put_all (λ q z. z.place ≡ (row s q).place) s y r (λ q. refl) place p;
      room = λ h. rw rows_put h;
    }

pub next_aside : (s : LockState) (p y v : ℕ) → Aside s (put_next s y v) p
unfolding put_next
next_aside s p y v = aside y (with_next (row s y) v) (λ h t q f. f) refl

pub guard_aside : (s : LockState) (p y : ℕ) (v : Bool) → Aside s (put_guard s y v) p
unfolding put_guard
guard_aside s p y v = aside y (with_guard (row s y) v) (λ h t q f. f) refl

module _ (s : LockState) (p : ℕ) (x : Excl s) (room : p < length s.rows) where
  pub link_excl : place_at (row s p).place ≡ link → Excl (Acts.link s p)
  unfolding Acts.link
  link_excl e =
      let t = put_next s (row s p).pred p in
      let w = next_aside s p (row s p).pred p in
      let bears = linked_bears (eqb (row t p).locked Released) in
      by_either (λ k. Excl (to t p k)) (is_plain s.edition)
      (go t p (w.excl x) (w.room room) _ (ap place_at w.place ∙ e) (λ h l f. still f f.settled bears))
      (go t p (w.excl x) (w.room room) _ (ap place_at w.place ∙ e) (λ h l f. still f f.settled bears))

  pub fence_excl : place_at (row s p).place ≡ fence → Excl (Acts.fence s p)
  unfolding Acts.fence
  fence_excl e =
      let w = guard_aside s p _ _ in
      go _ p (w.excl x) (w.room room) _ (ap place_at w.place ∙ e) (λ h l f. still f f.settled (λ u. u))
