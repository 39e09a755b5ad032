-- Mutual exclusion, the acts that pass the token on, or go on from where it was passed: 6, 17 and 19 to 22. Each keeps
-- the statement that at most one bears the token. At the end `acts`: all acts, in the order of their places.
use Prim.Native.Nat.{ℕ, ◌<◌}
use mathlib.Core.Path.{◌≡◌, refl, sym, ap, subst, ◌∙◌}
use mathlib.Core.Bool.{Bool, true, false, cond}
use mathlib.Core.Logic.{◌≢◌}
use lib.Dec.{eqb}
use lib.ListN.{length, length-set}
use borrow.Author.Tests.{eqb-true, not-true}
use Rattle.lock.specs.declared.Row.{Row}
use Rattle.lock.specs.declared.LockState.{LockState}
use Rattle.choice.proofs.Tests.{clash, by_test, by_either}
use Rattle.lock.specs.State.{processors, none, is_none, is_plain, is_drawn, Released, Locked, Preempted, RP, with_locked, row, put_row, put_locked, to, put_nx}
use Rattle.lock.specs.Table.{Place, place_at, act, claim, hand, park, peek, take, lift}
use Rattle.lock.specs.Sound.{places}
use Rattle.lock.proofs.Ground.Writes.{Own, own_start, own_all, put_all, row_there, own_locked, own_nx, own_succ, own_to}
use Rattle.lock.proofs.Ground.Facts.{rel, lag, is_bearer, facts, facts_at, bears}
use Rattle.lock.proofs.Exclusion.Token.{Sole, SoleRow, bears_row, Excl, parked_bears, parked_left, free_locks, parked_locks, quiet}
use Rattle.lock.proofs.Exclusion.Steps.{still, go, at, mine, settled, rest_excl, gate_excl, clear_excl, swap_excl, arm_excl, link_excl, spin_excl, settle_excl, inside_excl, poll_excl, service_excl, back_excl, regain_excl, look_excl, close_excl, await_excl, fence_excl, old_try_excl, old_poll_excl, old_service_excl, old_free_excl, reread_excl, lost_excl, guard_aside}
use Rattle.lock.proofs.Ground.Places.{Each, begin, ◌▹◌}
use Rattle.lock.specs.Acts as Acts

-- a state in which only p's row is still to be written: h is the bearer, p has none or will be the bearer, p's locked
-- is Released
record Poised (s : LockState) (p h : ℕ) : Type 0 where
  room : p < length s.rows
  rooms : length s.rows ≡ processors
  others : (q : ℕ) → q ≢ p → SoleRow h s.tail q (row s q)
  free : eqb (row s p).locked 0 ≡ true
  right : is_none (row s p).nx ≡ false → (p ≡ h) × (s.tail ≢ none)

-- p's row is written last
lands :
    {s t : LockState} {p h : ℕ} {r : Row} → length s.rows ≡ processors
    → ((q : ℕ) → q ≢ p → SoleRow h s.tail q (row s q)) → Own s t p r s.tail → SoleRow h s.tail p r
    → Excl t
lands {s} {t} {p} {h} rooms others o mine =
    record {
      rooms = o.rooms ∙ rooms;
      bearer = h;
      rows = subst (λ (v : ℕ). (q : ℕ) → SoleRow h v q (row t q)) (sym o.tail) (own_all (SoleRow h s.tail) o mine others);
    }

-- who lifts bears the token only with an nx
lift_bears : (b : Bool) → is_bearer (cond b lag rel) ≡ true → b ≡ false
lift_bears true u = clash u refl
lift_bears false u = refl

onward_excl : (s : LockState) (p h : ℕ) → Poised s p h → Excl (Acts.onward s p)
unfolding Acts.onward put_row
onward_excl s p h w =
    by_test Excl (is_none (row s p).nx)
    (λ g.
    lands w.rooms w.others (own_to (own_start s p w.room) _)
    (record { settled = w.free; one = λ u. clash u refl }))
    (λ g.
    lands w.rooms w.others (own_to (own_succ (own_start s p w.room) _) _)
    (record { settled = w.free; one = λ u. w.right g }))

lift_to_excl : (s : LockState) (p h : ℕ) → Poised s p h → Excl (Acts.to_lift s p)
unfolding Acts.to_lift put_row
lift_to_excl s p h w =
    by_test Excl (is_drawn s.edition) (λ g. onward_excl s p h w)
    (λ g.
    lands w.rooms w.others (own_to (own_start s p w.room) _)
    (record { settled = w.free; one = λ u. w.right (lift_bears (is_none (row s p).nx) u) }))

module _ (s : LockState) (p : ℕ) (x : Excl s) (room : p < length s.rows) where
  abbrev R : Row
  R = row s p

  fits : {a : Place} → place_at R.place ≡ a → (facts a).locks R.locked ≡ true
  fits e = settled s p x room e

  -- who bears is the bearer: where p bears, no other does
  alone : bears_row R ≡ true → (h q : ℕ) → q ≢ p → SoleRow h s.tail q (row s q)
  alone u h q d =
      record {
        settled = (x.rows q).settled;
        one = λ v. absurd
            (d (((x.rows q).one v).0 ∙ sym ((x.rows p).one u).0));
      }

  -- The token moves between p and its neighbour y, whose locked is written first. Of all but p it is said that the
  -- new bearer is h, of p only which locked it has.
  abbrev Beside : ℕ → (ℕ → Bool) → ℕ → Row → Type 0
  Beside h ok q r = (q ≢ p → SoleRow h s.tail q r) × (q ≡ p → ok r.locked ≡ true)

  -- y's token is taken: y was parked on, so it was the bearer, and now no other than p can be
  taken : (y : ℕ) (ok : ℕ → Bool) → eqb (row s y).locked RP ≡ true → ok R.locked ≡ true → ok Released ≡ true
      → (s.tail ≢ none) × ((q : ℕ) → Beside p ok q (row (put_locked s y Released) q))
  unfolding put_locked
  taken y ok g own released =
      let m = (row s y).place in
      let no = is_none (row s y).nx in
      let was : Sole x.bearer s.tail y (facts_at m) RP no =
      subst (λ (l : ℕ). Sole x.bearer s.tail y (facts_at m) l no) (eqb-true (row s y).locked RP g) (x.rows y) in
      let bore : (y ≡ x.bearer) × (s.tail ≢ none) = was.one (parked_bears m no was.settled) in
      let near : y < length s.rows = row_there s y (λ e. clash (rw e at g) refl) in (
        bore.1,
        own_all (Beside p ok) (own_locked (own_start s y near) _) (
          λ d. record {
            settled = free_locks m;
            one = λ u. clash u
                (not-true (bears (facts_at m) Released no) (parked_left m no was.settled));
          },
          λ e. released,
        )
            (λ q d. (
              λ c. record {
                settled = (x.rows q).settled;
                one = λ u. absurd
                    (d (((x.rows q).one u).0 ∙ sym bore.0));
              },
              λ e. rw e own,
            )),
      )

  -- p takes y's token and goes to the place at k
  takes : (y k : ℕ) → eqb (row s y).locked RP ≡ true → (facts_at k).locks R.locked ≡ true → Excl (to (put_locked s y Released) p k)
  unfolding put_row put_locked
  takes y k g own =
      let w = taken y (facts_at k).locks g own (free_locks k) in
      lands (simp length-set x.rooms) (λ q d. (w.1 q).0 d)
      (own_to (own_start (put_locked s y Released) p (rw length-set room)) _)
      (record { settled = (w.1 p).1 refl; one = λ u. (refl, w.0) })

  pub claim_excl : place_at R.place ≡ claim → Excl (Acts.claim s p)
  unfolding Acts.claim
  claim_excl e =
      by_test Excl (eqb (row s R.pred).locked RP) (λ g. takes R.pred 8 g (fits e))
      (λ g. go s p x room _ e (λ h t f. still f f.settled (λ u. u)))

  -- p gives its token to y, whose locked becomes v
  given :
      (y v : ℕ) → bears_row R ≡ true → eqb R.locked 0 ≡ true → (facts_at (row s y).place).locks v ≡ true
      → (y ≡ p → eqb v 0 ≡ true)
      → (q : ℕ) → Beside y (λ l. eqb l Released) q (row (put_locked s y v) q)
  unfolding put_locked
  given y v u free fit self =
      put_all (Beside y (λ l. eqb l Released)) s y (with_locked (row s y) v)
      (λ q. (λ d. alone u y q d, λ e. rw e free))
      (λ d. record { settled = fit; one = λ w. (refl, ((x.rows p).one u).1) }, self)

  handed : place_at R.place ≡ hand → Excl (to (put_locked s R.succ Released) p 0)
  unfolding put_row put_locked
  handed e =
      let w = given R.succ Released (rw e refl) (fits e) (free_locks (row s R.succ).place)
      (λ z. refl) in
      lands (simp length-set x.rooms) (λ q d. (w q).0 d)
      (own_to (own_start (put_locked s R.succ Released) p (rw length-set room)) _)
      (record { settled = (w p).1 refl; one = λ u. clash u refl })

  pub hand_excl : place_at R.place ≡ hand → Excl (Acts.hand s p)
  unfolding Acts.hand
  hand_excl e =
      by_test Excl (is_plain s.edition) (λ g. handed e)
      (λ g.
      by_test Excl (eqb (row s R.succ).locked Locked) (λ b. handed e)
      (λ b.
      by_either (λ k. Excl (to s p k)) (is_drawn s.edition)
      (go s p x room _ e (λ h t f. still f f.settled (λ u. u)))
      (go s p x room _ e (λ h t f. still f f.settled (λ u. u)))))

  -- nx is written: the bearer stays
  nx_poised :
      (v : ℕ) {a : Place} → place_at R.place ≡ a → eqb R.locked Released ≡ true
      → (is_none v ≡ false → bears (facts a) R.locked (is_none R.nx) ≡ true) → Poised (put_nx s p v) p x.bearer
  unfolding put_nx put_row
  nx_poised v e free right =
      let o = own_nx (own_start s p room) _ in
      record {
        room = o.room;
        rooms = o.rooms ∙ x.rooms;
        others = λ q d. rw (o.others q d) (x.rows q);
        free = rw o.own free;
        right = rw o.own (λ g. (mine s p x room e).one (right g));
      }

  pub park_excl : place_at R.place ≡ park → Excl (Acts.park s p)
  unfolding Acts.park put_row put_locked
  park_excl e =
      by_test Excl (eqb (row s R.succ).locked Preempted)
      (λ g.
      let y = R.succ in
      let same : (row s y).locked ≡ Preempted = eqb-true (row s y).locked Preempted g in
      let w = given y RP (rw e refl) (fits e)
      (parked_locks (row s y).place (subst (λ (l : ℕ). (facts_at (row s y).place).locks l ≡ true) same (x.rows y).settled))
      (λ z. clash (rw (sym (ap (λ (q : ℕ). (row s q).locked) z) ∙ same) at (fits e)) refl) in
      lands (simp length-set x.rooms) (λ q d. (w q).0 d)
      (own_to (own_start (put_locked s y RP) p (rw length-set room)) _)
      (record { settled = (w p).1 refl; one = λ u. clash u refl }))
      (λ g. lift_to_excl (put_nx s p R.succ) p x.bearer (nx_poised R.succ e (fits e) (λ u. refl)))

  pub peek_excl : place_at R.place ≡ peek → Excl (Acts.peek s p)
  unfolding Acts.peek put_row put_nx
  peek_excl e =
      by_test Excl (is_none (row s R.succ).next)
      (λ g.
      lift_to_excl (put_nx s p (row s R.succ).next) p x.bearer
      (nx_poised (row s R.succ).next e (fits e) (λ u. clash g u)))
      (λ g.
      quiet x (own_to (own_nx (own_start s p room) _) _)
      (λ h t f. let f = at s p x room e f in still f f.settled (λ u. u)))

  pub take_excl : place_at R.place ≡ take → Excl (Acts.take s p)
  unfolding Acts.take
  take_excl e =
      by_test Excl (eqb (row s R.succ).locked RP)
      (λ g.
      by_either (λ k. Excl (to (put_locked s R.succ Released) p k)) (is_drawn s.edition) (takes R.succ 27 g (fits e))
      (takes R.succ 22 g (fits e)))
      (λ g. lift_to_excl (put_nx s p none) p x.bearer (nx_poised none e (fits e) (λ u. clash refl u)))

-- on from the lift, from a state in which p still stands there
lift_on : (t : LockState) (p : ℕ) → Excl t → p < length t.rows → place_at (row t p).place ≡ lift → Excl (Acts.onward t p)
lift_on t p z room e =
    let f = mine t p z room e in
    onward_excl t p z.bearer
    (record {
      room = room;
      rooms = z.rooms;
      others = λ q d. z.rows q;
      free = f.settled;
      right = λ g. f.one (rw g refl);
    })

lift_excl : (s : LockState) (p : ℕ) → Excl s → p < length s.rows → place_at (row s p).place ≡ lift → Excl (Acts.lift s p)
unfolding Acts.lift
lift_excl s p x room e =
    let w = guard_aside s p _ _ in
    lift_on _ p (w.excl x) (w.room room) (ap place_at w.place ∙ e)

-- the act of each place
pub acts :
    (s : LockState) (p : ℕ) → Excl s → p < length s.rows
    → Each (λ m. place_at (row s p).place ≡ place_at m → Excl (act (place_at m) s p)) places
acts s p x h =
    begin ▹ rest_excl s p x h ▹ gate_excl s p x h ▹ clear_excl s p x h ▹ swap_excl s p x h ▹ arm_excl s p x h
    ▹ link_excl s p x h ▹ claim_excl s p x h ▹ spin_excl s p x h ▹ settle_excl s p x h ▹ inside_excl s p x h
    ▹ poll_excl s p x h ▹ service_excl s p x h ▹ back_excl s p x h ▹ regain_excl s p x h ▹ look_excl s p x h
    ▹ close_excl s p x h ▹ await_excl s p x h ▹ hand_excl s p x h ▹ fence_excl s p x h ▹ park_excl s p x h
    ▹ peek_excl s p x h ▹ take_excl s p x h ▹ lift_excl s p x h ▹ old_try_excl s p x h
    ▹ old_poll_excl s p x h ▹ old_service_excl s p x h ▹ old_free_excl s p x h ▹ reread_excl s p x h ▹ lost_excl s p x h
