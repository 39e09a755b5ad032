-- In a lock with a queue, who is not a member of it stays so until its own join (outsider_stays). One is not a member at the places
-- outside the queue, or away on an interrupt, at 11 to 13, with locked Released. No step of another makes a Released
-- locked anything else; an own step from outside leads outside, unless it is the swap; and one that is away and
-- Released comes back outside.
use Prim.Native.Nat.{ℕ, ◌<◌}
use mathlib.Core.Path.{◌≡◌, refl, sym, ap, ap₂, ◌∙◌, subst}
use mathlib.Core.Bool.{Bool, true, false, not, ◌&&◌, ◌||◌, or-true}
use mathlib.Core.Logic.{◌≢◌}
use lib.ListN.{length}
use lib.Dec.{eqb, lit<}
use borrow.Author.Tests.{eqb-true}
use Rattle.choice.specs.Every.{every}
use Rattle.choice.proofs.Tests.{clash, implies, implied, by_test, by_either}
use Rattle.lock.specs.State.{processors, is_guarded, Released, Preempted, RP, row, to, with_place}
use Rattle.lock.specs.Table.{Place, place_at, act, stepped}
use Rattle.lock.specs.Run.{Call, after, joins}
use Rattle.lock.proofs.Ground.Rows.{row_put_same}
use Rattle.lock.proofs.Ground.Facts.{Phase, outer, queueing, away, holding, releasing, apart, outside, is_away, is_apart, queues, entry, number, normal, phase_at, number_test, at_facts}
use Rattle.lock.proofs.Order.Tickets.{is_member}
use Rattle.lock.proofs.Waiting.Leads.{all_of, unjoined_leads}
use Rattle.lock.proofs.Waiting.Stepping.{Queue, not_apart, Stepped, by_step, stepping, anywhere, whoever, join_test, there}
use Rattle.lock.specs.declared.LockState.{LockState}
use Rattle.lock.specs.Acts as Acts

-- not a member: outside, or away with locked Released
data Out (f : Phase) (l : ℕ) : Type 0 where
  left : outside f ≡ true → Out f l
  passed : is_away f ≡ true → l ≡ Released → Out f l

out : (f : Phase) (l : ℕ) → queues f l ≡ false → Out f l
out outer l h = left refl
out queueing l h = clash refl h
out away l h = by (eqb l Released) refl h
  where
    by : (b : Bool) → eqb l Released ≡ b → not b ≡ false → Out away l
    by true e h = passed refl (eqb-true l Released e)
    by false e h = clash refl h
out holding l h = clash refl h
out releasing l h = left refl
out apart l h = left refl

-- and the other way round
outside_is_out : (f : Phase) (l : ℕ) → outside f ≡ true → queues f l ≡ false
outside_is_out f l h = ap (λ b. not b && (not (is_away f) || not (eqb l Released))) h

away_is_out : (f : Phase) (l : ℕ) → (outside f || is_away f) ≡ true → l ≡ Released → queues f l ≡ false
away_is_out outer l h e = refl
away_is_out queueing l h e = clash h refl
away_is_out away l h e = ap (λ l. not (eqb l Released)) e
away_is_out holding l h e = clash h refl
away_is_out releasing l h e = refl
away_is_out apart l h e = refl

-- x has processor p outside the queue
abbrev IsOut : ℕ → LockState → Type 0
IsOut p x = queues (phase_at (row x p).place) (row x p).locked ≡ false

-- who is away is at 11, 12 or 13
away_at : (m : ℕ) → is_away (phase_at m) ≡ true → (eqb m 11 || eqb m 12 || eqb m 13) ≡ true
unfolding every
away_at m h =
    sym (λ i. number_test m 11 (lit< tt) i || number_test m 12 (lit< tt) i || number_test m 13 (lit< tt) i)
    ∙ implied (is_away (phase_at m)) (eqb (normal m) 11 || eqb (normal m) 12 || eqb (normal m) 13)
    (at_facts (λ k. implies (is_away (entry k).phase) (eqb (number k) 11 || eqb (number k) 12 || eqb (number k) 13)) refl m) h

module _ (s : LockState) (p : ℕ) (here : p < length s.rows) (released : (row s p).locked ≡ Released) where
  out_to : (v : ℕ) → (outside (phase_at v) || is_away (phase_at v)) ≡ true → IsOut p (to s p v)
  unfolding to
  out_to v h =
      ap (λ w. queues (phase_at w.place) w.locked) (row_put_same s p (with_place (row s p) v) here)
      ∙ away_is_out (phase_at v) (row s p).locked h released

  out_service : IsOut p (Acts.service s p)
  unfolding Acts.service
  out_service = out_to _ refl

  -- with locked Released the tests of back and regain fail
  out_back : IsOut p (Acts.back s p)
  unfolding Acts.back
  out_back =
      by_test (IsOut p) (eqb (row s p).locked Preempted) (λ b. clash b (ap (λ l. eqb l Preempted) released))
      (λ b. out_to _ refl)

  out_regain : IsOut p (Acts.regain s p)
  unfolding Acts.regain Acts.to_queue
  out_regain =
      by_test (IsOut p) (eqb (row s p).locked RP) (λ b. clash b (ap (λ l. eqb l RP) released))
      (λ b. by_either (λ v. IsOut p (to s p v)) (is_guarded s.edition) (out_to _ refl) (out_to _ refl))

  out_away : is_away (phase_at (row s p).place) ≡ true → IsOut p (act (place_at (row s p).place) s p)
  out_away h =
      by (eqb m 11) (eqb m 12) (eqb m 13) refl refl refl (away_at m h)
    where
      m : ℕ
      m = (row s p).place

      is : (v : ℕ) → eqb m v ≡ true → IsOut p (act (place_at v) s p) → IsOut p (act (place_at m) s p)
      is v e o = subst (λ (k : ℕ). IsOut p (act (place_at k) s p)) (sym (eqb-true m v e)) o

      by : (a b c : Bool) → eqb m 11 ≡ a → eqb m 12 ≡ b → eqb m 13 ≡ c → (a || b || c) ≡ true → IsOut p (act (place_at m) s p)
      by true b c e f g h = is 11 e out_service
      by false true c e f g h = is 12 f out_back
      by false false true e f g h = is 13 g out_regain
      by false false false e f g h = clash h refl

-- the table's part: from outside one gets outside, unless by the swap or in the old boards' lock
abbrev is_outside : Place → Bool
is_outside j = outside (entry j).phase

outside_leads :
    (m : ℕ) → outside (phase_at m) ≡ true → is_apart (phase_at m) ≡ false → eqb (normal m) 3 ≡ false
    → all_of is_outside (entry (place_at m)).leads ≡ true
unfolding every
outside_leads = unjoined_leads outside is_outside refl

module _ (s : LockState) (c : Call) (queue : Queue s) (k : Stepped s c) where
  whole : length s.rows ≡ processors
  whole = queue.rows

  own_outsider : Out (phase_at (row s c.processor).place) (row s c.processor).locked
      → joins s c c.processor ≡ false → IsOut c.processor (after s c)
  unfolding stepped
  own_outsider (left h) none =
      let t = row (after s c) c.processor in
      outside_is_out (phase_at t.place) t.locked
      (stepping s c whole k is_outside (outside_leads (row s c.processor).place h (not_apart s c queue k)
      (join_test s c whole k false none))).own
  own_outsider (passed h z) none =
      subst (IsOut c.processor) (sym k.act) (out_away s c.processor (there s c whole k) z h)

  other_outsider :
      (q : ℕ) → q ≢ c.processor → Out (phase_at (row s q).place) (row s q).locked → IsOut q (after s c)
  other_outsider q other o =
      ap (λ m. queues (phase_at m) (row (after s c) q).locked) ((anywhere s c whole k).others q other) ∙ still o
    where
      still :
          Out (phase_at (row s q).place) (row s q).locked
          → queues (phase_at (row s q).place) (row (after s c) q).locked ≡ false
      still (left h) = outside_is_out (phase_at (row s q).place) (row (after s c) q).locked h
      still (passed h z) =
          away_is_out (phase_at (row s q).place) (row (after s c) q).locked
          (ap (λ b. outside (phase_at (row s q).place) || b) h ∙ or-true (outside (phase_at (row s q).place)))
          ((anywhere s c whole k).released q other z)

pub outsider_stays : (s : LockState) (c : Call) → Queue s
    → (q : ℕ) → is_member s q ≡ false → joins s c q ≡ false → is_member (after s c) q ≡ false
unfolding is_member
outsider_stays s c queue =
    by_step s c (λ still same q h none. ap₂ (λ m l. queues (phase_at m) l) (same.places q) (same.locked q) ∙ h)
    (λ k.
    whoever s c queue.rows k (λ q. IsOut q s → joins s c q ≡ false → IsOut q (after s c))
    (λ h none. own_outsider s c queue k
    (out (phase_at (row s c.processor).place) (row s c.processor).locked h) none)
    (λ q other idle h none. other_outsider s c queue k q other (out (phase_at (row s q).place) (row s q).locked h)))
