-- Mutual exclusion, for every edition: never two processors inside. Token has the statement, Steps and Passing the acts
-- one by one; here they are put together.
--     excl_fresh       the fresh state meets the statement
--     excl_after       every call keeps it
--     excl_inside      who is inside bears the token, so two who are inside are one
--     excl_lost        and so does who is at 28: nobody else is inside
pub mod Token
pub mod Steps
pub mod Passing
use Prim.Native.Nat.{ℕ, ◌≤◌}
use mathlib.Core.Path.{◌≡◌, refl, sym, subst, ◌∙◌}
use mathlib.Core.Bool.{Bool, true}
use native.Mathlib.Omega.{arith}
use lib.Dec.{eqb, ltb}
use borrow.Author.Tests.{eqb-true}
use Rattle.lock.specs.declared.LockState.{LockState}
use Rattle.lock.specs.State.{processors, editions, is_none, fresh_state, row, put_flag}
use Rattle.lock.specs.Table.{place_at, act, stepped}
use Rattle.lock.specs.Event.{raised}
use Rattle.lock.specs.Run.{Call, after, is_inside}
use Rattle.lock.specs.Reread.{is_lost}
use Rattle.lock.proofs.Ground.Places.{at_number}
use Rattle.lock.proofs.Ground.Calls.{Kind, idle, raise, step, kind}
use Rattle.lock.proofs.Ground.Facts.{facts_at, bears}
use Rattle.lock.proofs.Keeping.Parts.{row_room}
use Rattle.lock.proofs.Exclusion.Token.{Sole, blind}
use Rattle.lock.proofs.Exclusion.Passing.{acts}
use Rattle.lock.proofs.Ground.Writes.{fresh_row_there}
use Rattle.lock.proofs.Exclusion.Token as Token

pub Excl : LockState → Type 0
Excl s = Token.Excl s

pub excl_fresh : (e n : ℕ) → ltb e editions ≡ true → 1 ≤ n → n ≤ processors → Excl (fresh_state e n)
unfolding Excl fresh_state
excl_fresh e n small some many =
    record {
      rooms = refl;
      bearer = 0;
      rows = λ q. rw (fresh_row_there e n q)
          (record { settled = refl; one = λ u. absurd (let z : ◌≡◌ {A = ℕ} 0 1 = cc in omega arith) });
    }

pub excl_after : (s : LockState) (c : Call) → Excl s → Excl (after s c)
unfolding Excl stepped raised put_flag
excl_after s c x = by (kind s c)
  where
    by : Kind s c → Excl (after s c)
    by (idle e still) = subst Token.Excl (sym e) x
    by (raise a e still) = subst Token.Excl (sym e) (blind c.processor _ (λ h t q f. f) x)
    by (step a e whose) =
        let p = c.processor in
        subst Token.Excl (sym e)
        (at_number (λ k. place_at (row s p).place ≡ k → Token.Excl (act k s p))
        (acts s p x (row_room s a.fit x.rooms a.below)) (λ k. x) (row s p).place refl)

-- who stands where the token always is, is the bearer
bearer_at :
    (s : LockState) (p m : ℕ) (x : Token.Excl s) → ((l : ℕ) (b : Bool) → bears (facts_at m) l b ≡ true) → eqb (row s p).place m ≡ true
    → p ≡ x.bearer
bearer_at s p m x bears h =
    let r = row s p in
    let f : Sole x.bearer s.tail p (facts_at m) r.locked (is_none r.nx) =
    subst (λ (k : ℕ). Sole x.bearer s.tail p (facts_at k) r.locked (is_none r.nx)) (eqb-true r.place m h) (x.rows p) in
    (f.one (bears r.locked (is_none r.nx))).0

pub excl_inside : (s : LockState) (p q : ℕ) → Excl s → is_inside s p ≡ true → is_inside s q ≡ true → p ≡ q
unfolding Excl is_inside
excl_inside s p q x h k = bearer_at s p 9 x (λ l b. refl) h ∙ sym (bearer_at s q 9 x (λ l b. refl) k)

pub excl_lost : (s : LockState) (p q : ℕ) → Excl s → is_lost s p ≡ true → is_inside s q ≡ true → p ≡ q
unfolding Excl is_inside
excl_lost s p q x h k = bearer_at s p 28 x (λ l b. refl) h ∙ sym (bearer_at s q 9 x (λ l b. refl) k)
