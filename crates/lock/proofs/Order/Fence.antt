-- Place 18: the heir's guard is set before the lock is parked on it. Nobody fences the heir yet: another who hands on
-- there is not, and who lags on a row finds its locked Released or R_P, but the heir waits.
use Prim.Native.Nat.{ℕ, suc, ◌<◌}
use mathlib.Core.Path.{◌≡◌, refl, sym, ap, subst, ◌∙◌}
use mathlib.Core.Bool.{Bool, true, false}
use mathlib.Core.Logic.{◌≢◌, ⊎_elim}
use native.Mathlib.Omega.{arith}
use lib.ListN.{length}
use borrow.Author.Tests.{not-true}
use Rattle.lock.specs.declared.Row.{Row}
use Rattle.lock.specs.declared.LockState.{LockState}
use Rattle.choice.proofs.Tests.{clash}
use Rattle.choice.proofs.Numbers.{by_same}
use Rattle.lock.specs.State.{none, is_none, with_guard, with_place, row}
use Rattle.lock.specs.Sound.{has_place, sound}
use Rattle.lock.specs.Table.{place_at, fence}
use Rattle.lock.proofs.Ground.Facts.{rel, lag, facts, facts_at, is_left}
use Rattle.lock.proofs.Order.Tickets.{Tickets}
use Rattle.lock.proofs.Keeping.Parts.{row_has}
use Rattle.lock.proofs.Ground.Writes.{both_start, both_to, near_guard}
use Rattle.lock.proofs.Order.Roles.{wait_open, wait_stays, fences_kind, peeked_fences, plain_fencing}
use Rattle.lock.proofs.Order.Statement.{Ghost, upd, upd_same, upd_other, upd_back, Rel, Lag, Fenced, Fit, FitRow, Holds}
use Rattle.lock.proofs.Order.Carry.{refenced, refence_books, fenced_same, manned_same, fencing_map, refence, refence_fit}
use Rattle.lock.proofs.Order.Near.{duty_as, Heir, heir_waits}
use Rattle.lock.proofs.Order.Build.{both_holds}
use Rattle.lock.proofs.Order.Quiet.{mine}
use Rattle.lock.specs.Acts as Acts

module _ (s : LockState) (g : Tickets) (p : ℕ) (v : Holds s g) (room : p < length s.rows) (e : place_at (row s p).place ≡ fence) where
  abbrev R : Row
  R = row s p

  abbrev y : ℕ
  y = R.succ

  abbrev Y : Row
  Y = row s y

  abbrev G : Ghost
  G = v.ghost

  abbrev F : ℕ → ℕ
  F = upd G.fencer y (suc p)

  abbrev K : ℕ → Bool
  K = upd G.lagged y false

  abbrev Z : ℕ → ℕ
  Z = upd G.peeked y none

  f : Fit s.edition g G p (facts fence) R.locked R.next R.pred R.succ R.nx R.guard
  f = mine s g p v room e

  d : Rel g G p y
  d = f.duty

  heir : Heir s g v p y
  heir = heir_waits s g v p y d

  -- nobody lags on the heir
  no_lag : (q : ℕ) {x : ℕ} → Lag g G q x → x ≢ y
  no_lag q k o =
      let fy = v.fits y in
      let on : G.fencer y ≢ 0 = λ n. let b : suc q ≡ 0 = sym k.fenced ∙ ap G.fencer o ∙ n in omega arith in
      clash ((fy.fenced on).still (sym (ap G.lagged o) ∙ k.parked))
      (not-true (is_left Y.locked)
      (wait_stays Y.place Y.locked (is_none Y.nx) fy.small heir.waiting fy.settles))

  -- nor does another fence it
  no_fence : (q : ℕ) → q ≢ p → (facts_at (row s q).place).fences ≡ true → (row s q).succ ≢ y
  no_fence q a k =
      let r = row s q in
      ⊎_elim (λ o u. a ((duty_as s g v q {ρ = rel} o).only ∙ sym d.only))
      (λ o. no_lag q (duty_as s g v q {ρ = lag} o))
      (fences_kind r.place r.locked (is_none r.nx) (v.fits q).small k)

  -- whoever is not p, with its guard as it is now
  other :
      (q : ℕ) → q ≢ p → (guard : Bool) → (guard ≡ true → (facts_at (row s q).place).opens ≡ true)
      → (F q ≢ 0 → Fenced (K q) (Z q) (row s q).locked (row s q).next guard)
      → (guard ≡ true → (s.edition ≢ 0) × (F q ≢ 0))
      → FitRow s.edition g (refenced G F K Z) q (with_guard (row s q) guard)
  other q a guard sh fd mn =
      let r = row s q in
      let st = facts_at r.place in
      refence_fit g G F K Z
      (λ k.
      let ne : r.succ ≢ y = no_lag q k in (
        upd_other G.fencer y (suc p) r.succ ne ∙ k.fenced,
        upd_other G.lagged y false r.succ ne
            ∙ k.parked,
      ))
      (fencing_map st.fences G.fencer F q r.succ
      (λ b k. upd_other G.fencer y (suc p) r.succ (no_fence q a b) ∙ k)
      (λ x k. upd_back G.fencer y (suc p) (suc q) x (λ z. a (omega arith)) k))
      (λ k. upd_other G.peeked y none r.succ (no_fence q a (peeked_fences r.place k))) sh fd mn (v.fits q)

  own : FitRow s.edition g (refenced G F K Z) p (with_place R 19)
  own =
      record {
        small = f.small;
        settles = f.settles;
        duty = refence g G F K Z rel p R.next y y (λ k. absurd (no_lag p k refl)) d;
        joins = tt;
        blank = tt;
        fencing = (
          upd_same G.fencer y (suc p),
          λ k. heir.apart (sym k),
          by_same (λ x. F x ≡ suc p → x ≡ y) y (λ k. refl)
              (λ x c k. absurd (f.fencing x (sym (upd_other G.fencer y (suc p) x c) ∙ k))),
        );
        peeking = (tt, tt);
        shut = λ k. refl;
        fenced =
            fenced_same G F K Z p R.locked R.next R.guard (upd_other G.fencer y (suc p) p heir.apart)
            (upd_other G.lagged y false p heir.apart) (upd_other G.peeked y none p heir.apart) f.fenced;
        manned = manned_same (upd_other G.fencer y (suc p) p heir.apart) f.manned;
      }

  pub fence_holds : sound s ≡ true → Holds (Acts.fence s p) g
  unfolding Acts.fence
  fence_holds fit =
      both_holds v (refenced G F K Z)
      (both_to (near_guard (both_start s p y heir.apart room heir.near) _) _)
      (refence_books F K Z v.books) own
      (other y (λ k. heir.apart (sym k)) true
      (λ k. wait_open Y.place Y.locked (is_none Y.nx) (v.fits y).small heir.waiting (v.fits y).settles)
      (λ k.
      record {
        set = refl;
        still = λ b. clash b (upd_same G.lagged y false);
        kept = λ n. absurd (n (upd_same G.peeked y none));
      })
      (λ k. (
        λ plain.
            plain_fencing R.place
            (subst (λ (z : ℕ). has_place z R.place ≡ true) plain
            (row_has s fit p (subst (λ (n : ℕ). p < n) v.rooms room))) e,
        λ n. let z : suc p ≡ 0 = sym (upd_same G.fencer y (suc p)) ∙ n in omega arith,
      )))
      (λ q a b.
      other q a (row s q).guard (v.fits q).shut
      (fenced_same G F K Z q (row s q).locked (row s q).next (row s q).guard
      (upd_other G.fencer y (suc p) q b)
      (upd_other G.lagged y false q b) (upd_other G.peeked y none q b) (v.fits q).fenced)
      (manned_same (upd_other G.fencer y (suc p) q b) (v.fits q).manned))
