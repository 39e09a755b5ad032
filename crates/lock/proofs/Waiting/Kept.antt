-- What writes leave. An act of processor p is a chain of writes, and at most one of them, the last, is of p's place.
--     Cells, cells_on              the private cells of a row are as they were
--     Kept                         what any chain of other writes leaves: every place, and of a row which is not p's the private
--                                  cells and that it is Released
--     kept_self, kept_tail, kept_next, kept_guard, kept_flag, kept_pred, kept_succ, kept_nx        writes that keep
--     kept_release, kept_own, kept_locked      a locked is made Released, is p's own, or was not Released before
--     Goes                         with the last write: where p then is
--     goes_to, stays               its two ends: a write of p's place, or none
use Prim.Native.Nat.{ℕ, ◌<◌}
use mathlib.Core.Path.{◌≡◌, refl, sym, ap, ◌∙◌, subst}
use mathlib.Core.Bool.{Bool, true}
use mathlib.Core.Logic.{◌≢◌}
use lib.ListN.{length}
use Rattle.lock.specs.declared.Row.{Row}
use Rattle.lock.specs.declared.LockState.{LockState}
use Rattle.lock.specs.State.{row, put_row, put_tail, put_next, put_locked, put_guard, put_flag, to, put_pred, put_succ, put_nx, with_next, with_locked, with_guard, with_flag, with_place, with_pred, with_succ, with_nx, Released}
use Rattle.lock.specs.Table.{Place, place_at}
use Rattle.lock.proofs.Ground.Rows.{rows_put, row_put_same, row_put_other}
use Rattle.lock.proofs.Ground.Writes.{row_put_either}

-- succ and nx are as they were: both are private, so that only their own processor writes them
pub record Cells (was is : Row) : Type 0 where
  pub succ : is.succ ≡ was.succ
  pub nx : is.nx ≡ was.nx

pub cells_self : {r : Row} → Cells r r
cells_self = record { succ = refl; nx = refl }

pub cells_on : {a b c : Row} → Cells a b → Cells b c → Cells a c
cells_on h k = record { succ = k.succ ∙ h.succ; nx = k.nx ∙ h.nx }

-- x keeps what s has: every place, every Released and private cell of a row other than p's, the number of rows, N, the edition
pub record Kept (s : LockState) (p : ℕ) (x : LockState) : Type 0 where
  pub places : (q : ℕ) → (row x q).place ≡ (row s q).place
  pub private : (q : ℕ) → q ≢ p → Cells (row s q) (row x q)
  pub released : (q : ℕ) → q ≢ p → (row s q).locked ≡ Released → (row x q).locked ≡ Released
  pub rows : length x.rows ≡ length s.rows
  pub size : x.n ≡ s.n
  pub edition : x.edition ≡ s.edition

pub kept_self : {s : LockState} {p : ℕ} → Kept s p s
kept_self = record { places = λ q. refl; private = λ q other. cells_self; released = λ q other h. h; rows = refl; size = refl; edition = refl }

pub kept_row : {s x : LockState} {p : ℕ} (i : ℕ) (r : Row) → Kept s p x → r.place ≡ (row x i).place
    → (i ≢ p → r.succ ≡ (row x i).succ) → (i ≢ p → r.nx ≡ (row x i).nx)
    → (i ≢ p → (row x i).locked ≡ Released → r.locked ≡ Released) → Kept s p (put_row x i r)
unfolding put_row
kept_row {s} {x} {p} i r k place succ nx locked =
    record {
      private = λ q other. row_put_either (λ w. Cells (row s q) w) x i r q (k.private q other)
          (λ e.
          let i-other : i ≢ p = λ f. other (e ∙ f) in
          cells_on (k.private q other)
          (subst (λ j. Cells (row x j) r) (sym e) (record { succ = succ i-other; nx = nx i-other })));
      places = λ q. row_put_either (λ w. w.place ≡ (row s q).place) x i r q (k.places q)
          (λ e. place ∙ ap (λ j. (row x j).place) (sym e) ∙ k.places q);
      released = λ q other h. row_put_either (λ w. w.locked ≡ Released) x i r q (k.released q other h)
          (λ e. locked (λ f. other (e ∙ f)) (ap (λ j. (row x j).locked) (sym e) ∙ k.released q other h));
      rows = rows_put x i r ∙ k.rows;
      size = k.size;
      edition = k.edition;
    }

pub kept_tail : {s x : LockState} {p : ℕ} (v : ℕ) → Kept s p x → Kept s p (put_tail x v)
unfolding put_tail row
kept_tail v k = record { places = k.places; private = k.private; released = k.released; rows = k.rows; size = k.size; edition = k.edition }

pub kept_next : {s x : LockState} {p : ℕ} (i v : ℕ) → Kept s p x → Kept s p (put_next x i v)
unfolding put_next
kept_next {x} i v k = kept_row i (with_next (row x i) v) k refl (λ other. refl) (λ other. refl) (λ other h. h)

pub kept_guard : {s x : LockState} {p : ℕ} (i : ℕ) (v : Bool) → Kept s p x → Kept s p (put_guard x i v)
unfolding put_guard
kept_guard {x} i v k = kept_row i (with_guard (row x i) v) k refl (λ other. refl) (λ other. refl) (λ other h. h)

pub kept_flag : {s x : LockState} {p : ℕ} (i : ℕ) (v : Bool) → Kept s p x → Kept s p (put_flag x i v)
unfolding put_flag
kept_flag {x} i v k = kept_row i (with_flag (row x i) v) k refl (λ other. refl) (λ other. refl) (λ other h. h)

pub kept_pred : {s x : LockState} {p : ℕ} (i v : ℕ) → Kept s p x → Kept s p (put_pred x i v)
unfolding put_pred
kept_pred {x} i v k = kept_row i (with_pred (row x i) v) k refl (λ other. refl) (λ other. refl) (λ other h. h)

pub kept_succ : {s x : LockState} {p : ℕ} (v : ℕ) → Kept s p x → Kept s p (put_succ x p v)
unfolding put_succ
kept_succ {x} {p} v k = kept_row p (with_succ (row x p) v) k refl (λ other. absurd (other refl)) (λ other. refl) (λ other h. h)

pub kept_nx : {s x : LockState} {p : ℕ} (v : ℕ) → Kept s p x → Kept s p (put_nx x p v)
unfolding put_nx
kept_nx {x} {p} v k = kept_row p (with_nx (row x p) v) k refl (λ other. refl) (λ other. absurd (other refl)) (λ other h. h)

-- a locked is made Released, or is p's own, or was not Released before
pub kept_release : {s x : LockState} {p : ℕ} (i : ℕ) → Kept s p x → Kept s p (put_locked x i Released)
unfolding put_locked
kept_release {x} i k = kept_row i (with_locked (row x i) Released) k refl (λ other. refl) (λ other. refl) (λ other h. refl)

pub kept_own : {s x : LockState} {p : ℕ} (v : ℕ) → Kept s p x → Kept s p (put_locked x p v)
unfolding put_locked
kept_own {x} {p} v k = kept_row p (with_locked (row x p) v) k refl (λ other. refl) (λ other. refl) (λ other h. absurd (other refl))

pub kept_locked :
    {s x : LockState} {p : ℕ} (i v : ℕ) → (row x i).locked ≢ Released → Kept s p x → Kept s p (put_locked x i v)
unfolding put_locked
kept_locked {x} i v held k = kept_row i (with_locked (row x i) v) k refl (λ other. refl) (λ other. refl) (λ other h. absurd (held h))

-- x is what a step of p makes of s: p's place has become one that passes the test ok, the other rows' places and private cells are
-- as they were
pub record Goes (s : LockState) (p : ℕ) (ok : Place → Bool) (x : LockState) : Type 0 where
  pub own : ok (place_at (row x p).place) ≡ true
  pub others : (q : ℕ) → q ≢ p → (row x q).place ≡ (row s q).place
  pub private : (q : ℕ) → q ≢ p → Cells (row s q) (row x q)
  pub released : (q : ℕ) → q ≢ p → (row s q).locked ≡ Released → (row x q).locked ≡ Released
  pub rows : length x.rows ≡ length s.rows
  pub size : x.n ≡ s.n
  pub edition : x.edition ≡ s.edition

pub goes_to :
    {s x : LockState} {p : ℕ} {ok : Place → Bool} (v : ℕ) → Kept s p x → p < length s.rows → ok (place_at v) ≡ true
    → Goes s p ok (to x p v)
unfolding to put_row
goes_to {s} {x} {p} {ok} v k h good =
    let r : Row = with_place (row x p) v in
    record {
      own = ap (λ w. ok (place_at w.place)) (row_put_same x p r (subst (λ m. p < m) (sym k.rows) h)) ∙ good;
      others = λ q other. ap (λ w. w.place) (row_put_other x p r q other) ∙ k.places q;
      private = λ q other. subst (λ w. Cells (row s q) w) (sym (row_put_other x p r q other)) (k.private q other);
      released = λ q other z. ap (λ w. w.locked) (row_put_other x p r q other) ∙ k.released q other z;
      rows = rows_put x p r ∙ k.rows;
      size = k.size;
      edition = k.edition;
    }

pub stays :
    {s x : LockState} {p : ℕ} {ok : Place → Bool} → Kept s p x → ok (place_at (row s p).place) ≡ true → Goes s p ok x
stays {p} {ok} k good =
    record {
      own = ap (λ v. ok (place_at v)) (k.places p) ∙ good;
      others = λ q other. k.places q;
      private = k.private;
      released = k.released;
      rows = k.rows;
      size = k.size;
      edition = k.edition;
    }
