-- What an act leaves of the rows, read through any nest of puts: an act writes the processor's own row and at most one
-- neighbour's.
--     Own              one row is written, all others are as they were
--     Both             two different rows are written, all others are as they were
--     own_start, own_to, own_next, .., own_tail            how Own is built up, put by put
--     both_start, both_to, both_succ, near_next, ..        the same for Both
--     own_all, both_all            what holds of the rows written and of all others holds of every row
--     row_put_either, put_all      the same after a single put, wherever it goes
--     fresh_row_there        every row of the fresh state is as fresh
--     row_there        a row that is not as fresh is one of the state's rows
--     some_row         the number of such a row is not the none mark
use Prim.Native.Nat.{ℕ, zero, suc, ◌<◌}
use native.Mathlib.Omega.{arith}
use mathlib.Core.Path.{◌≡◌, refl, sym, ap, ◌∙◌}
use mathlib.Core.Bool.{Bool, true, false}
use mathlib.Core.Logic.{◌≢◌}
use lib.Dec.{ltb}
use mathlib.Core.List.{List, [], ◌∷◌}
use lib.ListN.{length, get_or, set, replicate, get_or-replicate, get_or-eq_default}
use borrow.Author.Tests.{ltb-true, ltb-false}
use Rattle.lock.specs.declared.Row.{Row}
use Rattle.lock.specs.declared.LockState.{LockState}
use Rattle.choice.proofs.Numbers.{by_same}
use Rattle.lock.specs.State.{processors, none, fresh_row, fresh_state, row, put_row, put_tail, put_next, put_locked, put_guard, put_flag, to, put_pred, put_succ, put_nx, with_next, with_locked, with_guard, with_flag, with_place, with_pred, with_succ, with_nx}
use Rattle.lock.proofs.Ground.Rows.{rows_put, row_put_same, row_put_other}

-- p's row is now r, no other row is written, the tail is z
pub record Own (s t : LockState) (p : ℕ) (r : Row) (z : ℕ) : Type 0 where
  pub room : p < length t.rows
  pub rooms : length t.rows ≡ length s.rows
  pub own : row t p ≡ r
  pub others : (q : ℕ) → q ≢ p → row t q ≡ row s q
  pub edition : t.edition ≡ s.edition
  pub tail : t.tail ≡ z

pub own_start : (s : LockState) (p : ℕ) → p < length s.rows → Own s s p (row s p) s.tail
own_start s p h = record { room = h; rooms = refl; own = refl; others = λ q d. refl; edition = refl; tail = refl }

module _ {s t : LockState} {p : ℕ} {r : Row} {z : ℕ} (o : Own s t p r z) where
  -- a further put to p's row, which reads the row anew
  own_put : (w : Row → Row) → Own s (put_row t p (w (row t p))) p (w r) z
  unfolding put_row
  own_put w =
      record {
        room = rw rows_put o.room;
        rooms = rows_put t p (w (row t p)) ∙ o.rooms;
        own = row_put_same t p (w (row t p)) o.room ∙ ap w o.own;
        others = λ q d. row_put_other t p (w (row t p)) q d ∙ o.others q d;
        edition = o.edition;
        tail = o.tail;
      }

  pub own_to : (v : ℕ) → Own s (to t p v) p (with_place r v) z
  unfolding to
  own_to v = own_put (λ r. with_place r v)

  pub own_next : (v : ℕ) → Own s (put_next t p v) p (with_next r v) z
  unfolding put_next
  own_next v = own_put (λ r. with_next r v)

  pub own_locked : (v : ℕ) → Own s (put_locked t p v) p (with_locked r v) z
  unfolding put_locked
  own_locked v = own_put (λ r. with_locked r v)

  pub own_flag : (v : Bool) → Own s (put_flag t p v) p (with_flag r v) z
  unfolding put_flag
  own_flag v = own_put (λ r. with_flag r v)

  pub own_pred : (v : ℕ) → Own s (put_pred t p v) p (with_pred r v) z
  unfolding put_pred
  own_pred v = own_put (λ r. with_pred r v)

  pub own_succ : (v : ℕ) → Own s (put_succ t p v) p (with_succ r v) z
  unfolding put_succ
  own_succ v = own_put (λ r. with_succ r v)

  pub own_nx : (v : ℕ) → Own s (put_nx t p v) p (with_nx r v) z
  unfolding put_nx
  own_nx v = own_put (λ r. with_nx r v)

  pub own_tail : (v : ℕ) → Own s (put_tail t v) p r v
  unfolding row put_tail
  own_tail v =
      record { room = o.room; rooms = o.rooms; own = o.own; others = o.others; edition = o.edition; tail = refl }

-- p's row is now r, y's row is now x, no other row is written, and the tail stays
pub record Both (s t : LockState) (p y : ℕ) (r x : Row) : Type 0 where
  pub apart : p ≢ y
  pub room : p < length t.rows
  pub near_room : y < length t.rows
  pub rooms : length t.rows ≡ length s.rows
  pub own : row t p ≡ r
  pub near : row t y ≡ x
  pub others : (q : ℕ) → q ≢ p → q ≢ y → row t q ≡ row s q
  pub edition : t.edition ≡ s.edition
  pub tail : t.tail ≡ s.tail

pub both_start :
    (s : LockState) (p y : ℕ) → p ≢ y → p < length s.rows → y < length s.rows → Both s s p y (row s p) (row s y)
both_start s p y d h l =
    record {
      apart = d;
      room = h;
      near_room = l;
      rooms = refl;
      own = refl;
      near = refl;
      others = λ q a b. refl;
      edition = refl;
      tail = refl;
    }

-- the same, seen from y
both_flip : {s t : LockState} {p y : ℕ} {r x : Row} → Both s t p y r x → Both s t y p x r
both_flip o =
    record {
      apart = λ e. o.apart (sym e);
      room = o.near_room;
      near_room = o.room;
      rooms = o.rooms;
      own = o.near;
      near = o.own;
      others = λ q a b. o.others q b a;
      edition = o.edition;
      tail = o.tail;
    }

module _ {s t : LockState} {p y : ℕ} {r x : Row} (o : Both s t p y r x) where
  both_put : (w : Row → Row) → Both s (put_row t p (w (row t p))) p y (w r) x
  unfolding put_row
  both_put w =
      record {
        apart = o.apart;
        room = rw rows_put o.room;
        near_room = rw rows_put o.near_room;
        rooms = rows_put t p (w (row t p)) ∙ o.rooms;
        own = row_put_same t p (w (row t p)) o.room ∙ ap w o.own;
        near = row_put_other t p (w (row t p)) y (λ e. o.apart (sym e)) ∙ o.near;
        others = λ q a b. row_put_other t p (w (row t p)) q a ∙ o.others q a b;
        edition = o.edition;
        tail = o.tail;
      }

  pub both_to : (v : ℕ) → Both s (to t p v) p y (with_place r v) x
  unfolding to
  both_to v = both_put (λ r. with_place r v)

  pub both_succ : (v : ℕ) → Both s (put_succ t p v) p y (with_succ r v) x
  unfolding put_succ
  both_succ v = both_put (λ r. with_succ r v)

-- a put to the neighbour's row
module _ {s t : LockState} {p y : ℕ} {r x : Row} (o : Both s t p y r x) where
  pub near_next : (v : ℕ) → Both s (put_next t y v) p y r (with_next x v)
  unfolding put_next
  near_next v = both_flip (both_put (both_flip o) (λ r. with_next r v))

  pub near_locked : (v : ℕ) → Both s (put_locked t y v) p y r (with_locked x v)
  unfolding put_locked
  near_locked v = both_flip (both_put (both_flip o) (λ r. with_locked r v))

  pub near_guard : (v : Bool) → Both s (put_guard t y v) p y r (with_guard x v)
  unfolding put_guard
  near_guard v = both_flip (both_put (both_flip o) (λ r. with_guard r v))

pub own_all :
    (F : ℕ → Row → Type 0) {s t : LockState} {p : ℕ} {r : Row} {z : ℕ} → Own s t p r z → F p r → ((q : ℕ) → q ≢ p → F q (row s q))
    → (q : ℕ) → F q (row t q)
own_all F {s} {t} {p} {r} o mine theirs =
    by_same (λ q. F q (row t q)) p (rw o.own mine) (λ q d. rw (o.others q d) (theirs q d))

pub both_all :
    (F : ℕ → Row → Type 0) {s t : LockState} {p y : ℕ} {r x : Row} → Both s t p y r x → F p r → F y x
    → ((q : ℕ) → q ≢ p → q ≢ y → F q (row s q)) → (q : ℕ) → F q (row t q)
both_all F {s} {t} {p} {y} o mine near theirs =
    by_same (λ q. F q (row t q)) p (rw o.own mine)
    (λ q d. by_same (λ q. q ≢ p → F q (row t q)) y (λ e. rw o.near near)
    (λ q c d. rw (o.others q d c) (theirs q d c)) q d)

-- after a store an element is the one it was, or the new one at the store's own index
set_either :
    (P : Row → Type 0) (l : List Row) (i j : ℕ) (r d : Row) → P (get_or l j d) → (j ≡ i → P r) → P (get_or (set l i r) j d)
set_either P [] i j r d old new = old
set_either P (x ∷ l) zero zero r d old new = new refl
set_either P (x ∷ l) zero (suc j) r d old new = old
set_either P (x ∷ l) (suc i) zero r d old new = old
set_either P (x ∷ l) (suc i) (suc j) r d old new = set_either P l i j r d old (λ e. new (ap suc e))

pub row_put_either :
    (P : Row → Type 0) (s : LockState) (i : ℕ) (r : Row) (j : ℕ) → P (row s j) → (j ≡ i → P r)
    → P (row (put_row s i r) j)
unfolding row put_row
row_put_either P s i r j old new = set_either P s.rows i j r fresh_row old new

pub put_all :
    (F : ℕ → Row → Type 0) (s : LockState) (y : ℕ) (r : Row) → ((q : ℕ) → F q (row s q)) → F y r
    → (q : ℕ) → F q (row (put_row s y r) q)
put_all F s y r all new q = row_put_either (F q) s y r q (all q) (λ e. rw e new)

there : (s : LockState) (y : ℕ) (b : Bool) → ltb y (length s.rows) ≡ b → row s y ≢ fresh_row → y < length s.rows
unfolding row
there s y true e d = ltb-true y (length s.rows) e
there s y false e d = absurd (d (get_or-eq_default s.rows fresh_row (ltb-false y (length s.rows) e)))

pub row_there : (s : LockState) (y : ℕ) → row s y ≢ fresh_row → y < length s.rows
row_there s y d = there s y (ltb y (length s.rows)) refl d

fresh_where : (e n q : ℕ) (b : Bool) → ltb q processors ≡ b → row (fresh_state e n) q ≡ fresh_row
unfolding row fresh_state
fresh_where e n q true h = get_or-replicate processors q fresh_row fresh_row (ltb-true q processors h)
fresh_where e n q false h = get_or-eq_default (replicate processors fresh_row) fresh_row (ltb-false q processors h)

pub fresh_row_there : (e n q : ℕ) → row (fresh_state e n) q ≡ fresh_row
fresh_row_there e n q = fresh_where e n q (ltb q processors) refl

-- a processor is not the none mark
pub some_row : (s : LockState) (p : ℕ) → length s.rows ≡ processors → p < length s.rows → p ≢ none
some_row s p rooms room e = omega arith
