-- The puts of an act, a law for each: the state is ready after each put, and p's new place makes it whole again.
--     next_put, locked_put, guard_put, flag_put    a put to any row below N; what is known of p's cells stays known
--     pred_put, succ_put, nx_put                   a put to p's own row; the cell is known to be there if the value is
--     tail_put                 a put to the tail
--     knowing, forgetting      a test of the edition adds to what is known; nothing needs to be known
--     pred_below, succ_below   a pred or succ that is known to be there is below N
--     suits                    a place suits what is known: one computed test for each move of the step table
--     lands                    p goes to a place that suits what is known, and the state is whole
--     flag_kept                a put to p's flag keeps a whole state whole, wherever p stands
use Prim.Native.Nat.{ℕ, ◌<◌, ◌≤◌}
use mathlib.Core.Path.{◌≡◌, refl, ◌∙◌, sym, subst}
use mathlib.Core.Bool.{Bool, true, false, not, ◌&&◌, ◌||◌, false≢true}
use mathlib.Core.Logic.{◌≢◌}
use native.Mathlib.Omega.{arith}
use lib.ListN.{length}
use lib.Dec.{leb, ltb}
use borrow.Author.Tests.{ltb-true, leb-true, not-true, eqb-true}
use Rattle.lock.specs.declared.Row.{Row}
use Rattle.lock.specs.declared.LockState.{LockState}
use Rattle.choice.specs.Every.{every}
use Rattle.choice.proofs.Tests.{and_both, left_of}
use Rattle.choice.proofs.Numbers.{every_at}
use Rattle.lock.specs.State.{processors, editions, none, is_none, RP, row, put_row, with_next, with_locked, with_guard, with_flag, with_place, with_pred, with_succ, with_nx, put_tail, put_next, put_locked, put_guard, put_flag, to, put_pred, put_succ, put_nx}
use Rattle.lock.specs.Sound.{none_or_below, is_there, place_sound}
use Rattle.lock.specs.Kept.{Whole}
use Rattle.lock.proofs.Ground.Rows.{rows_put, row_put_same, put_far}
use Rattle.lock.proofs.Keeping.Parts.{Known, HasIn, CellsIn, Fits, ButPlace, Ready, standing, parts, joint, row_place, ready, whole}
use Rattle.lock.proofs.Ground.Writes.{put_all}

-- what was known, and a further test of the edition
abbrev pub also : Known → (ℕ → Bool) → Known
also k f = record { editions = λ e. k.editions e && f e; pred = k.pred; succ = k.succ; nx = k.nx }

-- nothing is known: enough for the places that every edition has
abbrev pub nothing : Known
nothing = record { editions = λ e. true; pred = false; succ = false; nx = false }

module _ {s : LockState} {p : ℕ} (x : ButPlace s p) where
  -- within the N, so within the rows
  room : (q : ℕ) → q < s.n → q < length s.rows
  room q below =
      let rooms = x.rooms in
      let most : s.n ≤ processors = leb-true s.n processors x.most in
      omega arith

  put :
      (q : ℕ) (r : Row) → q < s.n → CellsIn s.n r → (q ≢ p → place_sound s.edition r ≡ true)
      → ButPlace (put_row s q r) p
  unfolding put_row
  put q r below cells place =
      record {
        rooms = rows_put s q r ∙ x.rooms;
        small = x.small;
        least = x.least;
        most = x.most;
        tail = x.tail;
        rows =
            put_all (Fits s.edition s.n p) s q r x.rows
            (record { cells = λ low. cells; place = λ low. place; fresh = λ far low. absurd (omega arith) });
        below = x.below;
      }

  -- p's own row, whatever its place
  own_put : (r : Row) → CellsIn s.n r → ButPlace (put_row s p r) p
  own_put r cells = put p r x.below cells (λ d. absurd (d refl))

  own_row : (r : Row) → row (put_row s p r) p ≡ r
  own_row r = row_put_same s p r (room p x.below)

module _ {s : LockState} {p : ℕ} {k : Known} (x : Ready s p k) where
  pub own_cells : CellsIn s.n (row s p)
  own_cells = (x.base.rows p).cells x.base.below

  pub knowing : (f : ℕ → Bool) → f s.edition ≡ true → Ready s p (also k f)
  knowing f h =
      record {
        base = x.base;
        edition = and_both (k.editions s.edition) (f s.edition) x.edition h;
        own = record { pred = x.own.pred; succ = x.own.succ; nx = x.own.nx };
      }

  pub forgetting : Ready s p nothing
  forgetting = record { base = x.base; edition = refl; own = record { pred = refl; succ = refl; nx = refl } }

  -- a row put that keeps place, pred, succ and nx; it may be p's own
  near_put :
      (q : ℕ) (r : Row) → q < s.n → CellsIn s.n r
      → (place_sound s.edition (row s q) ≡ true → place_sound s.edition r ≡ true)
      → (HasIn k (row s q) → HasIn k r) → Ready (put_row s q r) p k
  unfolding put_row
  near_put q r below cells place has =
      record {
        base = put x.base q r below cells (λ d. place ((x.base.rows q).place below d));
        edition = x.edition;
        own =
            put_all (λ i r. i ≡ p → HasIn k r) s q r (λ i e. rw e x.own)
            (λ e. has (rw e x.own)) p refl;
      }

  pub next_put : (q v : ℕ) → q < s.n → none_or_below s.n v ≡ true → Ready (put_next s q v) p k
  unfolding put_next place_sound
  next_put q v below h =
      let c = (x.base.rows q).cells below in
      near_put q (with_next (row s q) v) below
      (record { next = h; pred = c.pred; succ = c.succ; nx = c.nx; locked = c.locked }) (λ f. f) (λ f. f)

  pub locked_put : (q v : ℕ) → q < s.n → leb v RP ≡ true → Ready (put_locked s q v) p k
  unfolding put_locked place_sound
  locked_put q v below h =
      let c = (x.base.rows q).cells below in
      near_put q (with_locked (row s q) v) below
      (record { next = c.next; pred = c.pred; succ = c.succ; nx = c.nx; locked = h }) (λ f. f) (λ f. f)

  -- nobody's guard is put where q is none
  pub guard_put : (q : ℕ) (v : Bool) → none_or_below s.n q ≡ true → Ready (put_guard s q v) p k
  unfolding put_guard place_sound
  guard_put q v h = by (ltb q s.n) refl
    where
      by : (b : Bool) → ltb q s.n ≡ b → Ready (put_row s q (with_guard (row s q) v)) p k
      by true e =
          let below = ltb-true q s.n e in
          near_put q (with_guard (row s q) v) below ((x.base.rows q).cells below) (λ f. f) (λ f. f)
      by false e =
          let same : q ≡ none = eqb-true q none (left_of (is_none q) (ltb q s.n) h e) in
          let rooms = x.base.rooms in
          subst (λ (t : LockState). Ready t p k) (sym (put_far s q (with_guard (row s q) v) (omega arith))) x

  pub flag_put : (q : ℕ) (v : Bool) → q < s.n → Ready (put_flag s q v) p k
  unfolding put_flag place_sound
  flag_put q v below = near_put q (with_flag (row s q) v) below ((x.base.rows q).cells below) (λ f. f) (λ f. f)

  -- p's own row put, and what is then known of it
  own_ready :
      (m : Known) (r : Row) → CellsIn s.n r → m.editions s.edition ≡ true → HasIn m r
      → Ready (put_row s p r) p m
  unfolding put_row
  own_ready m r cells edition has =
      record { base = own_put x.base r cells; edition = edition; own = rw (own_row x.base r) has }

  module _ (v : ℕ) (b : Bool) (h : none_or_below s.n v ≡ true) (there : is_there b v ≡ true) where
    pub pred_put : Ready (put_pred s p v) p (record { editions = k.editions; pred = b; succ = k.succ; nx = k.nx })
    unfolding put_pred
    pred_put =
        let c = own_cells in
        own_ready _ (with_pred (row s p) v)
        (record { next = c.next; pred = h; succ = c.succ; nx = c.nx; locked = c.locked })
        x.edition (record { pred = there; succ = x.own.succ; nx = x.own.nx })

    pub succ_put : Ready (put_succ s p v) p (record { editions = k.editions; pred = k.pred; succ = b; nx = k.nx })
    unfolding put_succ
    succ_put =
        let c = own_cells in
        own_ready _ (with_succ (row s p) v)
        (record { next = c.next; pred = c.pred; succ = h; nx = c.nx; locked = c.locked })
        x.edition (record { pred = x.own.pred; succ = there; nx = x.own.nx })

    pub nx_put : Ready (put_nx s p v) p (record { editions = k.editions; pred = k.pred; succ = k.succ; nx = b })
    unfolding put_nx
    nx_put =
        let c = own_cells in
        own_ready _ (with_nx (row s p) v)
        (record { next = c.next; pred = c.pred; succ = c.succ; nx = h; locked = c.locked })
        x.edition (record { pred = x.own.pred; succ = x.own.succ; nx = there })

  pub tail_put : (v : ℕ) → none_or_below s.n v ≡ true → Ready (put_tail s v) p k
  unfolding put_tail row
  tail_put v h =
      let b = x.base in
      record {
        base =
            record {
              rooms = b.rooms;
              small = b.small;
              least = b.least;
              most = b.most;
              tail = h;
              rows = b.rows;
              below = b.below;
            };
        edition = x.edition;
        own = x.own;
      }

-- none or below N, and there: so below N
there_below : (n q : ℕ) (b : Bool) → b ≡ true → none_or_below n q ≡ true → is_there b q ≡ true → q < n
there_below n q false e h there = absurd (false≢true e)
there_below n q true e h there = ltb-true q n (rw (not-true (is_none q) there) at h)

pub pred_below : {s : LockState} {p : ℕ} {k : Known} → Ready s p k → k.pred ≡ true → (row s p).pred < s.n
pred_below {s} {p} {k} x e = there_below s.n (row s p).pred k.pred e (own_cells x).pred x.own.pred

pub succ_below : {s : LockState} {p : ℕ} {k : Known} → Ready s p k → k.succ ≡ true → (row s p).succ < s.n
succ_below {s} {p} {k} x e = there_below s.n (row s p).succ k.succ e (own_cells x).succ x.own.succ

-- The place v suits what is known: each edition that may be has it, and the cells that it wants are known to be there. It
-- computes.
abbrev suits_in : Known → ℕ → ℕ → Bool
suits_in k v e =
    let w = standing v in
    not (k.editions e)
    || (w.editions e && (not w.pred || k.pred) && (not w.succ || k.succ) && (not w.nx || k.nx))

unfoldable pub suits : Known → ℕ → Bool
suits k v = every editions (suits_in k v)

-- what is wanted is known, what is known is there: what is wanted is there
wanted_there : (a b c : Bool) → not a || b ≡ true → not b || c ≡ true → not a || c ≡ true
wanted_there true true c h j = j
wanted_there true false c h j = absurd (false≢true h)
wanted_there false b c h j = refl

pub suited :
    (k : Known) (v e : ℕ) (r : Row) → suits k v ≡ true → ltb e editions ≡ true → k.editions e ≡ true → HasIn k r
    → place_sound e (with_place r v) ≡ true
unfolding suits place_sound
suited k v e r h small edition has =
    let w = standing v in
    let b = not w.pred || k.pred in
    let c = not w.succ || k.succ in
    let d = not w.nx || k.nx in
    let t : w.editions e && b && c && d ≡ true =
    rw edition at (every_at editions (suits_in k v) h e (ltb-true e editions small)) in
    let told = parts true (w.editions e) b c d t in
    joint true (w.editions e) (is_there w.pred r.pred) (is_there w.succ r.succ) (is_there w.nx r.nx)
    refl told.1
    (wanted_there w.pred k.pred (not (is_none r.pred)) told.2 has.pred)
    (wanted_there w.succ k.succ (not (is_none r.succ)) told.3 has.succ)
    (wanted_there w.nx k.nx (not (is_none r.nx)) told.4 has.nx)

-- p's own row put, with a sound place
own_whole :
    {s : LockState} {p : ℕ} → ButPlace s p → (r : Row) → CellsIn s.n r → place_sound s.edition r ≡ true
    → Whole (put_row s p r)
unfolding put_row
own_whole x r cells h = whole (own_put x r cells) (rw (own_row x r) h)

pub lands : {s : LockState} {p : ℕ} {k : Known} (v : ℕ) → Ready s p k → suits k v ≡ true → Whole (to s p v)
unfolding to
lands {s} {p} {k} v x h =
    own_whole x.base (with_place (row s p) v) (own_cells x)
    (suited k v s.edition (row s p) h x.base.small x.edition x.own)

pub flag_kept : {s : LockState} {p : ℕ} (v : Bool) → Whole s → p < s.n → Whole (put_flag s p v)
unfolding put_flag place_sound
flag_kept {s} {p} v w below =
    let x = ready w below in
    own_whole x.base (with_flag (row s p) v) (own_cells x) (row_place s w.fit p below)
