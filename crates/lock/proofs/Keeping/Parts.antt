-- Soundness in parts: the statement that every put of an act keeps, made of soundness and made into it again. It is
-- soundness but for the place of the processor p that steps, with what is known of the edition and of p's own cells.
--     Known                what is known: a test that the edition passes, and which of p's pred, succ and nx are there
--     ButPlace             sound but for p's place
--     Ready                both: what holds between the puts of an act
--     ready                a whole state is ready, and p's place tells what is known
--     whole                a ready state in which p's place is sound is whole
use Prim.Native.Nat.{ℕ, ◌<◌, ◌≤◌}
use mathlib.Core.Path.{◌≡◌, refl, sym, subst}
use mathlib.Core.Bool.{Bool, true, false, not, ◌&&◌, false≢true}
use mathlib.Core.Logic.{◌≢◌}
use native.Mathlib.Omega.{arith}
use lib.ListN.{length}
use lib.Dec.{eqb, ltb, leb}
use borrow.Author.Tests.{ltb-true, ltb-false, leb-true, eqb-true, lt-ltb, le-ltb}
use Rattle.lock.specs.declared.Row.{Row}
use Rattle.lock.specs.declared.LockState.{LockState}
use Rattle.choice.specs.Every.{every}
use Rattle.choice.proofs.Numbers.{every_from, every_at, by_same}
use Rattle.choice.proofs.Tests.{and_left, and_right, and_both}
use Rattle.lock.specs.State.{processors, editions, is_none, RP, row}
use Rattle.lock.specs.Sound.{none_or_below, is_there, wants_pred, wants_succ, wants_nx, has_place, cells_sound, place_sound, as_fresh, sound_row, sound}
use Rattle.lock.specs.Kept.{Whole}

pub record Known : Type 0 where
  pub editions : ℕ → Bool
  pub pred : Bool
  pub succ : Bool
  pub nx : Bool

-- what standing at place k tells: the edition has it, and the cells that it wants are there
abbrev pub standing : ℕ → Known
standing k = record { editions = λ e. has_place e k; pred = wants_pred k; succ = wants_succ k; nx = wants_nx k }

-- pred, succ and nx are there where they are known to be
pub record Has (k : Known) (x y z : ℕ) : Type 0 where
  pub pred : is_there k.pred x ≡ true
  pub succ : is_there k.succ y ≡ true
  pub nx : is_there k.nx z ≡ true

abbrev pub HasIn : Known → Row → Type 0
HasIn k r = Has k r.pred r.succ r.nx

-- the parts of cells_sound
pub record Cells (n w x y z l : ℕ) : Type 0 where
  pub next : none_or_below n w ≡ true
  pub pred : none_or_below n x ≡ true
  pub succ : none_or_below n y ≡ true
  pub nx : none_or_below n z ≡ true
  pub locked : leb l RP ≡ true

abbrev pub CellsIn : ℕ → Row → Type 0
CellsIn n r = Cells n r.next r.pred r.succ r.nx r.locked

-- the parts of sound_row, of the row of i, but for the place where i is p
pub record Fits (e n p i : ℕ) (r : Row) : Type 0 where
  pub cells : i < n → CellsIn n r
  pub place : i < n → i ≢ p → place_sound e r ≡ true
  pub fresh : n ≤ i → i < processors → as_fresh r ≡ true

pub record ButPlace (s : LockState) (p : ℕ) : Type 0 where
  pub rooms : length s.rows ≡ processors
  pub small : ltb s.edition editions ≡ true
  pub least : leb 1 s.n ≡ true
  pub most : leb s.n processors ≡ true
  pub tail : none_or_below s.n s.tail ≡ true
  pub rows : (i : ℕ) → Fits s.edition s.n p i (row s i)
  pub below : p < s.n

pub record Ready (s : LockState) (p : ℕ) (k : Known) : Type 0 where
  pub base : ButPlace s p
  pub edition : k.editions s.edition ≡ true
  pub own : HasIn k (row s p)

-- A conjunction of five, taken apart and put together: a state has five parts and the cells have five; a place has four
-- and true for the first.
pub parts :
    (a b c d e : Bool) → a && b && c && d && e ≡ true
    → (a ≡ true) × (b ≡ true) × (c ≡ true) × (d ≡ true) × (e ≡ true)
parts true true true true e h = (refl, refl, refl, refl, h)
parts true true true false e h = absurd (false≢true h)
parts true true false d e h = absurd (false≢true h)
parts true false c d e h = absurd (false≢true h)
parts false b c d e h = absurd (false≢true h)

pub joint : (a b c d e : Bool) → a ≡ true → b ≡ true → c ≡ true → d ≡ true → e ≡ true → a && b && c && d && e ≡ true
joint a b c d e ha hb hc hd he = rw (ha, hb, hc, hd) he

cells_from : (n : ℕ) (r : Row) → cells_sound n r ≡ true → CellsIn n r
unfolding cells_sound
cells_from n r h =
    let f : ℕ → Bool = none_or_below n in
    let c = parts (f r.next) (f r.pred) (f r.succ) (f r.nx) (leb r.locked RP) h in
    record { next = c.0; pred = c.1; succ = c.2; nx = c.3; locked = c.4 }

cells_sound_holds : (n : ℕ) (r : Row) → CellsIn n r → cells_sound n r ≡ true
unfolding cells_sound
cells_sound_holds n r c =
    let f : ℕ → Bool = none_or_below n in
    joint (f r.next) (f r.pred) (f r.succ) (f r.nx) (leb r.locked RP)
    c.next c.pred c.succ c.nx c.locked

place_tells : (e : ℕ) (r : Row) → place_sound e r ≡ true → (has_place e r.place ≡ true) × HasIn (standing r.place) r
unfolding place_sound
place_tells e r h =
    let k = standing r.place in
    let a = is_there k.pred r.pred in
    let b = is_there k.succ r.succ in
    let c = parts true (has_place e r.place) a b (is_there k.nx r.nx) h in
    (c.1, record { pred = c.2; succ = c.3; nx = c.4 })

-- a row that is as fresh is at rest, which every edition has
fresh_place : (r : Row) → as_fresh r ≡ true → r.place ≡ 0
unfolding as_fresh
fresh_place r h =
    let a = is_none r.next && eqb r.locked 0 && not r.guard && not r.flag in
    eqb-true r.place 0 (parts a (eqb r.place 0) (is_none r.pred) (is_none r.succ) (is_none r.nx) h).1

rest_has : (e : ℕ) → ltb e editions ≡ true → has_place e 0 ≡ true
unfolding every has_place
rest_has e small = every_at editions (λ e. has_place e 0) refl e (ltb-true e editions small)

module _ (s : LockState) where
  -- short for this section
  abbrev e : ℕ
  e = s.edition

  abbrev n : ℕ
  n = s.n

  -- the parts of a sound state, and of its rows below N and from N on
  module _ (h : sound s ≡ true) where
    ranges :
        (ltb e editions ≡ true) × (leb 1 n ≡ true) × (leb n processors ≡ true) × (none_or_below n s.tail ≡ true)
        × (every processors (sound_row s) ≡ true)
    unfolding sound
    ranges = parts (ltb e editions) (leb 1 n) (leb n processors) (none_or_below n s.tail) (every processors (sound_row s)) h

    row_below : (i : ℕ) → i < n → cells_sound n (row s i) && place_sound e (row s i) ≡ true
    unfolding sound_row
    row_below i below =
        let most : s.n ≤ processors = leb-true n processors ranges.2 in
        rw (lt-ltb i n below, sound_row) at (every_at processors (sound_row s) ranges.4 i (omega arith))

    row_from : (i : ℕ) → n ≤ i → i < processors → as_fresh (row s i) ≡ true
    unfolding sound_row
    row_from i far room = rw (le-ltb i n far, sound_row) at (every_at processors (sound_row s) ranges.4 i room)

    row_cells : (i : ℕ) → i < n → CellsIn n (row s i)
    row_cells i below =
        let r = row s i in
        cells_from n r (and_left (cells_sound n r) (place_sound e r) (row_below i below))

    pub row_place : (i : ℕ) → i < n → place_sound e (row s i) ≡ true
    row_place i below = and_right (cells_sound n (row s i)) (place_sound e (row s i)) (row_below i below)

    -- within the N, so within the rows
    pub row_room : {p : ℕ} → length s.rows ≡ processors → p < n → p < length s.rows
    row_room rooms below = let most : n ≤ processors = leb-true n processors ranges.2 in omega arith

    -- each row's place is one that the edition has, also from N on
    pub row_has : (i : ℕ) → i < processors → has_place e (row s i).place ≡ true
    row_has i room = by (ltb i n) refl
      where
        by : (b : Bool) → ltb i n ≡ b → has_place e (row s i).place ≡ true
        by true t = (place_tells e (row s i) (row_place i (ltb-true i n t))).0
        by false t =
            subst (λ (m : ℕ). has_place e m ≡ true) (sym (fresh_place (row s i) (row_from i (ltb-false i n t) room)))
            (rest_has e ranges.0)

    but_place : (p : ℕ) → length s.rows ≡ processors → p < n → ButPlace s p
    but_place p rooms below =
        record {
          rooms = rooms;
          small = ranges.0;
          least = ranges.1;
          most = ranges.2;
          tail = ranges.3;
          rows = λ i. record { cells = row_cells i; place = λ low d. row_place i low; fresh = row_from i };
          below = below;
        }

  -- the way back
  row_sound :
      (p i : ℕ) (b : Bool) → ltb i n ≡ b → Fits e n p i (row s i) → (i < n → place_sound e (row s i) ≡ true)
      → i < processors → sound_row s i ≡ true
  unfolding sound_row
  row_sound p i true t f place room =
      let r = row s i in
      let low : i < n = ltb-true i n t in
      rw (t, sound_row) (and_both (cells_sound n r) (place_sound e r) (cells_sound_holds n r (f.cells low)) (place low))
  row_sound p i false t f place room = rw (t, sound_row) (f.fresh (ltb-false i n t) room)

pub ready : {s : LockState} {p : ℕ} → Whole s → p < s.n → Ready s p (standing (row s p).place)
ready {s} {p} w below =
    let told = place_tells s.edition (row s p) (row_place s w.fit p below) in
    record { base = but_place s w.fit p w.rooms below; edition = told.0; own = told.1 }

every_place :
    {s : LockState} {p : ℕ} → ButPlace s p → place_sound s.edition (row s p) ≡ true
    → (i : ℕ) → i < s.n → place_sound s.edition (row s i) ≡ true
every_place {s} {p} x h =
    by_same (λ i. i < s.n → place_sound s.edition (row s i) ≡ true) p (λ low. h) (λ i d low. (x.rows i).place low d)

pub whole : {s : LockState} {p : ℕ} → ButPlace s p → place_sound s.edition (row s p) ≡ true → Whole s
unfolding sound
whole {s} {p} x h =
    record {
      rooms = x.rooms;
      fit =
          joint (ltb s.edition editions) (leb 1 s.n) (leb s.n processors) (none_or_below s.n s.tail)
          (every processors (sound_row s)) x.small x.least x.most x.tail
          (every_from processors (sound_row s)
          (λ i room. row_sound s p i (ltb i s.n) refl (x.rows i) (every_place x h i) room));
    }
