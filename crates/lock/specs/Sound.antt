-- Document 01, "A state is sound when": each part in the document's order, the places of each edition as its list there, and what
-- requests [1] and [2] add.
use Rattle.std.specs.Prelude.{ℕ, Bool, false, not, ◌&&◌, ◌||◌, cond, List, [], ◌∷◌, ◌++◌, eqb, ltb, leb}
use Rattle.lock.specs.declared.Row.{Row}
use Rattle.lock.specs.declared.LockState.{LockState}
use Rattle.choice.specs.Every.{every}
use Rattle.lock.specs.State.{processors, editions, is_none, is_plain, is_drawn, is_guarded, is_old, RP, row}

-- "23 rows": the places 0 to 22; [1] adds 23 to 26, [2] 27 and 28
abbrev pub places : ℕ
places = 29

abbrev pub is_in : List ℕ → ℕ → Bool
is_in [] k = false
is_in (x ∷ xs) k = eqb x k || is_in xs k

-- "plain has 0, 2, 3, 4, 5, 7, 9, 14, 15, 16, 17"
abbrev pub plain_places : List ℕ
plain_places = 0 ∷ 2 ∷ 3 ∷ 4 ∷ 5 ∷ 7 ∷ 9 ∷ 14 ∷ 15 ∷ 16 ∷ 17 ∷ []

-- "drawn has those and 6, 8, 10 to 13, 19, 20, 21"; [2] "for the drawn edition only ... a new place 27 ... place 28"
abbrev pub drawn_places : List ℕ
drawn_places = plain_places ++ (6 ∷ 8 ∷ 10 ∷ 11 ∷ 12 ∷ 13 ∷ 19 ∷ 20 ∷ 21 ∷ 27 ∷ 28 ∷ [])

-- "guarded has all of 0 to 22"
abbrev pub guarded_last : ℕ
guarded_last = 22

-- [1] "edition 3, places 0, 9 and 23 to 26"
abbrev pub old_places : List ℕ
old_places = 0 ∷ 9 ∷ 23 ∷ 24 ∷ 25 ∷ 26 ∷ []

-- the place k is one that edition e has
unfoldable pub has_place : ℕ → ℕ → Bool
has_place e k =
    cond (is_plain e) (is_in plain_places k)
    (cond (is_drawn e) (is_in drawn_places k) (cond (is_guarded e) (leb k guarded_last) (cond (is_old e) (is_in old_places k) false)))

-- "none or below N"
abbrev pub none_or_below : ℕ → ℕ → Bool
none_or_below n q = is_none q || ltb q n

-- "L and each next, pred, succ, nx is none or below N; each locked is 0 to 3"
unfoldable pub cells_sound : ℕ → Row → Bool
cells_sound n r =
    none_or_below n r.next && none_or_below n r.pred && none_or_below n r.succ && none_or_below n r.nx && leb r.locked RP

-- "places 4 to 6 have a pred"
abbrev pub wants_pred : ℕ → Bool
wants_pred k = leb 4 k && leb k 6

-- "17 to 22 a succ"; [2] "Place 27 needs a succ"
abbrev pub wants_succ : ℕ → Bool
wants_succ k = (leb 17 k && leb k 22) || eqb k 27

-- "21 also an nx"
abbrev pub wants_nx : ℕ → Bool
wants_nx k = eqb k 21

-- where it is wanted, it is not none
abbrev pub is_there : Bool → ℕ → Bool
is_there wanted q = not wanted || not (is_none q)

-- "each place is one its edition has; places 4 to 6 have a pred, 17 to 22 a succ, 21 also an nx"
unfoldable pub place_sound : ℕ → Row → Bool
place_sound e r =
    has_place e r.place && is_there (wants_pred r.place) r.pred && is_there (wants_succ r.place) r.succ
    && is_there (wants_nx r.place) r.nx

-- as fresh
unfoldable pub as_fresh : Row → Bool
as_fresh r =
    is_none r.next && eqb r.locked 0 && not r.guard && not r.flag && eqb r.place 0 && is_none r.pred
    && is_none r.succ && is_none r.nx

-- "rows from N on are as fresh"; the rows below N have sound cells and a sound place
unfoldable pub sound_row : LockState → ℕ → Bool
sound_row s i =
    cond (ltb i s.n) (cells_sound s.n (row s i) && place_sound s.edition (row s i)) (as_fresh (row s i))

-- "edition and N are in range; L ... is none or below N", and each of the sixteen rows is sound
unfoldable pub sound : LockState → Bool
sound s =
    ltb s.edition editions && leb 1 s.n && leb s.n processors && none_or_below s.n s.tail
    && every processors (sound_row s)
