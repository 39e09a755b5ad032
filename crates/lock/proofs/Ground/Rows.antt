-- What one replaced row or tail leaves of a state: the laws by which every other proof reads a state after an act.
--     row_put_same     the replaced row is the one put there, where there is such a row
--     row_put_other    every other row is as it was
--     rows_put         there are as many rows as before
--     put_far          a row that is not there is not replaced
--     get_d_any        an index within a list needs no default
--     length_mapped    a list is as long as what a function makes of it
--     row_within       so a row that is there is what stands at its number
use Prim.Native.Nat.{ℕ, zero, suc, ◌<◌, ◌≤◌}
use native.Mathlib.Nat.{not-suc-le-zero, le_of_suc-le-suc}
use mathlib.Core.List.{List, [], ◌∷◌, map}
use mathlib.Core.Path.{◌≡◌, refl, sym, ap, ◌∙◌}
use mathlib.Core.Bool.{false}
use mathlib.Core.Logic.{◌≢◌}
use lib.ListN.{length, get_or, length-set, length-map}
use lib.Seq.{get_or-set_same, get_or-set_other, set_out}
use Rattle.lock.specs.declared.Row.{Row}
use Rattle.lock.specs.declared.LockState.{LockState}
use Rattle.lock.specs.State.{fresh_row, row, put_row}

pub rows_put : (s : LockState) (p : ℕ) (r : Row) → length (put_row s p r).rows ≡ length s.rows
unfolding put_row
rows_put s p r = length-set s.rows p r

pub row_put_same : (s : LockState) (p : ℕ) (r : Row) → p < length s.rows → row (put_row s p r) p ≡ r
unfolding row put_row
row_put_same s p r h = get_or-set_same s.rows p r fresh_row h

pub row_put_other : (s : LockState) (p : ℕ) (r : Row) (q : ℕ) → q ≢ p → row (put_row s p r) q ≡ row s q
unfolding row put_row
row_put_other s p r q h = get_or-set_other s.rows p q r fresh_row h

pub put_far : (s : LockState) (p : ℕ) (r : Row) → length s.rows ≤ p → put_row s p r ≡ s
unfolding put_row
put_far s p r far =
    ap (λ rows. record { edition = s.edition; n = s.n; tail = s.tail; rows = rows }) (set_out s.rows p r far)

-- what stands at an index within a list does not depend on the default
pub get_d_any : {A : Type 0} (l : List A) (i : ℕ) (d e : A) → i < length l → get_or l i d ≡ get_or l i e
get_d_any [] i d e h = absurd (not-suc-le-zero h)
get_d_any (a ∷ l) zero d e h = refl
get_d_any (a ∷ l) (suc i) d e h = get_d_any l i d e (le_of_suc-le-suc h)

-- a list is as long as what a function makes of each of its elements
pub length_mapped : (X Y : Type 0) (f : X → Y) (l : List X) (n : ℕ) → length (map f l) ≡ n → length l ≡ n
length_mapped X Y f l n e = sym (length-map l f) ∙ e

-- what the code reads past the end of its rows, which it never does
abbrev pub zero_row : Row
zero_row = record { next = 0; locked = 0; guard = false; flag = false; place = 0; pred = 0; succ = 0; nx = 0 }

pub row_within : (s : LockState) (i : ℕ) → i < length s.rows → get_or s.rows i zero_row ≡ row s i
unfolding row
row_within s i h = get_d_any s.rows i zero_row fresh_row h
