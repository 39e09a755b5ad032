-- Mutual exclusion for every edition, without ghosts: there is one token, and who is inside has it. Here: who bears
-- the token, the statement that at most one does, and how a step keeps it or moves it. The acts, place by place,
-- stand in Steps and Passing.
--     Sole                 what is said of one row: its locked is in order, and if it bears the token then it is the bearer
--     Excl                 the statement of a state
--     quiet                a step that writes only its own row and gains no token keeps the statement
--     blind                a put to a cell that the statement does not mention keeps it
--     parked_bears, parked_left, free_locks, parked_locks      what the table of places says of 0, 2 and 3
use Prim.Native.Nat.{ℕ}
use mathlib.Core.Path.{◌≡◌, refl, sym, subst, ◌∙◌}
use mathlib.Core.Bool.{Bool, true, not}
use mathlib.Core.Logic.{◌≢◌}
use lib.ListN.{length}
use Rattle.lock.specs.declared.Row.{Row}
use Rattle.lock.specs.declared.LockState.{LockState}
use Rattle.choice.specs.Every.{every}
use Rattle.choice.proofs.Tests.{implies, implied}
use Rattle.lock.specs.State.{processors, none, is_none, Released, Preempted, RP, row, put_row}
use Rattle.lock.proofs.Ground.Rows.{rows_put}
use Rattle.lock.proofs.Ground.Writes.{Own, own_all, put_all}
use Rattle.lock.proofs.Ground.Facts.{Facts, facts, facts_at, bears, at_facts}

-- of the row of q: h is the bearer, t the tail
pub record Sole (h t q : ℕ) (f : Facts) (l : ℕ) (x : Bool) : Type 0 where
  pub settled : f.locks l ≡ true
  pub one : bears f l x ≡ true → (q ≡ h) × (t ≢ none)

abbrev pub SoleRow : ℕ → ℕ → ℕ → Row → Type 0
SoleRow h t q r = Sole h t q (facts_at r.place) r.locked (is_none r.nx)

abbrev pub bears_row : Row → Bool
bears_row r = bears (facts_at r.place) r.locked (is_none r.nx)

pub record Excl (s : LockState) : Type 0 where
  pub rooms : length s.rows ≡ processors
  pub bearer : ℕ
  pub rows : (q : ℕ) → SoleRow bearer s.tail q (row s q)

-- a parked token is borne, and is gone once locked is Released; Released fits every place; where one may be Preempted one may
-- be R_P. m is the number of a place.
pub parked_bears : (m : ℕ) (x : Bool) → (facts_at m).locks RP ≡ true → bears (facts_at m) RP x ≡ true
unfolding every
parked_bears m x h =
    implied ((facts_at m).locks RP) (bears (facts_at m) RP x)
    (at_facts (λ k. implies ((facts k).locks RP) (bears (facts k) RP x)) refl m) h

pub parked_left : (m : ℕ) (x : Bool) → (facts_at m).locks RP ≡ true → not (bears (facts_at m) Released x) ≡ true
unfolding every
parked_left m x h =
    implied ((facts_at m).locks RP) (not (bears (facts_at m) Released x))
    (at_facts (λ k. implies ((facts k).locks RP) (not (bears (facts k) Released x))) refl m) h

pub free_locks : (m : ℕ) → (facts_at m).locks Released ≡ true
unfolding every
free_locks m = at_facts (λ k. (facts k).locks Released) refl m

pub parked_locks : (m : ℕ) → (facts_at m).locks Preempted ≡ true → (facts_at m).locks RP ≡ true
unfolding every
parked_locks m h =
    implied ((facts_at m).locks Preempted) ((facts_at m).locks RP)
    (at_facts (λ k. implies ((facts k).locks Preempted) ((facts k).locks RP)) refl m) h

-- a step that writes only its own row and gains no token
pub quiet :
    {s t : LockState} {p : ℕ} {r : Row} → Excl s → Own s t p r s.tail
    → ((h tail : ℕ) → SoleRow h tail p (row s p) → SoleRow h tail p r) → Excl t
quiet {s} {t} {p} {r} x o mine =
    record {
      rooms = o.rooms ∙ x.rooms;
      bearer = x.bearer;
      rows =
          subst (λ (v : ℕ). (q : ℕ) → SoleRow x.bearer v q (row t q)) (sym o.tail)
          (own_all (SoleRow x.bearer s.tail) o (mine x.bearer s.tail (x.rows p)) (λ q d. x.rows q));
    }

-- a put to a cell that the statement does not mention
pub blind :
    {s : LockState} (y : ℕ) (r : Row) → ((h tail q : ℕ) → SoleRow h tail q (row s y) → SoleRow h tail q r) → Excl s
    → Excl (put_row s y r)
unfolding put_row
blind {s} y r same x =
    record {
      rooms = rows_put s y r ∙ x.rooms;
      bearer = x.bearer;
      rows = put_all (SoleRow x.bearer s.tail) s y r x.rows (same x.bearer s.tail y (x.rows y));
    }
