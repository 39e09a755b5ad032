-- How the invariant is put together after a step that writes one row or two, and what is left to show of a row at a
-- place of which little is said.
--     own_holds, both_holds        the invariant after a step that writes one row, or two
--     quiet                        the same where ghosts, tickets and tail stay
--     free_fit                     a row at a place where only its role is spoken of
--     relock                       another locked on a row that may be fenced
use Prim.Native.Nat.{ℕ, suc}
use mathlib.Core.Path.{◌≡◌, sym, subst, ◌∙◌}
use mathlib.Core.Bool.{Bool, true, not, ◌&&◌, ◌||◌, cond}
use mathlib.Core.Logic.{◌≢◌}
use lib.Dec.{leb}
use borrow.Author.Tests.{not-true}
use Rattle.lock.specs.declared.Row.{Row}
use Rattle.lock.specs.declared.LockState.{LockState}
use Rattle.choice.proofs.Tests.{and_left, and_right, neither_left, neither_right}
use Rattle.lock.specs.State.{is_none, row}
use Rattle.lock.proofs.Ground.Facts.{Facts, is_left, settled}
use Rattle.lock.proofs.Order.Tickets.{Tickets, is_ordered}
use Rattle.lock.proofs.Ground.Writes.{Own, own_all, Both, both_all}
use Rattle.lock.proofs.Order.Statement.{Ghost, Books, Duty, Fenced, Fit, FitRow, Holds}

pub own_holds :
    {s t : LockState} {g h : Tickets} {p : ℕ} {r : Row} {z : ℕ} (v : Holds s g) (H : Ghost) → Own s t p r z
    → Books h H z → FitRow s.edition h H p r → ((q : ℕ) → q ≢ p → FitRow s.edition h H q (row s q))
    → Holds t h
own_holds {s} {t} {g} {h} v H o b mine theirs =
    record {
      rooms = o.rooms ∙ v.rooms;
      ordered = subst (λ (z : ℕ). is_ordered z ≡ true) (sym o.edition) v.ordered;
      ghost = H;
      books = subst (λ (z : ℕ). Books h H z) (sym o.tail) b;
      fits =
          subst (λ (z : ℕ). (q : ℕ) → FitRow z h H q (row t q)) (sym o.edition)
          (own_all (FitRow s.edition h H) o mine theirs);
    }

pub both_holds :
    {s t : LockState} {g h : Tickets} {p y : ℕ} {r x : Row} (v : Holds s g) (H : Ghost) → Both s t p y r x
    → Books h H s.tail → FitRow s.edition h H p r → FitRow s.edition h H y x
    → ((q : ℕ) → q ≢ p → q ≢ y → FitRow s.edition h H q (row s q)) → Holds t h
both_holds {s} {t} {g} {h} v H o b mine near theirs =
    record {
      rooms = o.rooms ∙ v.rooms;
      ordered = subst (λ (z : ℕ). is_ordered z ≡ true) (sym o.edition) v.ordered;
      ghost = H;
      books = subst (λ (z : ℕ). Books h H z) (sym o.tail) b;
      fits =
          subst (λ (z : ℕ). (q : ℕ) → FitRow z h H q (row t q)) (sym o.edition)
          (both_all (FitRow s.edition h H) o mine near theirs);
    }

pub quiet :
    {s t : LockState} {g : Tickets} {p : ℕ} {r : Row} (v : Holds s g) → Own s t p r s.tail
    → FitRow s.edition g v.ghost p r → Holds t g
quiet v o mine = own_holds v v.ghost o v.books mine (λ q d. v.fits q)

-- the places at which pred, next, succ and nx are not spoken of, beyond the role
abbrev pub is_free : Facts → Bool
is_free st = not st.joining && not st.swaps && not st.fences && not (st.takes || st.lifts) && st.opens

pub free_fit :
    {e : ℕ} {g : Tickets} {G : Ghost} {q : ℕ} {st : Facts} {l next pred succ nx : ℕ} {guard : Bool} → is_free st ≡ true
    → leb l 3 ≡ true → settled st l ≡ true → Duty (st.role l (is_none nx)) g G q next succ (cond st.lifts nx succ)
    → (G.fencer q ≢ 0 → Fenced (G.lagged q) (G.peeked q) l next guard) → (guard ≡ true → (e ≢ 0) × (G.fencer q ≢ 0))
    → ((x : ℕ) → G.fencer x ≢ suc q)
    → Fit e g G q st l next pred succ nx guard
free_fit {g = g} {G = G} {q = q} {st = st} {succ = succ} free small settles duty fenced manned idle =
    let a = not st.joining in
    let b = not st.swaps in
    let c = not st.fences in
    let d = not (st.takes || st.lifts) in
    let abcd = and_left (a && b && c && d) st.opens free in
    let abc = and_left (a && b && c) d abcd in
    let ab = and_left (a && b) c abc in
    let neither = not-true (st.takes || st.lifts) (and_right (a && b && c) d abcd) in
    record {
      small = small;
      settles = settles;
      duty = duty;
      joins = rw (not-true st.joining (and_left a b ab)) tt;
      blank = rw (not-true st.swaps (and_right a b ab)) tt;
      fencing = rw (not-true st.fences (and_right (a && b) c abc)) idle;
      peeking = rw (neither_left st.takes st.lifts neither, neither_right st.takes st.lifts neither) (tt, tt);
      shut = λ k. and_right (a && b && c && d) st.opens free;
      fenced = fenced;
      manned = manned;
    }

-- another locked on a row that may be fenced
pub relock :
    {k : Bool} {z l m next : ℕ} {guard : Bool} → (is_left l ≡ true → is_left m ≡ true) → Fenced k z l next guard
    → Fenced k z m next guard
relock f w = record { set = w.set; still = λ k. f (w.still k); kept = w.kept }
