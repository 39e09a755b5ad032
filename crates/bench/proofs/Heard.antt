-- What is heard of later lines, line by line, for those who go along a schedule.
--     heard_fuel               any two fuels that are enough hear the same calls
--     heard_on, heard_stops    a line that is not refused, and one that is; heard_end at the end of the text
--     line_asks, line_unread   the call and the refusal of a line, by what the reader answers
-- Assumes nothing.
use Prim.Native.Nat.{ℕ, zero, suc, ◌≤◌, ◌<◌}
use native.Mathlib.Omega.{arith}
use mathlib.Core.Path.{◌≡◌, refl, ap, ◌∙◌}
use mathlib.Core.Bool.{true, false, cond}
use mathlib.Core.List.{List, [], ◌∷◌}
use lib.ListN.{length, length-drop}
use lib.Dec.{eqb}
use Rattle.lock.specs.declared.LockState.{LockState}
use Rattle.lock.specs.Event.{happens}
use Rattle.lock.specs.Run.{Call, after}
use Rattle.frame.specs.Reading.{Told, reads, rest_of, refused_by}
use Rattle.bench.specs.Log.{second, third}
use Rattle.bench.specs.Bridge.{call_of, line_refusal, heard_from}
use Rattle.bench.proofs.Frames.{framed, refused_not_zero}

pub heard_fuel : (fuel other : ℕ) (s : LockState) (text : List ℕ) → length text ≤ fuel → length text ≤ other →
    heard_from fuel s text ≡ heard_from other s text
unfolding heard_from
heard_fuel zero zero s text h g = refl
heard_fuel zero (suc other) s [] h g = refl
heard_fuel zero (suc other) s (b ∷ text) h g = absurd (omega arith)
heard_fuel (suc fuel) zero s [] h g = refl
heard_fuel (suc fuel) zero s (b ∷ text) h g = absurd (omega arith)
heard_fuel (suc fuel) (suc other) s [] h g = refl
heard_fuel (suc fuel) (suc other) s (b ∷ text) h g =
    let here = b ∷ text in
    ap (λ (calls : List Call). cond (eqb (line_refusal s here) 0) (call_of here ∷ calls) [])
    (heard_fuel fuel other (after s (call_of here)) (rest_of here)
    (omega (arith, length-drop 9 here))
    (omega (arith, length-drop 9 here)))

pub heard_end : (s : LockState) (text : List ℕ) → length text ≤ 0 →
    (heard_from (length text) s text ≡ []) × (line_refusal s text ≡ 0)
unfolding heard_from line_refusal
heard_end s [] h = (refl, refl)
heard_end s (b ∷ text) h = absurd (omega arith)

pub heard_on : (s : LockState) (text : List ℕ) → 0 < length text → eqb (line_refusal s text) 0 ≡ true →
    heard_from (length text) s text
    ≡ call_of text ∷ heard_from (length (rest_of text)) (after s (call_of text)) (rest_of text)
unfolding heard_from
heard_on s [] h e = absurd (omega arith)
heard_on s (b ∷ text) h e =
    simp e
    (ap (λ (calls : List Call). call_of (b ∷ text) ∷ calls)
    (heard_fuel (length text) (length (rest_of (b ∷ text))) (after s (call_of (b ∷ text))) (rest_of (b ∷ text))
    (omega (arith, length-drop 9 (b ∷ text)))
    (omega arith)))

pub heard_stops : (s : LockState) (text : List ℕ) → 0 < length text → eqb (line_refusal s text) 0 ≡ false →
    heard_from (length text) s text ≡ []
unfolding heard_from
heard_stops s [] h e = absurd (omega arith)
heard_stops s (b ∷ text) h e = simp e

-- the refusal of a later line, by what the reader tells
abbrev told_refusal : LockState → Told → ℕ
told_refusal s t = cond (eqb t.refusal 0) (happens s (second t) (third t)).refusal t.refusal

refusal_told : (s : LockState) (text : List ℕ) → 0 < length text → line_refusal s text ≡ told_refusal s (reads text false)
unfolding line_refusal
refusal_told s [] h = absurd (omega arith)
refusal_told s (b ∷ text) h = refl

module _ (s : LockState) (text : List ℕ) (some : 0 < length text) where
  pub line_asks : (kind event p check : ℕ) → reads text false ≡ framed kind event p check →
      (call_of text ≡ record { event = event; processor = p }) × (line_refusal s text ≡ (happens s event p).refusal)
  line_asks kind event p check e = (
    ap (λ (t : Told). record { event = second t; processor = third t }) e,
    refusal_told s text some ∙ ap (told_refusal s) e,
  )

  pub line_unread : (n : ℕ) → reads text false ≡ refused_by n → (line_refusal s text ≡ n) × (eqb n 0 ≡ false)
  line_unread n e =
      let not-zero : eqb n 0 ≡ false = refused_not_zero text false n e in
      (refusal_told s text some ∙ ap (told_refusal s) e ∙ simp not-zero, not-zero)
