-- The fuel of `log_from` does not matter once it is the length of the text, and the equation of one turn that a reader
-- expects.
--     fuel_same    any two fuels that are enough give one log
--     log_ends     the log from the end of the text on is the count
--     log_turns    the log from a line on is what the line makes and, where it goes on, the log from the next line on
-- Assumes nothing.
use Prim.Native.Nat.{ℕ, zero, suc, ◌+◌, ◌≤◌, ◌<◌}
use native.Mathlib.Omega.{arith}
use mathlib.Core.Path.{◌≡◌, refl, ap}
use mathlib.Core.Bool.{cond}
use mathlib.Core.List.{List, [], ◌∷◌, ◌++◌}
use lib.ListN.{length, length-drop}
use Rattle.lock.specs.declared.LockState.{LockState}
use Rattle.frame.specs.Reading.{rest_of}
use Rattle.bench.specs.Log.{Turn, counted, turn_of, log_from}

-- what a turn writes, and a log after it where it goes on
abbrev pub then_more : Turn → List ℕ → List ℕ
then_more t more = t.written ++ cond t.goes_on more []

pub fuel_same : (fuel other : ℕ) (s : LockState) (accepted : ℕ) (text : List ℕ) → length text ≤ fuel →
    length text ≤ other →
    log_from fuel s accepted text ≡ log_from other s accepted text
unfolding log_from
fuel_same zero zero s accepted text h g = refl
fuel_same zero (suc other) s accepted [] h g = refl
fuel_same zero (suc other) s accepted (b ∷ text) h g = absurd (omega arith)
fuel_same (suc fuel) zero s accepted [] h g = refl
fuel_same (suc fuel) zero s accepted (b ∷ text) h g = absurd (omega arith)
fuel_same (suc fuel) (suc other) s accepted [] h g = refl
fuel_same (suc fuel) (suc other) s accepted (b ∷ text) h g =
    let t = turn_of s (accepted + 2) (b ∷ text) in
    ap (then_more t)
    (fuel_same fuel other t.next (suc accepted) (rest_of (b ∷ text))
    (omega (arith, length-drop 9 (b ∷ text)))
    (omega (arith, length-drop 9 (b ∷ text))))

pub log_ends : (fuel : ℕ) (s : LockState) (accepted : ℕ) (text : List ℕ) → length text ≤ 0 →
    log_from fuel s accepted text ≡ counted accepted
unfolding log_from
log_ends zero s accepted [] h = refl
log_ends (suc fuel) s accepted [] h = refl
log_ends fuel s accepted (b ∷ text) h = absurd (omega arith)

pub log_turns : (s : LockState) (accepted : ℕ) (text : List ℕ) → 0 < length text →
    log_from (length text) s accepted text
    ≡ then_more (turn_of s (accepted + 2) text)
    (log_from (length (rest_of text)) (turn_of s (accepted + 2) text).next (suc accepted) (rest_of text))
unfolding log_from
log_turns s accepted [] h = absurd (omega arith)
log_turns s accepted (b ∷ text) h =
    let t = turn_of s (accepted + 2) (b ∷ text) in
    ap (then_more t)
    (fuel_same (length text) (length (rest_of (b ∷ text))) t.next (suc accepted) (rest_of (b ∷ text))
    (omega (arith, length-drop 9 (b ∷ text)))
    (omega arith))
