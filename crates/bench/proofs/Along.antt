-- The log along a run: where nothing is refused, and what its rows show.
--     accepted_is_run     the log of a schedule with no refusal
--     rows_follow         the row after each call shows the state of the run then
--     entry_mark          the mark 4 is an entry
-- Assumes nothing.
use Prim.Native.Nat.{ℕ, zero, suc, ◌+◌, ◌*◌, ◌≤◌}
use native.Mathlib.Omega.{arith}
use mathlib.Core.Path.{◌≡◌, refl, sym, ap, ◌∙◌}
use mathlib.Core.Logic.{◌↔◌}
use mathlib.Core.Bool.{Bool, true, false, cond, ◌&&◌, true≢false}
use mathlib.Core.List.{List, [], ◌∷◌, ◌++◌, append_assoc, append-nil}
use lib.ListN.{length, drop, length-drop}
use lib.Dec.{eqb}
use borrow.Author.Tests.{eq-eqb}
use Rattle.choice.proofs.Tests.{and_left, and_right}
use Rattle.lock.specs.declared.LockState.{LockState}
use Rattle.lock.specs.State.{row}
use Rattle.lock.specs.Event.{happens, is_step}
use Rattle.lock.specs.Run.{Call, after, run, steps_of, enters}
use Rattle.frame.specs.Reading.{reads, rest_of}
use Rattle.bench.specs.Log.{counted, marks_of, marks, shown, log_of}
use Rattle.bench.specs.Bridge.{call_of, calls_from, calls_of, rows_of, are_read, are_accepted, first_state, first_line, first_refusal, line_refusal, heard_from, ending, Accepted, EntryMark}
use Rattle.bench.proofs.Hearing.{behind, log_is_run}

-- where every line is read and every call accepted, all of them are heard
heard_same : (fuel : ℕ) (s : LockState) (text : List ℕ) → are_read fuel text ≡ true →
    are_accepted s (calls_from fuel text) ≡ true →
    heard_from fuel s text ≡ calls_from fuel text
unfolding are_read are_accepted calls_from heard_from line_refusal
heard_same zero s text e f = refl
heard_same (suc fuel) s [] e f = refl
heard_same (suc fuel) s (b ∷ text) e f =
    let t = b ∷ text in
    let c = call_of t in
    let read = eqb (reads t false).refusal 0 in
    let taken = eqb (happens s c.event c.processor).refusal 0 in
    let later = calls_from fuel (rest_of t) in
    simp (and_left read (are_read fuel (rest_of t)) e, and_left taken (are_accepted (after s c) later) f)
    (ap (λ (l : List Call). c ∷ l)
    (heard_same fuel (after s c) (rest_of t) (and_right read (are_read fuel (rest_of t)) e)
    (and_right taken (are_accepted (after s c) later) f)))

-- and nothing is left of the text behind them
calls_whole : (fuel : ℕ) (text : List ℕ) → length text ≤ fuel → drop (9 * length (calls_from fuel text)) text ≡ []
unfolding calls_from
calls_whole zero [] h = refl
calls_whole zero (b ∷ text) h = absurd (omega arith)
calls_whole (suc fuel) [] h = refl
calls_whole (suc fuel) (b ∷ text) h =
    sym (behind (length (calls_from fuel (rest_of (b ∷ text)))) (b ∷ text))
    ∙ calls_whole fuel (rest_of (b ∷ text)) (omega (arith, length-drop 9 (b ∷ text)))

pub accepted_is_run : (text : List ℕ) → Accepted text →
    log_of text
    ≡ first_line text
    ++ (rows_of (first_state text) (calls_of text) ++ counted (length (calls_of text)))
unfolding line_refusal
accepted_is_run text h =
    let s = first_state text in
    let same = heard_same (length text) s (rest_of text) h.lines_are h.calls_are in
    let whole = calls_whole (length text) (rest_of text) (omega (arith, length-drop 9 text)) in
    let first : first_refusal text ≡ 0 = simp (eq-eqb (reads text true).refusal 0 h.line_is) h.state_is in
    (log_is_run text).line_1_accepted h.length_is first
    ∙ ap (λ (l : List ℕ). first_line text ++ l)
    (ap
    (λ (cs : List Call).
    rows_of s cs ++ ending (line_refusal (run s cs) (drop (9 * length cs) (rest_of text))) (length cs)) same
    ∙ ap (λ (t : List ℕ). rows_of s (calls_of text) ++ ending (line_refusal (run s (calls_of text)) t) (length (calls_of text)))
    whole)

pub rows_follow : (s : LockState) (before : List Call) (c : Call) →
    rows_of s (before ++ (c ∷ [])) ≡ rows_of s before ++ shown (run s (before ++ (c ∷ []))) c.event c.processor
unfolding rows_of run
rows_follow s [] c = append-nil (shown (after s c) c.event c.processor)
rows_follow s (b ∷ before) c =
    ap (λ (l : List ℕ). shown (after s b) b.event b.processor ++ l) (rows_follow (after s b) before c)
    ∙ sym (append_assoc (shown (after s b) b.event b.processor) (rows_of (after s b) before)
    (shown (run (after s b) (before ++ (c ∷ []))) c.event c.processor))

-- of an accepted call, that it is a step that ends at 9 is that it enters
entry_is : (s : LockState) (c : Call) → (happens s c.event c.processor).refusal ≡ 0 →
    enters s c c.processor ≡ (is_step c.event && eqb (row (after s c) c.processor).place 9)
unfolding enters steps_of
entry_is s c h =
    simp (eq-eqb (happens s c.event c.processor).refusal 0 h, eq-eqb c.processor c.processor refl)
    (within (is_step c.event) (eqb (row (after s c) c.processor).place 9))
  where
    within : (a b : Bool) → (a && true) && b ≡ a && b
    within true b = refl
    within false b = refl

-- the mark is the only one that reaches 4
reaches : (flag guard entry : Bool) → (4 ≤ cond flag 1 0 + cond guard 2 0 + cond entry 4 0) ↔ (entry ≡ true)
reaches true true true = (λ _. refl, λ _. omega arith)
reaches true true false = (λ h. absurd (omega arith), λ e. absurd (true≢false (sym e)))
reaches true false true = (λ _. refl, λ _. omega arith)
reaches true false false = (λ h. absurd (omega arith), λ e. absurd (true≢false (sym e)))
reaches false true true = (λ _. refl, λ _. omega arith)
reaches false true false = (λ h. absurd (omega arith), λ e. absurd (true≢false (sym e)))
reaches false false true = (λ _. refl, λ _. omega arith)
reaches false false false = (λ h. absurd (omega arith), λ e. absurd (true≢false (sym e)))

pub entry_mark : (s : LockState) (c : Call) → (happens s c.event c.processor).refusal ≡ 0 → EntryMark s c
unfolding marks marks_of
entry_mark s c h =
    let r = row (after s c) c.processor in
    record {
      sum = simp (entry_is s c h);
      given = simp (entry_is s c h) (reaches r.flag r.guard (is_step c.event && eqb r.place 9));
    }
