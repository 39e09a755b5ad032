-- Every log is a run, as far as its schedule is heard.
--     heard_turn, unheard_turn     the turn of a line that is not refused, and of one that is
--     later_heard_log                  the log from a later line on
--     heard_accepted, heard-rows   the calls that are heard are accepted, and each has its row
--     heard_all                    where no refusal follows them, nothing is left of the text
--     first_is_read, first_whole   where line 1 is not refused, the reader has accepted it, and the first state is sound
--     log_is_run                   the whole log
-- Assumes nothing.
use Prim.Native.Nat.{ℕ, zero, suc, ◌+◌, ◌*◌, ◌≤◌, ◌<◌}
use native.Mathlib.Omega.{arith}
use mathlib.Core.Path.{◌≡◌, refl, sym, ap, ◌∙◌, subst}
use mathlib.Core.Logic.{◌≢◌, ⊎_elim}
use mathlib.Core.Bool.{true, false}
use mathlib.Core.List.{List, [], ◌∷◌, ◌++◌, append_assoc, append-nil}
use lib.ListN.{length, drop, length-append, length-drop}
use lib.Seq.{drop-drop}
use lib.Dec.{eqb}
use borrow.Author.Tests.{eqb-true, eq-eqb, ne_eqb, lt-ltb, le-ltb}
use Rattle.choice.proofs.Tests.{cases, clash}
use Rattle.lock.specs.declared.LockState.{LockState}
use Rattle.lock.specs.Event.{Answer}
use Rattle.lock.specs.Event.{fresh, happens}
use Rattle.lock.specs.Kept.{Whole}
use Rattle.lock.specs.Run.{Call, after, run}
use Rattle.lock.specs.Claims.{made, IsRun}
use Rattle.lock.proofs.Keeping.{fresh_kept}
use Rattle.lock.proofs.Roof.Callers.{calls_are_a_run}
use Rattle.frame.specs.Reading.{reads, rest_of}
use Rattle.bench.specs.Log.{longest, refused_at, counted, shown, stopped, answered, followed, turn_of, log_from, begun, opened, log_of}
use Rattle.bench.specs.Bridge.{call_of, rows_of, are_accepted, edition_of, processors_of, first_state, first_refusal, line_refusal, heard_from, heard_of, refusal_of, ending, first_line, later_lines, LogIsARun}
use Rattle.bench.specs.Steps.{shows}
use Rattle.bench.proofs.Sizes.{shown_size}

module _ (s : LockState) (line b : ℕ) (text : List ℕ) where
  abbrev here : List ℕ
  here = b ∷ text

  abbrev call : Call
  call = call_of here

  abbrev unread : ℕ
  unread = (reads here false).refusal

  pub heard_turn : eqb (line_refusal s here) 0 ≡ true →
      turn_of s line here ≡ shows (after s call) call.event call.processor
  unfolding turn_of followed answered after line_refusal
  heard_turn e =
      ⊎_elim (λ (r : eqb unread 0 ≡ true). simp (r, simp r at e))
      (λ (r : eqb unread 0 ≡ false). clash (simp r at e) refl)
      (cases (eqb unread 0))

  pub unheard_turn : eqb (line_refusal s here) 0 ≡ false → turn_of s line here ≡ stopped s (line_refusal s here) line
  unfolding turn_of followed answered line_refusal
  unheard_turn e =
      ⊎_elim (λ (r : eqb unread 0 ≡ true). simp (r, simp r at e))
      (λ (r : eqb unread 0 ≡ false). simp r)
      (cases (eqb unread 0))

  -- the call is then accepted
  pub heard_taken : eqb (line_refusal s here) 0 ≡ true → eqb (happens s call.event call.processor).refusal 0 ≡ true
  unfolding line_refusal
  heard_taken e =
      ⊎_elim (λ (r : eqb unread 0 ≡ true). simp r at e)
      (λ (r : eqb unread 0 ≡ false). clash (simp r at e) refl)
      (cases (eqb unread 0))

  -- what is heard of the text from this line on
  more : (fuel : ℕ) → eqb (line_refusal s here) 0 ≡ true →
      heard_from (suc fuel) s here ≡ call ∷ heard_from fuel (after s call) (rest_of here)
  unfolding heard_from
  more fuel e = simp e

  none : (fuel : ℕ) → eqb (line_refusal s here) 0 ≡ false → heard_from (suc fuel) s here ≡ []
  unfolding heard_from
  none fuel e = simp e

-- the text behind the lines of n calls and of one before them
pub behind : (n : ℕ) (text : List ℕ) → drop (9 * n) (rest_of text) ≡ drop (9 * suc n) text
behind n text =
    let all : 9 + 9 * n ≡ 9 * suc n = omega arith in
    drop-drop (9 * n) 9 text ∙ ap (λ (k : ℕ). drop k text) all

-- how the log ends after k calls and those that are heard
abbrev end_after : ℕ → LockState → List Call → List ℕ → List ℕ
end_after k s calls text = ending (line_refusal (run s calls) (drop (9 * length calls) text)) (k + length calls)

-- the log from a later line on is as said, with these calls
abbrev Along : ℕ → LockState → ℕ → List ℕ → List Call → Type 0
Along fuel s k text calls = log_from fuel s k text ≡ rows_of s calls ++ end_after k s calls text

along_more : (fuel : ℕ) (s : LockState) (k b : ℕ) (text : List ℕ) (calls : List Call) →
    eqb (line_refusal s (b ∷ text)) 0 ≡ true →
    Along fuel (after s (call_of (b ∷ text))) (suc k) (rest_of (b ∷ text)) calls →
    Along (suc fuel) s k (b ∷ text) (call_of (b ∷ text) ∷ calls)
unfolding log_from rows_of run
along_more fuel s k b text calls e on =
    let here = b ∷ text in
    let c = call_of here in
    let next = after s c in
    let shows-it = shown next c.event c.processor in
    let count : suc k + length calls ≡ k + suc (length calls) = omega arith in
    let refusal : List ℕ → ℕ = λ t. line_refusal (run next calls) t in
    simp (heard_turn s (k + 2) b text e)
    (ap (λ (l : List ℕ). shows-it ++ l)
    (on
    ∙ ap (λ (t : List ℕ). rows_of next calls ++ ending (refusal t) (suc k + length calls)) (behind (length calls) here)
    ∙ ap (λ (m : ℕ). rows_of next calls ++ ending (refusal (drop (9 * suc (length calls)) here)) m) count)
    ∙ sym (append_assoc shows-it (rows_of next calls) (end_after k s (c ∷ calls) here)))

along_none : (fuel : ℕ) (s : LockState) (k b : ℕ) (text : List ℕ) → eqb (line_refusal s (b ∷ text)) 0 ≡ false →
    Along (suc fuel) s k (b ∷ text) []
unfolding log_from rows_of run
along_none fuel s k b text e =
    let here = b ∷ text in
    let line : k + 2 ≡ k + 0 + 2 = omega arith in
    simp (unheard_turn s (k + 2) b text e, e)
    (append-nil (refused_at (line_refusal s here) (k + 2)) ∙ ap (refused_at (line_refusal s here)) line)

along_heard : (fuel : ℕ) (s : LockState) (k b : ℕ) (text : List ℕ) →
    Along fuel (after s (call_of (b ∷ text))) (suc k) (rest_of (b ∷ text))
    (heard_from fuel (after s (call_of (b ∷ text))) (rest_of (b ∷ text))) →
    Along (suc fuel) s k (b ∷ text) (heard_from (suc fuel) s (b ∷ text))
along_heard fuel s k b text on =
    ⊎_elim
    (λ (e : eqb (line_refusal s (b ∷ text)) 0 ≡ true).
    subst (Along (suc fuel) s k (b ∷ text)) (sym (more s 0 b text fuel e)) (along_more fuel s k b text _ e on))
    (λ (e : eqb (line_refusal s (b ∷ text)) 0 ≡ false).
    subst (Along (suc fuel) s k (b ∷ text)) (sym (none s 0 b text fuel e)) (along_none fuel s k b text e))
    (cases (eqb (line_refusal s (b ∷ text)) 0))

pub later_heard_log : (fuel : ℕ) (s : LockState) (k : ℕ) (text : List ℕ) → length text ≤ fuel →
    Along fuel s k text (heard_from fuel s text)
unfolding log_from heard_from rows_of run line_refusal
later_heard_log zero s k [] h = let same : k ≡ k + 0 = omega arith in ap counted same
later_heard_log zero s k (b ∷ text) h = absurd (omega arith)
later_heard_log (suc fuel) s k [] h = let same : k ≡ k + 0 = omega arith in ap counted same
later_heard_log (suc fuel) s k (b ∷ text) h =
    along_heard fuel s k b text
    (later_heard_log fuel (after s (call_of (b ∷ text))) (suc k) (rest_of (b ∷ text)) (omega (arith, length-drop 9 (b ∷ text))))

pub heard_accepted : (fuel : ℕ) (s : LockState) (text : List ℕ) → are_accepted s (heard_from fuel s text) ≡ true
unfolding heard_from are_accepted
heard_accepted zero s text = refl
heard_accepted (suc fuel) s [] = refl
heard_accepted (suc fuel) s (b ∷ text) =
    let c = call_of (b ∷ text) in
    ⊎_elim
    (λ (e : eqb (line_refusal s (b ∷ text)) 0 ≡ true).
    simp (e, heard_taken s 0 b text e) (heard_accepted fuel (after s c) (rest_of (b ∷ text))))
    (λ (e : eqb (line_refusal s (b ∷ text)) 0 ≡ false). simp e)
    (cases (eqb (line_refusal s (b ∷ text)) 0))

pub rows_long : (s : LockState) (calls : List Call) → length (rows_of s calls) ≡ 17 * length calls
unfolding rows_of
rows_long s [] = refl
rows_long s (c ∷ cs) =
    length-append (shown (after s c) c.event c.processor) (rows_of (after s c) cs)
    ∙ omega (arith, shown_size (after s c) c.event c.processor, rows_long (after s c) cs)

-- nothing is left of the text behind these calls, where no refusal follows them
abbrev AllHeard : LockState → List ℕ → List Call → Type 0
AllHeard s text calls = line_refusal (run s calls) (drop (9 * length calls) text) ≡ 0 → drop (9 * length calls) text ≡ []

whole_heard : (fuel : ℕ) (s : LockState) (b : ℕ) (text : List ℕ) →
    AllHeard (after s (call_of (b ∷ text))) (rest_of (b ∷ text))
    (heard_from fuel (after s (call_of (b ∷ text))) (rest_of (b ∷ text))) →
    AllHeard s (b ∷ text) (heard_from (suc fuel) s (b ∷ text))
unfolding run
whole_heard fuel s b text on =
    let here = b ∷ text in
    let next = after s (call_of here) in
    let calls = heard_from fuel next (rest_of here) in
    ⊎_elim
    (λ (e : eqb (line_refusal s here) 0 ≡ true).
    subst (AllHeard s here) (sym (more s 0 b text fuel e))
    (λ h. sym (behind (length calls) here) ∙ on (ap (line_refusal (run next calls)) (behind (length calls) here) ∙ h)))
    (λ (e : eqb (line_refusal s here) 0 ≡ false).
    subst (AllHeard s here) (sym (none s 0 b text fuel e)) (λ h. clash (eq-eqb (line_refusal s here) 0 h) e))
    (cases (eqb (line_refusal s here) 0))

pub heard_all : (fuel : ℕ) (s : LockState) (text : List ℕ) → length text ≤ fuel → AllHeard s text (heard_from fuel s text)
unfolding heard_from
heard_all zero s [] h = λ e. refl
heard_all zero s (b ∷ text) h = absurd (omega arith)
heard_all (suc fuel) s [] h = λ e. refl
heard_all (suc fuel) s (b ∷ text) h =
    whole_heard fuel s b text
    (heard_all fuel (after s (call_of (b ∷ text))) (rest_of (b ∷ text)) (omega (arith, length-drop 9 (b ∷ text))))

-- the refusal of line 1, by its two tests
module _ (text : List ℕ) where
  abbrev unread_1 : ℕ
  unread_1 = (reads text true).refusal

  abbrev made_1 : Answer
  made_1 = fresh (edition_of text) (processors_of text)

  first_read : first_refusal text ≡ 0 → eqb unread_1 0 ≡ true
  first_read h =
      ⊎_elim (λ (r : eqb unread_1 0 ≡ true). r)
      (λ (r : eqb unread_1 0 ≡ false). eq-eqb unread_1 0 (simp r at h))
      (cases (eqb unread_1 0))

  pub first_is_read : first_refusal text ≡ 0 → unread_1 ≡ 0
  first_is_read h = eqb-true unread_1 0 (first_read h)

  first_made : first_refusal text ≡ 0 → made_1.refusal ≡ 0
  first_made h = simp (first_read h) at h

  -- the fresh state is a run of no calls, with edition and N in range
  first_run : first_refusal text ≡ 0 → IsRun (edition_of text) (processors_of text) [] made_1.state
  first_run h =
      calls_are_a_run (edition_of text) (processors_of text) [] made_1.state (made made_1 refl (first_made h))

  pub first_state_is : first_refusal text ≡ 0 → made_1.state ≡ first_state text
  unfolding run
  first_state_is h = (first_run h).state

  pub first_whole : first_refusal text ≡ 0 → Whole (first_state text)
  first_whole h = subst Whole (first_state_is h) (fresh_kept (edition_of text) (processors_of text))

  refused_first : length text ≤ longest → first_refusal text ≢ 0 → log_of text ≡ refused_at (first_refusal text) 1
  unfolding log_of opened begun
  refused_first low h =
      ⊎_elim
      (λ (r : eqb unread_1 0 ≡ true).
      let no-state : eqb made_1.refusal 0 ≡ false = ne_eqb made_1.refusal 0 (λ z. h (simp r z)) in
      simp (le-ltb longest (length text) low, r, no-state))
      (λ (r : eqb unread_1 0 ≡ false). simp (le-ltb longest (length text) low, r))
      (cases (eqb unread_1 0))

  accepted_first : length text ≤ longest → first_refusal text ≡ 0 →
      log_of text ≡ first_line text ++ later_lines text
  unfolding log_of opened begun
  accepted_first low h =
      let count : 0 + length (heard_of text) ≡ length (heard_of text) = omega arith in
      simp (
        le-ltb longest (length text) low,
        first_read h,
        eq-eqb made_1.refusal 0 (first_made h),
        first_state_is h,
      )
      (ap (λ (l : List ℕ). first_line text ++ l)
      (later_heard_log (length text) (first_state text) 0 (rest_of text) (omega (arith, length-drop 9 text))
      ∙ ap (λ (m : ℕ). rows_of (first_state text) (heard_of text) ++ ending (refusal_of text) m) count))

  pub log_is_run : LogIsARun text
  unfolding log_of
  log_is_run =
      record {
        too_long = λ (h : longest < length text). simp (lt-ltb longest (length text) h);
        line_1_refused = refused_first;
        line_1_accepted = accepted_first;
        in_range = λ (h : first_refusal text ≡ 0). (first_run h).range;
        heard_accepted = heard_accepted (length text) (first_state text) (rest_of text);
        row_for_each = rows_long (first_state text) (heard_of text);
        to_the_end = heard_all (length text) (first_state text) (rest_of text) (omega (arith, length-drop 9 text));
      }
