-- No log has a to f: every line is written, of values that are bytes.
--     refusal_upper, count_upper     the lines 05 and 04
--     row_upper                      the 03 line of a processor in a sound state
--     log_upper                      the whole log
-- Assumes nothing.
use Prim.Native.Nat.{ℕ, ◌+◌, ◌<◌, ◌≤◌}
use native.Mathlib.Omega.{arith}
use mathlib.Core.Path.{◌≡◌, refl, sym, ap, subst, ◌∙◌}
use mathlib.Core.Logic.{◌≢◌, ⊎_elim}
use mathlib.Core.Bool.{Bool, true, false, cond, not, ◌&&◌, ◌||◌}
use mathlib.Core.List.{List, [], ◌∷◌, ◌++◌}
use lib.ListN.{length, take}
use lib.Dec.{eqb, ltb, leb}
use borrow.Author.Tests.{eqb-true, eqb-false, ltb-true, ltb-false, leb-true, leb-false}
use Rattle.choice.proofs.Tests.{cases, clash, and_left, and_right, by_test}
use Rattle.lock.specs.declared.Row.{Row}
use Rattle.lock.specs.declared.LockState.{LockState}
use Rattle.lock.specs.Event.{Answer}
use Rattle.lock.specs.State.{processors, editions, is_none, RP, row}
use Rattle.lock.specs.Sound.{places, none_or_below, has_place, sound}
use Rattle.lock.specs.Event.{is_step, is_raise, fresh, happens}
use Rattle.lock.specs.Kept.{Whole}
use Rattle.lock.specs.Run.{Call, after, run}
use Rattle.lock.proofs.Ground.Editions.{has_beyond}
use Rattle.lock.proofs.Keeping.Parts.{ready}
use Rattle.lock.proofs.Keeping.{event_kept}
use Rattle.lock.proofs.Waiting.Stepping.{size_after}
use Rattle.frame.specs.Case.{upper_case}
use Rattle.frame.specs.Reading.{kind_of, reads}
use Rattle.frame.specs.Laws.{InUpperCase}
use Rattle.frame.proofs.Refusals.{by_order}
use Rattle.frame.proofs.Case.{upper_append, upper_twice, in_upper, line_upper}
use Rattle.bench.specs.Log.{longest, high, low, refused_at, counted, marks_of, row_shown, shown, log_of}
use Rattle.bench.specs.Bridge.{rows_of, are_accepted, edition_of, processors_of, first_state, first_refusal, line_refusal, heard_of, unheard_of, refusal_of, ending, first_line}
use Rattle.bench.proofs.Hearing.{first_is_read, first_whole, log_is_run}
use Rattle.bench.proofs.Case.{line_1_is}

-- a text that is as it is, raised
abbrev Upper : List ℕ → Type 0
Upper text = upper_case text ≡ text

both : (s t : List ℕ) → Upper s → Upper t → Upper (s ++ t)
both s t f g = upper_append s t ∙ ap (λ (l : List ℕ). l ++ upper_case t) f ∙ ap (λ (l : List ℕ). s ++ l) g

-- the lines of refusals and counts

pub refusal_upper : (refusal line : ℕ) → refusal < 256 → Upper (refused_at refusal line)
refusal_upper refusal line h =
    line_upper (5 ∷ refusal ∷ high line ∷ low line ∷ []) (omega arith, (h, (omega arith, (omega arith, tt))))

pub count_upper : (accepted : ℕ) → Upper (counted accepted)
count_upper accepted = line_upper (4 ∷ high accepted ∷ low accepted ∷ []) (omega arith, (omega arith, (omega arith, tt)))

read_small : (text : List ℕ) (is_first : Bool) → (reads text is_first).refusal < 256
read_small text is_first =
    let r = (reads text is_first).refusal in
    ⊎_elim (λ (e : r ≡ 0). omega arith)
    (⊎_elim (λ (e : r ≡ 2). omega arith)
    (⊎_elim (λ (e : r ≡ 3). omega arith) (⊎_elim (λ (e : r ≡ 4). omega arith) (λ (e : r ≡ 5). omega arith))))
    (by_order 4 (kind_of is_first) text).no_other

-- the refusal of an answer is a byte
abbrev Small : Answer → Type 0
Small a = a.refusal < 256

fresh_small : (edition n : ℕ) → Small (fresh edition n)
unfolding fresh
fresh_small edition n =
    by_test Small (leb editions edition) (λ _. omega arith)
    (λ _. by_test Small (eqb n 0 || ltb processors n) (λ _. omega arith) (λ _. omega arith))

happens_small : (s : LockState) (event p : ℕ) → Small (happens s event p)
unfolding happens
happens_small s event p =
    by_test Small (not (sound s)) (λ _. omega arith)
    (λ _. by_test Small (not (is_step event || is_raise event)) (λ _. omega arith)
    (λ _. by_test Small (leb s.n p) (λ _. omega arith) (λ _. omega arith)))

first_small : (text : List ℕ) → first_refusal text < 256
first_small text =
    by_test (λ (k : ℕ). k < 256) (eqb (reads text true).refusal 0)
    (λ _. fresh_small (edition_of text) (processors_of text)) (λ _. read_small text true)

line_small : (s : LockState) (text : List ℕ) → line_refusal s text < 256
unfolding line_refusal
line_small s [] = omega arith
line_small s (b ∷ text) =
    by_test (λ (k : ℕ). k < 256) (eqb (reads (b ∷ text) false).refusal 0)
    (λ _. happens_small s _ _) (λ _. read_small (b ∷ text) false)

-- the row of a processor of a sound state

none_small : (n q : ℕ) → n ≤ processors → none_or_below n q ≡ true → q < 256
none_small n q h e =
    ⊎_elim (λ (t : is_none q ≡ true). omega (arith, eqb-true q 255 t))
    (λ (t : is_none q ≡ false). omega (arith, ltb-true q n (simp t at e)))
    (cases (is_none q))

place_small : (e k : ℕ) → has_place e k ≡ true → k < 256
place_small e k h =
    ⊎_elim (λ (t : ltb k places ≡ true). omega (arith, ltb-true k places t))
    (λ (t : ltb k places ≡ false). clash h (sym (has_beyond e k (ltb-false k places t))))
    (cases (ltb k places))

marks_small : (r : Row) (event : ℕ) → marks_of r event < 256
unfolding marks_of
marks_small r event =
    let least : (b : Bool) (w : ℕ) → cond b w 0 ≤ w =
    λ b w. by_test (λ (k : ℕ). k ≤ w) b (λ _. omega arith) (λ _. omega arith) in
    omega (
      arith,
      least r.flag 1,
      least r.guard 2,
      least (is_step event && eqb r.place 9) 4,
    )

pub row_upper : (s : LockState) (event p : ℕ) → Whole s → p < s.n → Upper (shown s event p)
unfolding shown row_shown
row_upper s event p w below =
    let r = ready w below in
    let n-small : s.n ≤ processors = leb-true s.n processors r.base.most in
    let cells = (r.base.rows p).cells below in
    let own = row s p in
    let locked : own.locked < 256 = omega (arith, leb-true own.locked RP cells.locked) in
    let next = none_small s.n own.next n-small cells.next in
    let tail = none_small s.n s.tail n-small r.base.tail in
    let place = place_small s.edition own.place r.edition in
    line_upper (3 ∷ p ∷ own.place ∷ s.tail ∷ own.locked ∷ own.next ∷ marks_of own event ∷ [])
    (omega arith, (omega arith, (place, (tail, (locked, (next, (marks_small own event, tt)))))))

-- along a run

far_refused : (s : LockState) (event p : ℕ) → leb s.n p ≡ true → (happens s event p).refusal ≢ 0
unfolding happens
far_refused s event p far =
    let turned : Answer → Type 0 = λ a. a.refusal ≢ 0 in
    simp far
    (by_test turned (not (sound s)) (λ _ z. omega arith)
    (λ _. by_test turned (not (is_step event || is_raise event)) (λ _ z. omega arith) (λ _ z. omega arith)))

taken_below : (s : LockState) (event p : ℕ) → (happens s event p).refusal ≡ 0 → p < s.n
taken_below s event p h =
    ⊎_elim (λ (far : leb s.n p ≡ true). absurd (far_refused s event p far h))
    (leb-false s.n p)
    (cases (leb s.n p))

rows_upper : (s : LockState) (cs : List Call) → Whole s → are_accepted s cs ≡ true → Upper (rows_of s cs)
unfolding rows_of are_accepted upper_case after
rows_upper s [] w e = refl
rows_upper s (c ∷ cs) w e =
    let taken = eqb (happens s c.event c.processor).refusal 0 in
    let on = are_accepted (after s c) cs in
    let kept = event_kept s c.event c.processor w in
    let below = taken_below s c.event c.processor (eqb-true _ 0 (and_left taken on e)) in
    both (shown (after s c) c.event c.processor) (rows_of (after s c) cs)
    (row_upper (after s c) c.event c.processor kept (omega (arith, below, size_after s c w.rooms)))
    (rows_upper (after s c) cs kept (and_right taken on e))

ending_upper : (refusal accepted : ℕ) → refusal < 256 → Upper (ending refusal accepted)
ending_upper refusal accepted h =
    by_test Upper (eqb refusal 0) (λ _. count_upper accepted) (λ _. refusal_upper refusal (accepted + 2) h)

module _ (text : List ℕ) where
  header_upper : first_refusal text ≡ 0 → Upper (first_line text)
  header_upper h =
      let is = line_1_is text (first_is_read text h) in
      ap upper_case (sym is) ∙ upper_twice (take 9 text) ∙ is

  accepted_upper : length text ≤ longest → first_refusal text ≡ 0 → Upper (log_of text)
  accepted_upper fits h =
      let rows = rows_of (first_state text) (heard_of text) in
      let end = ending (refusal_of text) (length (heard_of text)) in
      let small = line_small (run (first_state text) (heard_of text)) (unheard_of text) in
      subst Upper (sym ((log_is_run text).line_1_accepted fits h))
      (both (first_line text) (rows ++ end) (header_upper h)
      (both rows end
      (rows_upper (first_state text) (heard_of text) (first_whole text h) (log_is_run text).heard_accepted)
      (ending_upper (refusal_of text) (length (heard_of text)) small)))

  fitting_upper : length text ≤ longest → Upper (log_of text)
  fitting_upper fits =
      ⊎_elim (λ (e : eqb (first_refusal text) 0 ≡ true). accepted_upper fits (eqb-true (first_refusal text) 0 e))
      (λ (e : eqb (first_refusal text) 0 ≡ false).
      subst Upper (sym ((log_is_run text).line_1_refused fits (eqb-false (first_refusal text) 0 e)))
      (refusal_upper (first_refusal text) 1 (first_small text)))
      (cases (eqb (first_refusal text) 0))

  pub log_upper : InUpperCase (log_of text)
  log_upper =
      in_upper (log_of text)
      (⊎_elim
      (λ (e : ltb longest (length text) ≡ true).
      subst Upper (sym ((log_is_run text).too_long (ltb-true longest (length text) e))) (refusal_upper 1 0 (omega arith)))
      (λ (e : ltb longest (length text) ≡ false). fitting_upper (ltb-false longest (length text) e))
      (cases (ltb longest (length text))))
