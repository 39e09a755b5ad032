-- The case of a schedule's digits does not matter for its log.
--     log_raised     the log of a schedule in upper case is the log of the schedule
--     line_1_is      an accepted line 1, raised, is the line of its numbers
--     as_before      where line 1 is in upper case, the line of its numbers is line 1 as read
--     sharp          and not in another case
-- Assumes nothing.
use Prim.Native.Nat.{ℕ, zero, suc, ◌+◌, ◌≤◌}
use native.Mathlib.Omega.{arith}
use mathlib.Core.Path.{◌≡◌, refl, sym, ap, ◌∙◌}
use mathlib.Core.Bool.{true, cond}
use mathlib.Core.List.{List, [], ◌∷◌, ◌++◌}
use lib.ListN.{length, get_or, take}
use lib.Dec.{eqb, ltb}
use Rattle.choice.specs.Every.{every}
use Rattle.lock.specs.declared.LockState.{LockState}
use Rattle.lock.specs.Event.{fresh}
use Rattle.frame.specs.Case.{upper_case}
use Rattle.frame.specs.Pairs.{value_of, digit_of, pair_at, pairs_from, sum_of, check_of}
use Rattle.frame.specs.Reading.{Told, is_torn, are_digits, read_as, reads, rest_of}
use Rattle.frame.specs.Writing.{digits_of, line_of, header_line}
use Rattle.frame.proofs.Refusals.{by_order, is_zero}
use Rattle.frame.proofs.Back.{line_is_written}
use Rattle.frame.proofs.Case.{upper_length, upper_drop, read_raised}
use Rattle.bench.specs.Log.{longest, refused_at, Turn, followed, turn_of, log_from, begun, opened, log_of}
use Rattle.bench.specs.Bridge.{edition_of, processors_of, first_refusal, first_line, later_lines}
use Rattle.bench.specs.Case.{CaseIsSharp}
use Rattle.bench.proofs.Hearing.{first_is_read, log_is_run}

turn_raised : (s : LockState) (line : ℕ) (text : List ℕ) → turn_of s line (upper_case text) ≡ turn_of s line text
unfolding turn_of
turn_raised s line text = ap (followed s line) (read_raised 3 2 text)

later_raised : (fuel : ℕ) (s : LockState) (accepted : ℕ) (text : List ℕ) →
    log_from fuel s accepted (upper_case text) ≡ log_from fuel s accepted text
unfolding log_from upper_case
later_raised zero s accepted text = refl
later_raised (suc fuel) s accepted [] = refl
later_raised (suc fuel) s accepted (b ∷ text) =
    let here = b ∷ text in
    let log : Turn → List ℕ → List ℕ =
    λ t later. t.written ++ cond t.goes_on (log_from fuel t.next (suc accepted) later) [] in
    let turn = turn_of s (accepted + 2) here in
    ap (λ (t : Turn). log t (rest_of (upper_case here))) (turn_raised s (accepted + 2) here)
    ∙ ap (log turn) (upper_drop 9 here)
    ∙ ap (λ (l : List ℕ). turn.written ++ cond turn.goes_on l []) (later_raised fuel turn.next (suc accepted) (rest_of here))

begun_raised : (text : List ℕ) (edition n : ℕ) → begun (upper_case text) edition n ≡ begun text edition n
unfolding begun
begun_raised text edition n =
    let a = fresh edition n in
    let log : List ℕ → List ℕ =
    λ later. cond (eqb a.refusal 0) (header_line edition n ++ later) (refused_at a.refusal 1) in
    ap (λ (m : ℕ). log (log_from m a.state 0 (rest_of (upper_case text)))) (upper_length text)
    ∙ ap (λ (l : List ℕ). log (log_from (length text) a.state 0 l)) (upper_drop 9 text)
    ∙ ap log (later_raised (length text) a.state 0 (rest_of text))

opened_raised : (text : List ℕ) (t : Told) → opened (upper_case text) t ≡ opened text t
unfolding opened
opened_raised text t =
    ap (λ (l : List ℕ). cond (eqb t.refusal 0) l (refused_at t.refusal 1)) (begun_raised text _ _)

pub log_raised : (text : List ℕ) → log_of (upper_case text) ≡ log_of text
unfolding log_of
log_raised text =
    ap (λ (m : ℕ). cond (ltb longest m) (refused_at 1 0) (opened (upper_case text) (reads (upper_case text) true)))
    (upper_length text)
    ∙ ap (λ (l : List ℕ). cond (ltb longest (length text)) (refused_at 1 0) l)
    (ap (opened (upper_case text)) (read_raised 3 1 text) ∙ opened_raised text (reads text true))

pub line_1_is : (text : List ℕ) → (reads text true).refusal ≡ 0 →
    upper_case (take 9 text) ≡ first_line text
unfolding pairs_from
line_1_is text e =
    let h = (by_order 4 1 text).none.0 e in
    let is = is_zero 4 1 text h.0 h.1 h.2 h.3 in
    let edition : edition_of text ≡ pair_at text 1 = ap (λ (t : Told). get_or t.numbers 1 0) is in
    let n : processors_of text ≡ pair_at text 2 = ap (λ (t : Told). get_or t.numbers 2 0) is in
    line_is_written 3 text h.0 h.1 h.2 ∙ rw (h.3, edition, n)

pub as_before : (text : List ℕ) → upper_case (take 9 text) ≡ take 9 text → length text ≤ longest →
    first_refusal text ≡ 0 →
    log_of text ≡ take 9 text ++ later_lines text
as_before text e low h =
    (log_is_run text).line_1_accepted low h
    ∙ ap (λ (l : List ℕ). l ++ later_lines text)
    (sym (line_1_is text (first_is_read text h)) ∙ e)

pub sharp : CaseIsSharp
unfolding every fresh value_of digit_of pair_at pairs_from sum_of check_of is_torn are_digits read_as digits_of line_of
    log_from begun opened log_of
sharp =
    record {
      accepted = refl;
      one_log = refl;
      not_as_read = λ e. omega (arith, ap (λ (l : List ℕ). get_or l 7 0) e);
    }
