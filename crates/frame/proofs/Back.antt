-- From values to a line and back, and from a line to values and back, for lines of any number of pairs.
--     line_is_read      what is written of byte values is read as those values and their check, whatever follows it
--     line_is_written   a line that is whole, of digits and of sum 0 is, raised, what is written of its pairs but the last
-- Assumes nothing.
use Rattle.std.proofs.Common.{◌≡◌, ℕ, suc, ◌+◌, ◌*◌, ◌<◌, ◌≤◌, true, false, List, [], ◌∷◌, ◌++◌, length, take, sym, ap, ◌∙◌, append_assoc, add-one, arith, length-append, take-suc, le-ltb}
use lib.Seq.{get_or_at}
use Rattle.frame.specs.Case.{upper_case}
use Rattle.frame.specs.Pairs.{line_feed, byte_at, pair_at, pairs_from, sum_of, check_of}
use Rattle.frame.specs.Reading.{is_torn, are_digits, read_as, bytes_of}
use Rattle.frame.specs.Writing.{Bytes, digits_of, line_of}
use Rattle.frame.proofs.Digits.{pair_below, pair_of_digits}
use Rattle.frame.proofs.Sums.{sum_with_check, check_is_only}
use Rattle.frame.proofs.Lines.{with_check, digit_within, pairs_last, digits_length, digits_are_digits, pairs_of_digits, digits_of_pairs}
use Rattle.frame.proofs.Case.{upper_feed}
use Rattle.frame.proofs.Refusals.{whole_line, is_zero}

-- the digits of values, a line feed and anything: it is whole
is_whole : (vs after : List ℕ) → is_torn (length vs) (digits_of vs ++ (line_feed ∷ after)) ≡ false
unfolding is_torn
is_whole vs after =
    let long : bytes_of (length vs) ≤ length (digits_of vs ++ (line_feed ∷ after)) =
    rw (length-append (digits_of vs) (line_feed ∷ after), digits_length vs) (omega arith) in
    simp (
      le-ltb (length (digits_of vs ++ (line_feed ∷ after))) (bytes_of (length vs)) long,
      get_or_at (digits_of vs) line_feed after 0 (2 * length vs) (digits_length vs),
    )

begins : (kind : ℕ) (vs after : List ℕ) → kind < 256 → pair_at (digits_of (kind ∷ vs) ++ after) 0 ≡ kind
unfolding pair_at digits_of
begins kind vs after h = pair_of_digits kind h

module _ (kind : ℕ) (vs after : List ℕ) (h : Bytes (kind ∷ vs)) where
  pub line_is_read : read_as (length (kind ∷ vs ++ (check_of (kind ∷ vs) ∷ []))) kind (line_of (kind ∷ vs) ++ after)
      ≡ record { refusal = 0; numbers = kind ∷ vs ++ (check_of (kind ∷ vs) ∷ []) }
  unfolding line_of
  line_is_read =
      let all = kind ∷ vs ++ (check_of (kind ∷ vs) ∷ []) in
      let text = digits_of all ++ (line_feed ∷ after) in
      let bytes = with_check (kind ∷ vs) h in
      let same : pairs_from 0 (length all) text ≡ all = pairs_of_digits all (line_feed ∷ after) bytes in
      ap (λ (t : List ℕ). read_as (length all) kind t) (append_assoc (digits_of all) (line_feed ∷ []) after)
      ∙ is_zero (length all) kind text
      (is_whole all after)
      (digits_are_digits all (line_feed ∷ after) bytes)
      (ap sum_of same ∙ sum_with_check (kind ∷ vs))
      (begins kind (vs ++ (check_of (kind ∷ vs) ∷ [])) (line_feed ∷ after) h.0)
      ∙ ap (λ (l : List ℕ). record { refusal = 0; numbers = l }) same

pair_is_byte : (k : ℕ) (text : List ℕ) → are_digits (suc k) text ≡ true → pair_at text k < 256
unfolding pair_at
pair_is_byte k text d =
    pair_below (byte_at text (2 * k)) (byte_at text (2 * k + 1))
    (digit_within (suc k) text d (2 * k) (omega arith)) (digit_within (suc k) text d (2 * k + 1) (omega arith))

pub line_is_written : (k : ℕ) (text : List ℕ) →
    is_torn (suc k) text ≡ false → are_digits (suc k) text ≡ true → sum_of (pairs_from 0 (suc k) text) ≡ 0 →
    upper_case (take (2 * suc k + 1) text) ≡ line_of (pairs_from 0 k text)
unfolding line_of
line_is_written k text whole digits summed =
    let vs = pairs_from 0 k text in
    let line = whole_line (suc k) text whole in
    let is-check : pair_at text k ≡ check_of vs =
    check_is_only vs (pair_at text k) (pair_is_byte k text digits) (ap sum_of (sym (pairs_last k text)) ∙ summed) in
    let all : digits_of (vs ++ (check_of vs ∷ [])) ≡ upper_case (take (2 * suc k) text) =
    ap (λ (n : ℕ). digits_of (vs ++ (n ∷ []))) (sym is-check)
    ∙ ap digits_of (sym (pairs_last k text))
    ∙ digits_of_pairs (suc k) text (omega arith) (digit_within (suc k) text digits) in
    let split : take (2 * suc k + 1) text ≡ take (2 * suc k) text ++ (line_feed ∷ []) =
    ap (λ (n : ℕ). take n text) (add-one (2 * suc k))
    ∙ take-suc text (2 * suc k) 0 (omega arith)
    ∙ ap (λ (n : ℕ). take (2 * suc k) text ++ (n ∷ [])) line.1 in
    ap upper_case split
    ∙ upper_feed (take (2 * suc k) text)
    ∙ ap (λ (l : List ℕ). l ++ (line_feed ∷ [])) (sym all)
