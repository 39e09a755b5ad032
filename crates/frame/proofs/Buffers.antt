-- What a buffer holds while a line is written into it from its front.
--     put_next     one byte is written behind what is written so far; the bytes after it are as they were
--     put_value    the same of a value's two digits
--     put_goes_on  a loop over the values goes on
--     writes_room, writes_short, leaves_room, leaves_short   what is answered and left, with room and without
--     is_refused, is_written, leaves_line   the same of a line of values, as `write` comes to it
-- Assumes nothing.
use Rattle.std.proofs.Common.{◌≡◌, ℕ, suc, ◌+◌, ◌*◌, ◌/◌, ◌%◌, ◌<◌, ◌≤◌, List, [], ◌∷◌, ◌++◌, length, get_or, take, drop, set, sym, refl, ap, ◌∙◌, append_assoc, add-one, arith, length-append, length-take-le, drop-cons, take-suc, le-leb}
use lib.Seq.{set_at, append_snoc}
use borrow.Author.Tests.{lt-leb}
use Rattle.frame.specs.Pairs.{line_feed, digit_of, check_of}
use Rattle.frame.specs.Writing.{digits_of, line_of, writes, leaves}
use Rattle.frame.proofs.Lines.{digits_append, digits_length, line_length}

pub put_next : (written buffer : List ℕ) (n v : ℕ) → length written ≡ n → n < length buffer →
    set (written ++ drop n buffer) n v ≡ (written ++ (v ∷ [])) ++ drop (n + 1) buffer
put_next written buffer n v e h =
    ap (λ (l : List ℕ). set (written ++ l) n v) (drop-cons buffer n 0 h)
    ∙ set_at written (get_or buffer n 0) (drop (suc n) buffer) v n e
    ∙ sym (append_snoc written v (drop (suc n) buffer))
    ∙ ap (λ (m : ℕ). (written ++ (v ∷ [])) ++ drop m buffer) (sym (add-one n))

two_digits : (vs : List ℕ) (v : ℕ) →
    (digits_of vs ++ (digit_of (v / 16) ∷ [])) ++ (digit_of (v % 16) ∷ []) ≡ digits_of (vs ++ (v ∷ []))
unfolding digits_of
two_digits vs v =
    append_assoc (digits_of vs) (digit_of (v / 16) ∷ []) (digit_of (v % 16) ∷ []) ∙ sym (digits_append vs (v ∷ []))

pub put_value : (vs buffer : List ℕ) (n v : ℕ) → length vs ≡ n → 2 * n + 1 < length buffer →
    set (set (digits_of vs ++ drop (2 * n) buffer) (2 * n) (digit_of (v / 16))) (2 * n + 1) (digit_of (v % 16))
    ≡ digits_of (vs ++ (v ∷ [])) ++ drop (2 * n + 2) buffer
put_value vs buffer n v e h =
    let high = digit_of (v / 16) in
    let low = digit_of (v % 16) in
    let long : length (digits_of vs) ≡ 2 * n = digits_length vs ∙ ap (λ (m : ℕ). 2 * m) e in
    let longer : length (digits_of vs ++ (high ∷ [])) ≡ 2 * n + 1 =
    length-append (digits_of vs) (high ∷ []) ∙ ap (λ (m : ℕ). m + 1) long in
    let further : 2 * n + 1 + 1 ≡ 2 * n + 2 = omega arith in
    ap (λ (l : List ℕ). set l (2 * n + 1) low) (put_next (digits_of vs) buffer (2 * n) high long (omega arith))
    ∙ put_next (digits_of vs ++ (high ∷ [])) buffer (2 * n + 1) low longer h
    ∙ ap (λ (l : List ℕ). l ++ drop (2 * n + 1 + 1) buffer) (two_digits vs v)
    ∙ ap (λ (m : ℕ). digits_of (vs ++ (v ∷ [])) ++ drop m buffer) further

-- a loop over the values goes on by one
pub put_goes_on : (values buffer out : List ℕ) (i : ℕ) → i < length values → 2 * length values ≤ length buffer →
    out ≡ digits_of (take i values) ++ drop (2 * i) buffer →
    set (set out (2 * i) (digit_of (get_or values i 0 / 16))) (2 * i + 1) (digit_of (get_or values i 0 % 16))
    ≡ digits_of (take (i + 1) values) ++ drop (2 * (i + 1)) buffer
put_goes_on values buffer out i h room so =
    let v = get_or values i 0 in
    let further : 2 * i + 2 ≡ 2 * (i + 1) = omega arith in
    ap (λ (l : List ℕ). set (set l (2 * i) (digit_of (v / 16))) (2 * i + 1) (digit_of (v % 16))) so
    ∙ put_value (take i values) buffer i v (length-take-le i values (omega arith)) (omega arith)
    ∙ ap (λ (l : List ℕ). digits_of l ++ drop (2 * i + 2) buffer) (sym (take-suc values i 0 h))
    ∙ ap (λ (m : ℕ). digits_of (take m values) ++ drop (2 * i + 2) buffer) (sym (add-one i))
    ∙ ap (λ (m : ℕ). digits_of (take (i + 1) values) ++ drop m buffer) further

-- any line and any buffer: where it fits, where it does not
module _ (line buffer : List ℕ) where
  pub writes_room : length line ≤ length buffer → writes line buffer ≡ 0
  writes_room h = simp (le-leb (length line) (length buffer) h)

  pub writes_short : length buffer < length line → writes line buffer ≡ 10
  writes_short h = simp (lt-leb (length line) (length buffer) h)

  pub leaves_room : length line ≤ length buffer → leaves line buffer ≡ line ++ drop (length line) buffer
  unfolding leaves
  leaves_room h = simp (le-leb (length line) (length buffer) h)

  pub leaves_short : length buffer < length line → leaves line buffer ≡ buffer
  unfolding leaves
  leaves_short h = simp (lt-leb (length line) (length buffer) h)

-- the whole line: the digits of the values, the check's, the line feed
module _ (vs buffer : List ℕ) where
  pub is_refused : length buffer < 2 * length vs + 3 →
      (10 ≡ writes (line_of vs) buffer) × (buffer ≡ leaves (line_of vs) buffer)
  is_refused h =
      let short : length buffer < length (line_of vs) = rw (line_length vs) h in
      (sym (writes_short (line_of vs) buffer short), sym (leaves_short (line_of vs) buffer short))

  module _ (room : 2 * length vs + 3 ≤ length buffer) where
    fits : length (line_of vs) ≤ length buffer
    fits = rw (line_length vs) room

    pub is_written : 0 ≡ writes (line_of vs) buffer
    is_written = sym (writes_room (line_of vs) buffer fits)

    put_line : set (digits_of (vs ++ (check_of vs ∷ [])) ++ drop (2 * length vs + 2) buffer) (2 * length vs + 2) line_feed
        ≡ leaves (line_of vs) buffer
    unfolding line_of
    put_line =
        let all = digits_of (vs ++ (check_of vs ∷ [])) in
        let count = length-append vs (check_of vs ∷ []) in
        let long : length all ≡ 2 * length vs + 2 =
        digits_length (vs ++ (check_of vs ∷ [])) ∙ ap (λ (n : ℕ). 2 * n) count ∙ omega arith in
        let end : 2 * length vs + 2 + 1 ≡ length (line_of vs) = omega (arith, line_length vs) in
        put_next all buffer (2 * length vs + 2) line_feed long (omega arith)
        ∙ ap (λ (n : ℕ). line_of vs ++ drop n buffer) end
        ∙ sym (leaves_room (line_of vs) buffer fits)

    -- after the values' digits are put, then the check's, then the line feed
    pub leaves_line : (check : ℕ) (first second : List ℕ) → check ≡ check_of vs →
        first ≡ digits_of vs ++ drop (2 * length vs) buffer →
        second ≡ set (set first (2 * length vs) (digit_of (check / 16))) (2 * length vs + 1) (digit_of (check % 16)) →
        set second (2 * length vs + 2) line_feed ≡ leaves (line_of vs) buffer
    leaves_line check first second is-check e f =
        let n = length vs in
        ap (λ (l : List ℕ). set l (2 * length vs + 2) line_feed)
        (f
        ∙ ap (λ (l : List ℕ). set (set l (2 * n) (digit_of (check / 16))) (2 * n + 1) (digit_of (check % 16))) e
        ∙ put_value vs buffer (length vs) check refl (omega arith)
        ∙ ap (λ (n : ℕ). digits_of (vs ++ (n ∷ [])) ++ drop (2 * length vs + 2) buffer) is-check)
        ∙ put_line
