-- The case of digits: texts that are raised, and that the reader does not see it.
--     Seen, seen                 what the reader looks for in a byte is not changed when it is raised
--     upper_length, upper_byte, upper_take, upper_drop   the length, the bytes and the parts of a raised text
--     upper_append, upper_feed   one text after another, and a line feed at the end
--     upper_twice                raised once more, it is the same
--     upper_same                 a text without a to f is as it is, raised
--     in_upper                   and one that is as it is, raised, has none
--     line_upper                 so is the line of byte values
--     read_in_case               lines that are equal up to case are read alike, whatever follows them
--     read_raised                so a text is read as it is read raised
-- Assumes nothing.
use Rattle.std.proofs.Common.{◌≡◌, ℕ, zero, suc, ◌+◌, ◌*◌, ◌/◌, ◌%◌, ◌<◌, Bool, true, false, not, ◌&&◌, ◌||◌, eqb, ltb, leb, List, [], ◌∷◌, ◌++◌, length, get_or, take, drop, sym, refl, ap, ◌∙◌, ⊎_elim, arith, length-take, get_or-take, ltb-false, ltb-true, lt-ltb, eqb-true, leb-true}
use mathlib.Core.Bool.{beq}
use lib.ListN.{length-map, get_or-map}
use Rattle.choice.specs.Every.{every}
use Rattle.choice.proofs.Numbers.{every_at}
use Rattle.choice.proofs.Tests.{cases, and_left, and_right, implies, implied, beq_eq}
use Rattle.frame.specs.Case.{is_lower, upper_of, upper_case, EqualUpToCase}
use Rattle.frame.specs.Pairs.{line_feed, is_digit, value_of, byte_at, pair_at, pairs_from, check_of}
use Rattle.frame.specs.Reading.{bytes_of, is_torn, are_digits, read_as}
use Rattle.frame.specs.Writing.{Bytes, digits_of, line_of}
use Rattle.frame.specs.Laws.{InUpperCase}
use Rattle.frame.proofs.Digits.{digit_not_lower}
use Rattle.frame.proofs.Lines.{with_check}

pub record Seen (b : ℕ) : Type 0 where
  pub digit : is_digit (upper_of b) ≡ is_digit b
  pub value : value_of (upper_of b) ≡ value_of b
  pub feed : eqb (upper_of b) line_feed ≡ eqb b line_feed
  pub twice : upper_of (upper_of b) ≡ upper_of b

-- of a to f by a computed test
of_lower : (test : ℕ → Bool) → every 103 (λ b. implies (is_lower b) (test b)) ≡ true →
    (b : ℕ) → is_lower b ≡ true → test b ≡ true
of_lower test all b e =
    let low : b < 103 = omega (arith, leb-true b 102 (and_right (leb 97 b) (leb b 102) e)) in
    implied (is_lower b) (test b) (every_at 103 (λ b. implies (is_lower b) (test b)) all b low) e

lower_seen : (b : ℕ) → is_lower b ≡ true → Seen b
unfolding every upper_of value_of
lower_seen b e =
    record {
      digit = beq_eq _ _ (of_lower (λ b. beq (is_digit (upper_of b)) (is_digit b)) refl b e);
      value = eqb-true _ _ (of_lower (λ b. eqb (value_of (upper_of b)) (value_of b)) refl b e);
      feed = beq_eq _ _ (of_lower (λ b. beq (eqb (upper_of b) line_feed) (eqb b line_feed)) refl b e);
      twice = eqb-true _ _ (of_lower (λ b. eqb (upper_of (upper_of b)) (upper_of b)) refl b e);
    }

as_it_is : (b : ℕ) → is_lower b ≡ false → upper_of b ≡ b
unfolding upper_of
as_it_is b e = simp e

other_seen : (b : ℕ) → upper_of b ≡ b → Seen b
other_seen b e =
    record {
      digit = ap is_digit e;
      value = ap value_of e;
      feed = ap (λ (c : ℕ). eqb c line_feed) e;
      twice = ap upper_of e;
    }

pub seen : (b : ℕ) → Seen b
seen b = ⊎_elim (lower_seen b) (λ e. other_seen b (as_it_is b e)) (cases (is_lower b))

-- texts that are raised

pub upper_length : (text : List ℕ) → length (upper_case text) ≡ length text
unfolding upper_case
upper_length text = length-map text upper_of

pub upper_byte : (text : List ℕ) (i : ℕ) → byte_at (upper_case text) i ≡ upper_of (byte_at text i)
unfolding upper_case upper_of
upper_byte text i = get_or-map upper_of text i 0

pub upper_take : (n : ℕ) (text : List ℕ) → take n (upper_case text) ≡ upper_case (take n text)
unfolding upper_case
upper_take zero text = refl
upper_take (suc n) [] = refl
upper_take (suc n) (b ∷ text) = ap (λ (l : List ℕ). upper_of b ∷ l) (upper_take n text)

pub upper_drop : (n : ℕ) (text : List ℕ) → drop n (upper_case text) ≡ upper_case (drop n text)
unfolding upper_case
upper_drop zero text = refl
upper_drop (suc n) [] = refl
upper_drop (suc n) (b ∷ text) = upper_drop n text

pub upper_append : (s t : List ℕ) → upper_case (s ++ t) ≡ upper_case s ++ upper_case t
unfolding upper_case
upper_append [] t = refl
upper_append (b ∷ s) t = ap (λ (l : List ℕ). upper_of b ∷ l) (upper_append s t)

pub upper_feed : (text : List ℕ) → upper_case (text ++ (line_feed ∷ [])) ≡ upper_case text ++ (line_feed ∷ [])
unfolding upper_case upper_of
upper_feed text = upper_append text (line_feed ∷ [])

pub upper_twice : (text : List ℕ) → upper_case (upper_case text) ≡ upper_case text
unfolding upper_case
upper_twice [] = refl
upper_twice (b ∷ text) =
    ap (λ (c : ℕ). c ∷ upper_case (upper_case text)) (seen b).twice
    ∙ ap (λ (l : List ℕ). upper_of b ∷ l) (upper_twice text)

pub upper_same : (text : List ℕ) → ((i : ℕ) → is_lower (byte_at text i) ≡ false) → upper_case text ≡ text
unfolding upper_case
upper_same [] h = refl
upper_same (b ∷ text) h =
    ap (λ (c : ℕ). c ∷ upper_case text) (as_it_is b (h 0))
    ∙ ap (λ (l : List ℕ). b ∷ l) (upper_same text (λ i. h (suc i)))

not_lower : (b : ℕ) → upper_of b ≡ b → is_lower b ≡ false
unfolding upper_of
not_lower b e =
    ⊎_elim
    (λ (l : is_lower b ≡ true). absurd (omega (arith, leb-true 97 b (and_left (leb 97 b) (leb b 102) l), simp l at e)))
    (λ l. l)
    (cases (is_lower b))

pub in_upper : (text : List ℕ) → upper_case text ≡ text → InUpperCase text
in_upper text e =
    record {
      no_lower = λ i. not_lower (byte_at text i) (sym (upper_byte text i) ∙ ap (λ (l : List ℕ). byte_at l i) e);
      as_it_is = e;
    }

-- what is written

digits_not_lower : (vs : List ℕ) → Bytes vs → (i : ℕ) → is_lower (get_or (digits_of vs ++ (line_feed ∷ [])) i 0) ≡ false
unfolding digits_of
digits_not_lower [] h zero = refl
digits_not_lower [] h (suc i) = refl
digits_not_lower (v ∷ vs) h zero = digit_not_lower (v / 16) (omega (arith, h.0))
digits_not_lower (v ∷ vs) h (suc zero) = digit_not_lower (v % 16) (omega arith)
digits_not_lower (v ∷ vs) h (suc (suc i)) = digits_not_lower vs h.1 i

pub line_upper : (vs : List ℕ) → Bytes vs → upper_case (line_of vs) ≡ line_of vs
unfolding line_of
line_upper vs h = upper_same (line_of vs) (digits_not_lower (vs ++ (check_of vs ∷ [])) (with_check vs h))

-- what is read

same_every : (n : ℕ) (f g : ℕ → Bool) → ((i : ℕ) → i < n → f i ≡ g i) → every n f ≡ every n g
unfolding every
same_every zero f g e = refl
same_every (suc n) f g e =
    ap (λ (a : Bool). a && f n) (same_every n f g (λ i h. e i (omega arith)))
    ∙ ap (λ (a : Bool). every n g && a) (e n (omega arith))

same_below : (a b n : ℕ) → (a < n → b < n) → (b < n → a < n) → ltb a n ≡ ltb b n
same_below a b n f g =
    ⊎_elim
    (λ (e : ltb a n ≡ true). e ∙ sym (lt-ltb b n (f (ltb-true a n e))))
    (λ (e : ltb a n ≡ false).
    e
    ∙ sym
    (⊎_elim (λ (h : ltb b n ≡ true). absurd (omega (arith, g (ltb-true b n h), ltb-false a n e))) (λ h. h)
    (cases (ltb b n))))
    (cases (ltb a n))

module _ (k kind : ℕ) (s t : List ℕ)
    (e : EqualUpToCase (take (bytes_of (suc k)) s) (take (bytes_of (suc k)) t)) where
  same_raised : (i : ℕ) → i < bytes_of (suc k) → upper_of (byte_at s i) ≡ upper_of (byte_at t i)
  same_raised i h =
      let raised : (l : List ℕ) → upper_of (byte_at l i) ≡ byte_at (upper_case (take (bytes_of (suc k)) l)) i =
      λ l. sym (upper_byte (take (bytes_of (suc k)) l) i ∙ ap upper_of (get_or-take (bytes_of (suc k)) l i 0 h)) in
      raised s ∙ ap (λ (l : List ℕ). byte_at l i) e ∙ sym (raised t)

  same_digit : (i : ℕ) → i < bytes_of (suc k) → is_digit (byte_at s i) ≡ is_digit (byte_at t i)
  same_digit i h =
      sym (seen (byte_at s i)).digit ∙ ap is_digit (same_raised i h) ∙ (seen (byte_at t i)).digit

  same_value : (i : ℕ) → i < bytes_of (suc k) → value_of (byte_at s i) ≡ value_of (byte_at t i)
  same_value i h =
      sym (seen (byte_at s i)).value ∙ ap value_of (same_raised i h) ∙ (seen (byte_at t i)).value

  same_long : ltb (length s) (bytes_of (suc k)) ≡ ltb (length t) (bytes_of (suc k))
  same_long =
      let n = bytes_of (suc k) in
      let long : length (take n s) ≡ length (take n t) =
      sym (upper_length (take n s)) ∙ ap length e ∙ upper_length (take n t) in
      same_below (length s) (length t) n
      (λ h. omega (arith, long, length-take n s, length-take n t))
      (λ h. omega (arith, long, length-take n s, length-take n t))

  same_torn : is_torn (suc k) s ≡ is_torn (suc k) t
  unfolding is_torn
  same_torn =
      let last = 2 * suc k in
      let feed : eqb (byte_at s last) line_feed ≡ eqb (byte_at t last) line_feed =
      sym (seen (byte_at s last)).feed
      ∙ ap (λ (b : ℕ). eqb b line_feed) (same_raised last (omega arith))
      ∙ (seen (byte_at t last)).feed in
      ap (λ (b : Bool). b || not (eqb (byte_at s last) line_feed)) same_long
      ∙ ap (λ (b : Bool). ltb (length t) (bytes_of (suc k)) || not b) feed

  same_digits : are_digits (suc k) s ≡ are_digits (suc k) t
  unfolding are_digits
  same_digits =
      same_every (2 * suc k) (λ i. is_digit (byte_at s i)) (λ i. is_digit (byte_at t i)) (λ i h. same_digit i (omega arith))

  same_pair : (i : ℕ) → i < suc k → pair_at s i ≡ pair_at t i
  unfolding pair_at
  same_pair i h =
      ap (λ (v : ℕ). v * 16 + value_of (byte_at s (2 * i + 1))) (same_value (2 * i) (omega arith))
      ∙ ap (λ (v : ℕ). value_of (byte_at t (2 * i)) * 16 + v) (same_value (2 * i + 1) (omega arith))

  same_pairs : (i j : ℕ) → i + j ≡ suc k → pairs_from i j s ≡ pairs_from i j t
  unfolding pairs_from
  same_pairs i zero h = refl
  same_pairs i (suc j) h =
      ap (λ (v : ℕ). v ∷ pairs_from (suc i) j s) (same_pair i (omega arith))
      ∙ ap (λ (l : List ℕ). pair_at t i ∷ l) (same_pairs (suc i) j (omega arith))

  pub read_in_case : read_as (suc k) kind s ≡ read_as (suc k) kind t
  unfolding read_as
  read_in_case = rw (same_torn, same_digits, same_pairs 0 (suc k) (omega arith), same_pair 0 (omega arith))

pub read_raised : (k kind : ℕ) (text : List ℕ) → read_as (suc k) kind (upper_case text) ≡ read_as (suc k) kind text
read_raised k kind text =
    let n = bytes_of (suc k) in
    read_in_case k kind (upper_case text) text (ap upper_case (upper_take n text) ∙ upper_twice (take n text))
