-- The reader's refusals, by their order.
--     whole_line      a line that is not torn has all its bytes, and ends in a line feed
--     pairs_read, pairs_unread   whether the pairs are there says whether they are digits
--     is_two .. is_five, is_zero   an answer from its condition and those before it
--     by_order        and back: each is given exactly then
-- Assumes nothing.
use Rattle.std.proofs.Common.{◌≡◌, ℕ, ◌+◌, ◌*◌, ◌≤◌, Bool, true, false, not, eqb, ltb, ◌≢◌, ◌↔◌, List, Some, None, if◌then◌else◌, length, refl, ap, inl, inr, ⊎_elim, arith, ltb-false, eq-eqb, ne_eqb, eqb-true}
use Rattle.std.proofs.lemmas.Bool.{cases_eq}
use borrow.Author.Tests.{not-false}
use Rattle.choice.proofs.Tests.{cases, clash, neither_left, neither_right}
use Rattle.frame.specs.Pairs.{byte_at, pair_at, pairs_from, sum_of, line_feed}
use Rattle.frame.specs.Reading.{Told, refused_by, is_torn, are_digits, pairs_of, read_as, bytes_of}
use Rattle.frame.specs.Laws.{ByOrder, RefusalsGoByOrder}

pub whole_line : (k : ℕ) (text : List ℕ) → is_torn k text ≡ false →
    (2 * k + 1 ≤ length text) × (byte_at text (2 * k) ≡ line_feed)
unfolding is_torn
whole_line k text e =
    let last = byte_at text (2 * k) in
    let short = ltb (length text) (bytes_of k) in
    let other = not (eqb last line_feed) in (
      ltb-false (length text) (bytes_of k) (neither_left short other e),
      eqb-true last line_feed (not-false (eqb last line_feed) (neither_right short other e)),
    )

some_pairs : (is : Bool) (numbers pairs : List ℕ) → Some numbers ≡ (if is then Some pairs else None) → (is ≡ true) × (numbers ≡ pairs)
some_pairs true numbers pairs e = (refl, cc)
some_pairs false numbers pairs e = cc

no_pairs : (is : Bool) (pairs : List ℕ) → None ≡ (if is then Some pairs else None) → is ≡ false
no_pairs true pairs e = cc
no_pairs false pairs e = refl

pub pairs_read : (k : ℕ) (text numbers : List ℕ) → Some numbers ≡ pairs_of k text →
    (are_digits k text ≡ true) × (numbers ≡ pairs_from 0 k text)
unfolding pairs_of
pairs_read k text numbers e = some_pairs (are_digits k text) numbers (pairs_from 0 k text) e

pub pairs_unread : (k : ℕ) (text : List ℕ) → None ≡ pairs_of k text → are_digits k text ≡ false
unfolding pairs_of
pairs_unread k text e = no_pairs (are_digits k text) (pairs_from 0 k text) e

module _ (k kind : ℕ) (text : List ℕ) where
  pub is_two : is_torn k text ≡ true → read_as k kind text ≡ refused_by 2
  unfolding read_as
  is_two torn = simp torn

  pub is_three : is_torn k text ≡ false → are_digits k text ≡ false → read_as k kind text ≡ refused_by 3
  unfolding read_as
  is_three whole bad = simp (whole, bad)

  pub is_four : is_torn k text ≡ false → are_digits k text ≡ true →
      sum_of (pairs_from 0 k text) ≢ 0 → read_as k kind text ≡ refused_by 4
  unfolding read_as
  is_four whole digits off = simp (whole, digits, ne_eqb (sum_of (pairs_from 0 k text)) 0 off)

  pub is_five : is_torn k text ≡ false → are_digits k text ≡ true →
      sum_of (pairs_from 0 k text) ≡ 0 → pair_at text 0 ≢ kind → read_as k kind text ≡ refused_by 5
  unfolding read_as
  is_five whole digits summed other =
      simp (whole, digits, eq-eqb (sum_of (pairs_from 0 k text)) 0 summed, ne_eqb (pair_at text 0) kind other)

  pub is_zero : is_torn k text ≡ false → are_digits k text ≡ true →
      sum_of (pairs_from 0 k text) ≡ 0 → pair_at text 0 ≡ kind →
      read_as k kind text ≡ record { refusal = 0; numbers = pairs_from 0 k text }
  unfolding read_as
  is_zero whole digits summed begun =
      simp (whole, digits, eq-eqb (sum_of (pairs_from 0 k text)) 0 summed, eq-eqb (pair_at text 0) kind begun)

holds : {A B : Type 0} → A → B → A ↔ B
holds a b = (λ _. b, λ _. a)

fails : {A B : Type 0} → (A → ⊥) → (B → ⊥) → A ↔ B
fails f g = (λ a. absurd (f a), λ b. absurd (g b))

number_of : {s t : Told} → s ≡ t → s.refusal ≡ t.refusal
number_of e = ap (λ (t : Told). t.refusal) e

-- the five cases, each with the refusal that it has and the four that it has not
module _ (k kind : ℕ) (text : List ℕ) where
  torn_case : is_torn k text ≡ true → ByOrder k kind text
  torn_case t =
      let r = number_of (is_two k kind text t) in
      record {
        two = holds r t;
        three = fails (λ e. omega arith) (λ h. clash t h.0);
        four = fails (λ e. omega arith) (λ h. clash t h.0);
        five = fails (λ e. omega arith) (λ h. clash t h.0);
        none = fails (λ e. omega arith) (λ h. clash t h.0);
        no_other = inr (inl r);
      }

  module _ (w : is_torn k text ≡ false) where
    undigit_case : are_digits k text ≡ false → ByOrder k kind text
    undigit_case d =
        let r = number_of (is_three k kind text w d) in
        record {
          two = fails (λ e. omega arith) (λ t. clash t w);
          three = holds r (w, d);
          four = fails (λ e. omega arith) (λ h. clash h.1 d);
          five = fails (λ e. omega arith) (λ h. clash h.1 d);
          none = fails (λ e. omega arith) (λ h. clash h.1 d);
          no_other = inr (inr (inl r));
        }

    module _ (d : are_digits k text ≡ true) where
      unsummed_case : sum_of (pairs_from 0 k text) ≢ 0 → ByOrder k kind text
      unsummed_case s =
          let r = number_of (is_four k kind text w d s) in
          record {
            two = fails (λ e. omega arith) (λ t. clash t w);
            three = fails (λ e. omega arith) (λ h. clash d h.1);
            four = holds r (w, d, s);
            five = fails (λ e. omega arith) (λ h. s h.2);
            none = fails (λ e. omega arith) (λ h. s h.2);
            no_other = inr (inr (inr (inl r)));
          }

      module _ (s : sum_of (pairs_from 0 k text) ≡ 0) where
        other_case : pair_at text 0 ≢ kind → ByOrder k kind text
        other_case b =
            let r = number_of (is_five k kind text w d s b) in
            record {
              two = fails (λ e. omega arith) (λ t. clash t w);
              three = fails (λ e. omega arith) (λ h. clash d h.1);
              four = fails (λ e. omega arith) (λ h. h.2 s);
              five = holds r (w, d, s, b);
              none = fails (λ e. omega arith) (λ h. b h.3);
              no_other = inr (inr (inr (inr r)));
            }

        accepted_case : pair_at text 0 ≡ kind → ByOrder k kind text
        accepted_case b =
            let r = number_of (is_zero k kind text w d s b) in
            record {
              two = fails (λ e. omega arith) (λ t. clash t w);
              three = fails (λ e. omega arith) (λ h. clash d h.1);
              four = fails (λ e. omega arith) (λ h. h.2 s);
              five = fails (λ e. omega arith) (λ h. h.3 b);
              none = holds r (w, d, s, b);
              no_other = inl r;
            }

        begun : ByOrder k kind text
        begun = ⊎_elim accepted_case other_case (cases_eq (pair_at text 0) kind)

      summed : ByOrder k kind text
      summed = ⊎_elim begun unsummed_case (cases_eq (sum_of (pairs_from 0 k text)) 0)

    digited : ByOrder k kind text
    digited = ⊎_elim summed undigit_case (cases (are_digits k text))

pub by_order : RefusalsGoByOrder
by_order k kind text = ⊎_elim (torn_case k kind text) (digited k kind text) (cases (is_torn k text))
