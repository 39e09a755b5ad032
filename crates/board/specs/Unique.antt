-- Only one answer fits each function for C and Rust: two answers, and two buffers, that meet a contract are one.
use Rattle.std.specs.Prelude.{ℕ, ◌≡◌, List}
use Rattle.frame.specs.Writing.{leaves}
use Rattle.bench.specs.Lent.{room_for, logged, left}
use Rattle.report.specs.Table.{Reported}
use Rattle.report.specs.Table.{added_to}
use Rattle.board.specs.Written.{written}
use Rattle.board.specs.Numbers.{told_with, numbers_after}

pub record OnlyOneAnswerFits : Type 0 where
  pub to_room : (bytes r s : ℕ) → r ≡ room_for bytes → s ≡ room_for bytes → r ≡ s
  pub to_log : (text out : List ℕ) (r s : ℕ) (after kept : List ℕ) →
      r ≡ (logged text out).length → after ≡ left text out → s ≡ (logged text out).length → kept ≡ left text out →
      (r ≡ s) × (after ≡ kept)
  pub to_line : (line out : List ℕ) (r s : ℕ) (after kept : List ℕ) →
      r ≡ written line out → after ≡ leaves line out → s ≡ written line out → kept ≡ leaves line out →
      (r ≡ s) × (after ≡ kept)
  -- the refusal, the line and the table of a report are taken together
  pub to_report : (text : List ℕ) (table : List (List ℕ)) (rows : List ℕ) (told same : Reported) (after kept : List ℕ) →
      told ≡ told_with text table rows → after ≡ numbers_after text table rows →
      same ≡ told_with text table rows → kept ≡ numbers_after text table rows →
      (told ≡ same) × (after ≡ kept)
  pub to_add : (table other : List (List ℕ)) (r s : ℕ) (after kept : List (List ℕ)) →
      r ≡ (added_to table other).refusal → after ≡ (added_to table other).table →
      s ≡ (added_to table other).refusal → kept ≡ (added_to table other).table →
      (r ≡ s) × (after ≡ kept)
