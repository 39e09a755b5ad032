-- What the definitions of a log come to, once it is known what the reader answers.
--     refused_not_zero               a refusal of the reader is not 0
--     turn_shows, turn_stops, turn_refuses    a later line: its event accepted, or refused by the lock, or by the reader
--     open_begins, open_refuses      line 1
-- Assumes nothing.
use Prim.Native.Nat.{ℕ}
use mathlib.Core.Path.{◌≡◌, sym, ap, ◌∙◌}
use mathlib.Core.Bool.{Bool, true, false}
use mathlib.Core.List.{List, [], ◌∷◌}
use lib.Dec.{eqb}
use native.Mathlib.Omega.{arith}
use borrow.Author.Tests.{ne_eqb}
use Rattle.lock.specs.declared.LockState.{LockState}
use Rattle.lock.specs.Event.{Answer}
use Rattle.lock.specs.Event.{happens}
use Rattle.frame.specs.Pairs.{pairs_from}
use Rattle.frame.specs.Reading.{Told, refused_by, kind_of, reads}
use Rattle.frame.proofs.Refusals.{by_order, is_zero}
use Rattle.bench.specs.Steps.{opened_log, shows}
use Rattle.bench.specs.Log.{refused_at, stopped, answered, followed, turn_of, begun, opened}

-- a frame's numbers as the reader says them
abbrev pub framed : ℕ → ℕ → ℕ → ℕ → Told
framed kind first second check = record { refusal = 0; numbers = kind ∷ first ∷ second ∷ check ∷ [] }

four_are_some : (text : List ℕ) → [] ≡ pairs_from 0 4 text → ⊥
unfolding pairs_from
four_are_some text e = let z : ◌≡◌ {A = ℕ} 0 1 = cc in omega arith

pub refused_not_zero : (text : List ℕ) (is_first : Bool) (n : ℕ) → reads text is_first ≡ refused_by n → eqb n 0 ≡ false
refused_not_zero text is_first n e =
    ne_eqb n 0
    (λ z.
    let h = (by_order 4 (kind_of is_first) text).none.0 (ap (λ t. t.refusal) e ∙ z) in
    four_are_some text (ap (λ t. t.numbers) (sym e ∙ is_zero 4 (kind_of is_first) text h.0 h.1 h.2 h.3)))

module _ (s : LockState) (line : ℕ) (text : List ℕ) where
  module _ (kind event p check : ℕ) (e : reads text false ≡ framed kind event p check) (a : Answer)
      (f : a ≡ happens s event p) where
    pub turn_shows : eqb a.refusal 0 ≡ true → turn_of s line text ≡ shows a.state event p
    unfolding turn_of followed answered
    turn_shows g = ap (followed s line) e ∙ ap (answered s line event p) (sym f) ∙ simp g

    pub turn_stops : eqb a.refusal 0 ≡ false → turn_of s line text ≡ stopped s a.refusal line
    unfolding turn_of followed answered
    turn_stops g = ap (followed s line) e ∙ ap (answered s line event p) (sym f) ∙ simp g

  pub turn_refuses : (n : ℕ) → reads text false ≡ refused_by n → turn_of s line text ≡ stopped s n line
  unfolding turn_of followed
  turn_refuses n e = ap (followed s line) e ∙ simp (refused_not_zero text false n e)

module _ (text : List ℕ) where
  pub open_begins : (kind edition n check : ℕ) → reads text true ≡ framed kind edition n check →
      opened_log text ≡ begun text edition n
  unfolding opened
  open_begins kind edition n check e = ap (opened text) e

  pub open_refuses : (n : ℕ) → reads text true ≡ refused_by n → opened_log text ≡ refused_at n 1
  unfolding opened
  open_refuses n e = ap (opened text) e ∙ simp (refused_not_zero text true n e)
