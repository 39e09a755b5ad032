-- Only one answer meets a contract that is an equation: one law, cited for each public function.
use mathlib.Core.Path.{sym, ◌∙◌}
use Rattle.lock.specs.State.{row, put_row, put_tail}
use Rattle.lock.specs.Sound.{sound}
use Rattle.lock.specs.Event.{fresh, carried, happens}
use Rattle.lock.specs.Unique.{OnlyOne, OnlyOneAnswer, OnlyOnePut}

only_one : (A : Type 0) (defined : A) → OnlyOne A defined
only_one A defined a b p q = p ∙ sym q

pub only_one_answer : OnlyOneAnswer
only_one_answer =
    record {
      of_fresh = λ e n. only_one _ (fresh e n);
      of_is_sound = λ s. only_one _ (sound s);
      of_row = λ s p. only_one _ (row s p);
      of_event = λ s event p. only_one _ (happens s event p);
      of_carried = λ s event p. only_one _ (carried s event p);
      of_step = λ s p. only_one _ (happens s 1 p);
      of_raise = λ s p. only_one _ (happens s 2 p);
    }

pub only_one_put : OnlyOnePut
only_one_put =
    record {
      of_put_row = λ s p r. only_one _ (put_row s p r);
      of_put_tail = λ s q. only_one _ (put_tail s q);
    }
