-- The P cases and the worked schedules of request [6], computed: every definition on the way is opened, and both sides are the same
-- value.
--     opened                    what it takes to compute an event with its journal
--     cases_hold                document 01's P cases
--     step_back_is_sharp        undos that are met, and what each test of an undo is for
use Rattle.std.proofs.Common.{Bool, true, refl}
use Rattle.lock.specs.Event.{fresh}
use Rattle.lock.specs.Touched.{neighbour_of, put_back}
use Rattle.lock.proofs.Roof.Opened.{computed}
use Rattle.history.specs.Journal.{empty_journal, entry_of, restored, in_range, pushed, newest, popped}
use Rattle.history.specs.Event.{begun, is_whole, brings_back, stepped_back, undone, recorded, goes}
use Rattle.history.specs.Survivors.{oldest_first, told, piled, survivors, afterward, walk}
use Rattle.history.specs.Cases.{places, cases, CasesHold}
use Rattle.history.specs.Sharp.{StepBackIsSharp}

unfoldable pub opened : Bool
unfolding computed fresh neighbour_of put_back empty_journal entry_of restored in_range pushed newest popped begun is_whole brings_back
    stepped_back undone recorded goes oldest_first told piled survivors afterward walk
opened = true

pub cases_hold : CasesHold
unfolding opened places cases
cases_hold = refl

pub step_back_is_sharp : StepBackIsSharp
unfolding opened
step_back_is_sharp =
    record {
      place_back = refl;
      tail_back = refl;
      three_left = refl;
      linked = refl;
      link_back = refl;
      ring_full = refl;
      ring_empty = refl;
      first_back = refl;
      first_stays = refl;
      last_of_206 = refl;
      after_206 = refl;
      refused_not_there = refl;
      nine_first = refl;
      nothing_left = refl;
      ring_is_256 = refl;
      too_deep = refl;
      unsound_back = refl;
      sound_though = refl;
      no_processor = refl;
      no_neighbour = refl;
    }
