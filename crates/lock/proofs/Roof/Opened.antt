-- What it takes to compute a run: to unfold `computed` is to unfold every definition that its line names. The computed proofs,
-- Computed, Witness and those of the crates above, name it instead of the list.
use mathlib.Core.Bool.{Bool, true}
use Rattle.choice.specs.Every.{every}
use Rattle.lock.specs.State.{fresh_state, row, put_row, put_tail, put_next, put_locked, put_guard, put_flag, to, put_pred, put_succ, put_nx}
use Rattle.lock.specs.Sound.{has_place, cells_sound, place_sound, as_fresh, sound_row, sound}
use Rattle.lock.specs.Table.{stepped}
use Rattle.lock.specs.Event.{raised, happens}
use Rattle.lock.specs.Run.{after, run, steps_of, joins, enters, interrupted}
use Rattle.lock.specs.Count.{count_in, joins_in, entries_in, interrupts_in, all_entries_in, latest_join, until_entry, between}
use Rattle.lock.specs.Acts as Acts

unfoldable pub computed : Bool
unfolding every fresh_state row put_row put_tail put_next put_locked put_guard put_flag to put_pred put_succ put_nx has_place
    cells_sound place_sound as_fresh sound_row sound Acts.to_queue Acts.to_hand Acts.onward Acts.to_lift Acts.rest Acts.gate
    Acts.clear Acts.swap Acts.arm Acts.link Acts.claim Acts.spin Acts.settle Acts.inside Acts.poll Acts.service
    Acts.back Acts.regain Acts.look Acts.close Acts.await Acts.hand Acts.fence Acts.park Acts.peek Acts.take Acts.lift
    Acts.unheld Acts.old_try Acts.old_poll Acts.old_service Acts.old_free Acts.reread Acts.lost stepped raised happens after run
    steps_of joins enters interrupted count_in joins_in entries_in interrupts_in all_entries_in latest_join until_entry between
computed = true
