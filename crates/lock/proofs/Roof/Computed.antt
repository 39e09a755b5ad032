-- Document 01's P cases, computed: every definition on the way is opened, and both sides of the claim are the same value.
use mathlib.Core.Path.{refl}
use Rattle.lock.specs.Event.{fresh}
use Rattle.lock.specs.Cases.{places, cases, CasesHold}
use Rattle.lock.proofs.Roof.Opened.{computed}

pub cases_hold : CasesHold
unfolding computed fresh places cases
cases_hold = refl
