-- What must be believed of the bench: the log of a schedule, what the lent buffer holds afterwards, how a log is a run, and
-- that the case of digits does not matter.
pub mod Named
pub mod Log
pub mod Lent
pub mod Steps
pub mod Laws
pub mod Bridge
pub mod Verdict
pub mod Case
