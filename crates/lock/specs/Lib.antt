-- What must be believed of the lock, in document 01's order: the state, its soundness, the step table, the events; then runs,
-- what is counted in them and the claims about them; then the P cases, the old boards' lock, the second read, soundness kept, and
-- that only one answer fits. Named has the code's names of the documents' numbers; Places, after the step table, tells the rule by which the
-- editions have their places; Touched, after the runs, what one event writes.
pub mod State
pub mod Sound
pub mod Named
pub mod Acts
pub mod Table
pub mod Places
pub mod Event
pub mod Run
pub mod Touched
pub mod Kept
pub mod Count
pub mod Claims
pub mod Sharp
pub mod Cases
pub mod Old
pub mod Reread
pub mod Unique
