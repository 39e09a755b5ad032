-- The roof of the lock's proofs: what functions of src/ promise, put together from the rooms below.
--     Opened, Computed     what it takes to compute a run; the P cases
--     Single, Named        only one answer fits; only one says what an answer says, and goes by a number
--     Inside               never two inside, from an invariant of states
--     Callers              calls of the library are a run
--     Claimed, Witness     the claims, and that they are sharp
--     Old                  the old boards' lock: no joins, and what is not claimed of it
--     Reread               the second read of next, and place 28
pub mod Opened
pub mod Computed
pub mod Single
pub mod Named
pub mod Inside
pub mod Callers
pub mod Claimed
pub mod Witness
pub mod Old
pub mod Reread
