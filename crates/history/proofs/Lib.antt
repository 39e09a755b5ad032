-- The history's proofs, from the bottom up. No function of src/ has a folder beside these rooms: the check finds the proof, and those of
-- `claims` and `laws` by the lemma that each of them names.
--     AnyState      the theorem of the survivors, over any state
--     Keeping       soundness is kept
--     Following     the lock's state as such a layer; a history that follows a pile
--     Turning       an event as a loop carries it out that keeps state and journal apart
--     Claimed       the claims
--     Naming        whose row is shown
--     Computed      the P cases and the worked schedules
--     Single        only one answer fits
pub mod AnyState
pub mod Keeping
pub mod Following
pub mod Turning
pub mod Claimed
pub mod Naming
pub mod Computed
pub mod Single
