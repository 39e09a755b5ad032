-- The lock's proofs, from the bottom up. Beside these rooms, each function of src/ that needs one has a folder with its proof.
--     Ground        rows, places and calls: what the others share
--     Keeping       soundness is kept
--     Touched       what one event writes, so that it can be taken back
--     Exclusion     one token: never two inside, in every edition
--     Order         the invariant behind demand 3: whoever enters has the smallest number of all in the queue
--     Waiting       from the invariant to order, once and bound
--     Roof          the claims, and what else functions promise
pub mod Ground
pub mod Keeping
pub mod Touched
pub mod Exclusion
pub mod Order
pub mod Waiting
pub mod Roof
