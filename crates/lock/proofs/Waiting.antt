-- Demand 3: how long one waits. From the bottom up:
--     Kept        what a write leaves of the other rows' places and of released rows
--     Leads       where each act of the step table leads
--     Stepping    a step, seen through a test of places
--     Moves       what one call does to one that waits, or has entered
--     Outsiders   who is not in the queue stays out until its own join
--     Counting    laws of what is counted in a run
--     Reading     the equations a reader expects of it
--     Staying     who stays in the queue through some calls
--     Standing    the argument: nobody behind enters, the others once, at most N - 1 entries
--     Demand      the claims, from the invariant
-- Leads, Moves and Outsiders look at the step table; the argument does not.
pub mod Kept
pub mod Leads
pub mod Stepping
pub mod Moves
pub mod Outsiders
pub mod Counting
pub mod Reading
pub mod Staying
pub mod Standing
pub mod Demand
