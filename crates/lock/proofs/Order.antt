-- Demand 3: why nobody is overtaken. Joins are numbered, and whoever enters has the smallest number of all in the queue. In the
-- order to read:
--     Tickets                        the numbers given out, and who stands in the queue
--     Roles                          what the table of places says of a row in the queue
--     Statement                      the invariant: a record of clauses
--     Carry, Near, Build             rows that a step does not write, neighbours, and putting the invariant together
--     Quiet                          the steps that move no ghost
--     Join, Link, Leave              places 3; 5 and 6; 14 to 16
--     Hand, Fence, Take              places 17 and 19; 18; 20 to 22
--     Peeked                         at 21 and 22: succ's next is still what was read
--     Invariant                      fresh, after every call; who enters first, who releases a guard, what a second read finds
pub mod Tickets
pub mod Roles
pub mod Statement
pub mod Carry
pub mod Near
pub mod Build
pub mod Quiet
pub mod Join
pub mod Link
pub mod Leave
pub mod Hand
pub mod Fence
pub mod Take
pub mod Peeked
pub mod Invariant
