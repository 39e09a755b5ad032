-- The ground of the lock's proofs: what the rooms above share. From the bottom up:
--     Rows, Writes     a state after one replaced row, and after an act, which writes one row or two
--     Places           places by name and by number, and what holds of each by one computed test
--     Facts            what each place is: the one table of places
--     Sets             a set of numbers as a list
--     Editions         which places an edition has: the rule is document 01's lists
--     Calls            what becomes of a call: refused, a raise, or a step
pub mod Rows
pub mod Writes
pub mod Places
pub mod Facts
pub mod Sets
pub mod Editions
pub mod Calls
