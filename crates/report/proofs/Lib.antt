-- The proofs of the report, from the bottom up:
--     Upto, Made              lists by number, and arrays that are made so
--     Mapped                  what `map_err` leaves known
--     Numbers, Single         the refusals' numbers; only one answer fits
--     Adding                  a table added to a table
--     Charging, Accounting    what one call changes in the counts, and in the accounts
--     Going, Opening          along the later lines; a schedule from its first line on
--     Latest, Once            what an entry charges, in the plain and guarded editions
--     Orders                  many schedules, in any order and in parts
--     Measuring, Laying       the report of a schedule; the lent rows
--     Witness                 the claims on schedules, computed
pub mod Upto
pub mod Made
pub mod Mapped
pub mod Numbers
pub mod Single
pub mod Adding
pub mod Charging
pub mod Accounting
pub mod Going
pub mod Opening
pub mod Latest
pub mod Once
pub mod Orders
pub mod Measuring
pub mod Laying
pub mod Witness
