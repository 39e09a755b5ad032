-- What must be believed of the report: the definition of who made whom wait, the table and its refusal, the report of a schedule
-- and of many, and what is claimed of them; then the words in which the inner functions speak.
pub mod Charges
pub mod Named
pub mod Table
pub mod Report
pub mod Order
pub mod Laid
pub mod AtMost
pub mod Sharp
pub mod Unique
pub mod Accounts
pub mod Followed
