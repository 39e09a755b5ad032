-- What must be believed of the functions for C and Rust: the one number that each answers, and the numbers of lent rows.
pub mod Written
pub mod Numbers
pub mod Unique
