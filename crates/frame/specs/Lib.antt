-- What must be believed of frames, in document 01's order: digits, their case and their pairs, the check, what the reader
-- answers, what the writer leaves; and the laws that hold of them.
pub mod Case
pub mod Pairs
pub mod Reading
pub mod Writing
pub mod Laws
