-- Laws that belong to no one function, from a test of every number up to the line, and document 01's worked lines.
pub mod Digits
pub mod Sums
pub mod Lines
pub mod Case
pub mod Buffers
pub mod Pass
pub mod Refusals
pub mod Back
pub mod Proved
pub mod Worked
