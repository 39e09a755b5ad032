-- Laws of tests, and of a test of every number below a bound.
pub mod Tests
pub mod Numbers
