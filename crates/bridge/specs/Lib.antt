pub mod Asks
pub mod Answers
pub mod Shows
pub mod Counts
