pub mod Answers
pub mod Outcomes
pub mod Promises
pub mod Unique
pub mod Accepted
