pub mod Unique
pub mod Meaning
pub mod Accept
pub mod Add
pub mod WrittenBack
pub mod Kept
pub mod Counts
pub mod Round
