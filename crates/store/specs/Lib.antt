pub mod Search
pub mod Paper
pub mod Kept
pub mod Unique
