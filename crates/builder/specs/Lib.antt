pub mod Paper
pub mod Unique
